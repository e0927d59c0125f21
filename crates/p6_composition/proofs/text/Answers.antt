use borrow.Author.Rules.{rules}
use Rattle.p6_composition.proofs.InPlace.{text_start, text_on_lem, text_all}
use mathlib.Core.Path.{refl}
use Rattle.p6_composition.proofs.text.Goals as goal

ruleset answers = (rules, text_start, text_on_lem, text_all, refl)

pub loop-i-init : goal.loop-i-init
loop-i-init c = search answers

pub loop-i-preserved : goal.loop-i-preserved
loop-i-preserved c = search answers

pub returns : goal.returns
returns c = search answers
