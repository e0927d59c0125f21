use borrow.Author.Rules.{rules}
use mathlib.Core.Path.{refl}
use Rattle.p5_utf8_text.proofs.Spreading.{ways}
use Rattle.p5_utf8_text.proofs.reader.spread.Goals as goal

ruleset answers = (rules, ways, refl)

pub loop-i-preserved-then-a-lt128 : goal.loop-i-preserved-then-a-lt128
loop-i-preserved-then-a-lt128 c = search answers

pub bounds-bytes-i-in-loop-i : goal.bounds-bytes-i-in-loop-i
bounds-bytes-i-in-loop-i c = search answers

pub loop-i-preserved-then-a-lt224 : goal.loop-i-preserved-then-a-lt224
loop-i-preserved-then-a-lt224 c = search answers

pub bounds-bytes-i-in-loop-i-2 : goal.bounds-bytes-i-in-loop-i-2
bounds-bytes-i-in-loop-i-2 c = search answers

pub loop-i-preserved : goal.loop-i-preserved
loop-i-preserved c = (search answers, search answers, search answers, search answers, search answers)

pub returns : goal.returns
returns c = search answers
