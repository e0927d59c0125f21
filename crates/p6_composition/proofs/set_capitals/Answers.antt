use borrow.Author.Rules.{rules}
use Rattle.p6_composition.proofs.Calls.{unsound_answer, unsound_bytes, no_capitals, no_capitals_bytes}
use Rattle.p6_composition.proofs.InPlace.{capitals_told, capitals_bytes}
use Rattle.p6_composition.proofs.set_capitals.Goals as goal

ruleset answers = (rules, unsound_answer, unsound_bytes, no_capitals, no_capitals_bytes, capitals_told, capitals_bytes)

pub returns-in_default : goal.returns-in_default
returns-in_default c = search answers

pub returns-then-on-gt1 : goal.returns-then-on-gt1
returns-then-on-gt1 c = rw (← c.in-Some.ensures.cases.0) (search answers)

pub returns : goal.returns
returns c = rw (← c.in-Some.ensures.cases.0) (search answers)
