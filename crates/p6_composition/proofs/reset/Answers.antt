use borrow.Author.Rules.{rules}
use Rattle.p6_composition.proofs.Calls.{unsound_answer, unsound_bytes}
use Rattle.p6_composition.proofs.InPlace.{reset_told, reset_cleared}
use Rattle.p6_composition.proofs.reset.Goals as goal

ruleset answers = (rules, unsound_answer, unsound_bytes, reset_told, reset_cleared)

pub returns-in_default : goal.returns-in_default
returns-in_default c = search answers

pub returns : goal.returns
returns c = rw (← c.in-Some.ensures.cases.0) (search answers)
