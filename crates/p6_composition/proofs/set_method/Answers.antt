use borrow.Author.Rules.{rules}
use Rattle.p6_composition.proofs.Calls.{unsound_answer, unsound_bytes, no_method, no_method_bytes}
use Rattle.p6_composition.proofs.InPlace.{method_told, method_cleared}
use Rattle.p6_composition.proofs.set_method.Goals as goal

ruleset answers = (rules, unsound_answer, unsound_bytes, no_method, no_method_bytes, method_told, method_cleared)

pub returns-in_default : goal.returns-in_default
returns-in_default c = search answers

pub returns-then-method-gt1 : goal.returns-then-method-gt1
returns-then-method-gt1 c = rw (← c.in-Some.ensures.cases.0) (search answers)

pub returns : goal.returns
returns c = rw (← c.in-Some.ensures.cases.0) (search answers)
