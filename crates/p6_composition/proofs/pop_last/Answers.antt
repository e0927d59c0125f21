use borrow.Author.Rules.{rules}
use Rattle.p6_composition.proofs.Calls.{unsound_answer, unsound_bytes, unsound_out}
use Rattle.p6_composition.proofs.InPlace.{less_few, less_byte, less_below, removals}
use Rattle.p6_composition.proofs.pop_last.Goals as goal

ruleset answers = (rules, unsound_answer, unsound_bytes, unsound_out, less_few, less_byte, less_below, removals)

pub returns-in_default : goal.returns-in_default
returns-in_default c = search answers

pub returns-then-n-eq0 : goal.returns-then-n-eq0
returns-then-n-eq0 c = rw (← c.in-Some.ensures.cases.0) (search answers)

pub returns-then-out-m : goal.returns-then-out-m
returns-then-out-m c = rw (← c.in-Some.ensures.cases.0) (search answers)

pub store-requires : goal.store-requires
store-requires c = search answers

pub overflow_cast-state : goal.overflow_cast-state
overflow_cast-state c = search answers

pub text-requires : goal.text-requires
text-requires c = search answers

pub returns : goal.returns
returns c = rw (← c.in-Some.ensures.cases.0) (search answers)
