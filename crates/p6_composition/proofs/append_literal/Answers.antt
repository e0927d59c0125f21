use borrow.Author.Rules.{rules}
use Rattle.p6_composition.proofs.Calls.{unsound_answer, unsound_bytes}
use Rattle.p6_composition.proofs.InPlace.{few, literals}
use Rattle.p6_composition.proofs.append_literal.Goals as goal

ruleset answers = (rules, unsound_answer, unsound_bytes, few, literals)

pub returns-in_default : goal.returns-in_default
returns-in_default c = search answers

pub returns-then-not-in_alphabet : goal.returns-then-not-in_alphabet
returns-then-not-in_alphabet c = rw (← c.in-Some.ensures.cases.0) (search answers)

pub returns-then-n-ge-LIMIT : goal.returns-then-n-ge-LIMIT
returns-then-n-ge-LIMIT c = rw (← c.in-Some.ensures.cases.0) (search answers)

pub returns : goal.returns
returns c = rw (← c.in-Some.ensures.cases.0) (search answers)
