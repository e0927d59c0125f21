use borrow.Author.Rules.{rules}
use Rattle.p6_composition.proofs.Calls.{unsound_answer, unsound_bytes}
use Rattle.p6_composition.proofs.InPlace.{few}
use Rattle.p6_composition.proofs.OneUndo.{refusals}
use Rattle.p6_composition.proofs.undo_telex_transform.Goals as goal

ruleset answers = (rules, unsound_answer, unsound_bytes, few, refusals)

pub returns-in_default : goal.returns-in_default
returns-in_default c = search answers

pub returns-then-raw-gt-LETTERS : goal.returns-then-raw-gt-LETTERS
returns-then-raw-gt-LETTERS c = rw (← c.in-Some.ensures.cases.0) (search answers)

pub returns-then-not-in_alphabet : goal.returns-then-not-in_alphabet
returns-then-not-in_alphabet c = rw (← c.in-Some.ensures.cases.0) (search answers)

pub returns-then-not-all_letters : goal.returns-then-not-all_letters
returns-then-not-all_letters c = rw (← c.in-Some.ensures.cases.0) (search answers)

pub undo_found-requires : goal.undo_found-requires
undo_found-requires c = search answers

pub returns : goal.returns
returns c = rw (← c.in-Some.ensures.cases.0) (search answers)
