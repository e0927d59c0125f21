use borrow.Author.Rules.{rules}
use Rattle.p1_letters.proofs.ToneBlock.{asked_digit, asked_letter, no_letter, no_low, no_between, no_past}
use Rattle.p1_letters.proofs.column_of.Goals as goal

ruleset answers = (rules, asked_digit, asked_letter, no_letter, no_low, no_between, no_past)

pub returns-in-49-to-53 : goal.returns-in-49-to-53
returns-in-49-to-53 c = search answers

pub returns-then-column-eq0 : goal.returns-then-column-eq0
returns-then-column-eq0 c = search answers

pub returns-else-column-eq0 : goal.returns-else-column-eq0
returns-else-column-eq0 c = search answers

pub returns-in_default : goal.returns-in_default
returns-in_default c = search answers

pub returns-in_default-2 : goal.returns-in_default-2
returns-in_default-2 c = search answers

pub returns-in_default-3 : goal.returns-in_default-3
returns-in_default-3 c = search answers
