use borrow.Author.Rules.{rules}
use Rattle.p1_letters.proofs.Alphabet.{next_low, next_high, next_past}
use Rattle.p1_letters.proofs.is_small_next.Goals as goal

ruleset answers = (rules, next_low, next_high, next_past)

pub returns-then-x-lt7841 : goal.returns-then-x-lt7841
returns-then-x-lt7841 c = search answers

pub returns-then-x-gt7929 : goal.returns-then-x-gt7929
returns-then-x-gt7929 c = search answers

pub returns : goal.returns
returns c = search answers
