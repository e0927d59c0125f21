use borrow.Author.Rules.{rules}
use Rattle.p1_letters.proofs.Alphabet.{lower_ascii, lower_none, lower_32, lower_1, lower_fits}
use Rattle.p1_letters.proofs.lower.Goals as goal

ruleset answers = (rules, lower_ascii, lower_none, lower_32, lower_1)

pub returns-then-x-lt128 : goal.returns-then-x-lt128
returns-then-x-lt128 c = search answers

pub returns-then-not-is_capital : goal.returns-then-not-is_capital
returns-then-not-is_capital c = search answers

pub returns-then-x-lt224 : goal.returns-then-x-lt224
returns-then-x-lt224 c = search answers

pub returns : goal.returns
returns c = search answers

pub overflow_add-result-2 : goal.overflow_add-result-2
overflow_add-result-2 c = search lower_fits
