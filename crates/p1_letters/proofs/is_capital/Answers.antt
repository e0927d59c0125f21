use borrow.Author.Rules.{rules}
use Rattle.p1_letters.proofs.Alphabet.{capital_none, capital_ascii, capital_32, capital_1, capital_past}
use Rattle.p1_letters.proofs.is_capital.Goals as goal

ruleset answers = (rules, capital_none, capital_ascii, capital_32, capital_1, capital_past)

pub returns-then-x-lt65 : goal.returns-then-x-lt65
returns-then-x-lt65 c = search answers

pub returns-then-x-le90 : goal.returns-then-x-le90
returns-then-x-le90 c = search answers

pub returns-then-x-lt224 : goal.returns-then-x-lt224
returns-then-x-lt224 c = search answers

pub returns-then-x-gt7928 : goal.returns-then-x-gt7928
returns-then-x-gt7928 c = search answers

pub returns : goal.returns
returns c = search answers
