use borrow.Author.Rules.{rules}
use Rattle.p1_letters.proofs.Alphabet.{letter_blocks, alphabet_ascii, alphabet_high, alphabet_blocks}
use Rattle.p1_letters.proofs.in_alphabet.Goals as goal

ruleset answers = (rules, alphabet_ascii, alphabet_high, alphabet_blocks)

pub returns-then-x-lt128 : goal.returns-then-x-lt128
returns-then-x-lt128 c = search answers

pub returns-then-x-ge7840 : goal.returns-then-x-ge7840
returns-then-x-ge7840 c = search answers

pub returns : goal.returns
unfolding letter_blocks
returns c = search answers
