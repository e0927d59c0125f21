use borrow.Author.Rules.{rules}
use Rattle.p1_letters.proofs.Vowels.{vowel_blocks, spelling_blocks, spelling_high, spelling_past}
use Rattle.p1_letters.proofs.is_spelling_vowel.Goals as goal

ruleset answers = (rules, spelling_blocks, spelling_high, spelling_past)

pub returns-then-c-lt7840 : goal.returns-then-c-lt7840
unfolding vowel_blocks
returns-then-c-lt7840 c = search answers

pub returns-then-c-gt7929 : goal.returns-then-c-gt7929
returns-then-c-gt7929 c = search answers

pub returns : goal.returns
returns c = search answers
