use borrow.Author.Rules.{rules}
use Rattle.p1_letters.proofs.Vowels.{vowel_by}
use Rattle.p1_letters.proofs.is_vowel.Goals as goal

ruleset answers = (rules, vowel_by)

pub returns : goal.returns
returns c = search answers
