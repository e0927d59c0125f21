use borrow.Author.Rules.{rules}
use Rattle.p1_letters.proofs.ToneBlock.{on_apart, on_no_key, on_place, on_found}
use Rattle.p1_letters.proofs.apply_tone_to_char.Goals as goal

ruleset answers = (rules, on_apart, on_no_key, on_place, on_found)

pub returns-then-not-is_small_vowel : goal.returns-then-not-is_small_vowel
returns-then-not-is_small_vowel c = search answers

pub overflow_add-letter_place : goal.overflow_add-letter_place
overflow_add-letter_place c = search answers

pub returns-in-Some : goal.returns-in-Some
returns-in-Some c = search answers

pub returns-in-None : goal.returns-in-None
returns-in-None c = search answers
