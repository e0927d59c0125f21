-- No second answer fits a public function's contract, and no second content of a place that is lent to it.
use mathlib.Core.Path.{refl}
use Rattle.p0_choice.proofs.Only.{OneAnswer, alike}
use Rattle.p1_letters.proofs as own

pub is_capital_only : OneAnswer own.is_capital.Kinds.ps own.is_capital.Kinds.r own.is_capital.Reads.Asked own.is_capital.Reads.Learnt
is_capital_only κs a = (tt, λ z z' w w' q q'. (alike q q', refl))

pub in_alphabet_only : OneAnswer own.in_alphabet.Kinds.ps own.in_alphabet.Kinds.r own.in_alphabet.Reads.Asked own.in_alphabet.Reads.Learnt
in_alphabet_only κs a = (tt, λ z z' w w' q q'. (alike q q', refl))

pub all_letters_only : OneAnswer own.all_letters.Kinds.ps own.all_letters.Kinds.r own.all_letters.Reads.Asked own.all_letters.Reads.Learnt
all_letters_only κs a = (tt, λ z z' w w' q q'. (alike q q', refl))

pub is_white_space_only :
    OneAnswer own.is_white_space.Kinds.ps own.is_white_space.Kinds.r own.is_white_space.Reads.Asked own.is_white_space.Reads.Learnt
is_white_space_only κs a = (tt, λ z z' w w' q q'. (alike q q', refl))

pub is_separator_only :
    OneAnswer own.is_separator.Kinds.ps own.is_separator.Kinds.r own.is_separator.Reads.Asked own.is_separator.Reads.Learnt
is_separator_only κs a = (tt, λ z z' w w' q q'. (alike q q', refl))

pub ascii_lower_only : OneAnswer own.ascii_lower.Kinds.ps own.ascii_lower.Kinds.r own.ascii_lower.Reads.Asked own.ascii_lower.Reads.Learnt
ascii_lower_only κs a = (tt, λ z z' w w' q q'. (alike q q', refl))

pub ascii_upper_only : OneAnswer own.ascii_upper.Kinds.ps own.ascii_upper.Kinds.r own.ascii_upper.Reads.Asked own.ascii_upper.Reads.Learnt
ascii_upper_only κs a = (tt, λ z z' w w' q q'. (alike q q', refl))

pub lower_only : OneAnswer own.lower.Kinds.ps own.lower.Kinds.r own.lower.Reads.Asked own.lower.Reads.Learnt
lower_only κs a = (tt, λ z z' w w' q q'. (alike q q', refl))

pub upper_only : OneAnswer own.upper.Kinds.ps own.upper.Kinds.r own.upper.Reads.Asked own.upper.Reads.Learnt
upper_only κs a = (tt, λ z z' w w' q q'. (alike q q', refl))

pub apply_tone_to_char_only :
    OneAnswer own.apply_tone_to_char.Kinds.ps own.apply_tone_to_char.Kinds.r
    own.apply_tone_to_char.Reads.Asked own.apply_tone_to_char.Reads.Learnt
apply_tone_to_char_only κs a = (tt, λ z z' w w' q q'. (alike q q', refl))

pub strip_tone_only : OneAnswer own.strip_tone.Kinds.ps own.strip_tone.Kinds.r own.strip_tone.Reads.Asked own.strip_tone.Reads.Learnt
strip_tone_only κs a = (tt, λ z z' w w' q q'. (alike q q', refl))

pub is_small_vowel_only :
    OneAnswer own.is_small_vowel.Kinds.ps own.is_small_vowel.Kinds.r own.is_small_vowel.Reads.Asked own.is_small_vowel.Reads.Learnt
is_small_vowel_only κs a = (tt, λ z z' w w' q q'. (alike q q', refl))

pub is_vowel_only : OneAnswer own.is_vowel.Kinds.ps own.is_vowel.Kinds.r own.is_vowel.Reads.Asked own.is_vowel.Reads.Learnt
is_vowel_only κs a = (tt, λ z z' w w' q q'. (alike q q', refl))

pub is_spelling_vowel_only :
    OneAnswer own.is_spelling_vowel.Kinds.ps own.is_spelling_vowel.Kinds.r
    own.is_spelling_vowel.Reads.Asked own.is_spelling_vowel.Reads.Learnt
is_spelling_vowel_only κs a = (tt, λ z z' w w' q q'. (alike q q', refl))
