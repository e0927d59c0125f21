-- The letter calls: "1: a code point outside the alphabet"; otherwise the answer is written.
use Rattle.std.specs.Prelude.{ℕ, Bool}
use Rattle.p0_choice.specs.Choice.{pick}
use Rattle.p0_refusals.specs.Refusals.{number_of}
use Rattle.p0_refusals.specs.declared.Refusal.TheVariants.{Foreign}
use Rattle.p1_letters.specs.Alphabet.{in_alphabet}

unfoldable pub letter_code : ℕ → ℕ
letter_code x = pick (in_alphabet x) 0 (number_of Foreign)

-- what then stands in the lent place: the answer, or what stood there
unfoldable pub letter_out : ℕ → ℕ → ℕ → ℕ
letter_out x answer old = pick (in_alphabet x) answer old

-- a letter and a tone key: either may be outside the alphabet
unfoldable pub tone_code : ℕ → ℕ → ℕ
tone_code x t = pick (in_alphabet x) (letter_code t) (number_of Foreign)

unfoldable pub tone_out : ℕ → ℕ → ℕ → ℕ → ℕ
tone_out x t answer old = pick (in_alphabet x) (letter_out t answer old) old

-- yes is 1, no is 0
abbrev pub flag_of : Bool → ℕ
flag_of b = pick b 1 0
