-- The input method's calls: a number that is no method is refused by 10, as bytes that spell none are; then "1: a code
-- point outside the alphabet".
use Rattle.std.specs.Prelude.{ℕ, leb}
use Rattle.p0_choice.specs.Choice.{pick}
use Rattle.p0_refusals.specs.Refusals.{number_of}
use Rattle.p0_refusals.specs.declared.Refusal.TheVariants.{Unsound}
use Rattle.p6_host.specs.LetterCalls.{letter_code, letter_out, tone_code, tone_out}

unfoldable pub key_code : ℕ → ℕ → ℕ
key_code m key = pick (leb m 1) (letter_code key) (number_of Unsound)

unfoldable pub key_out : ℕ → ℕ → ℕ → ℕ → ℕ
key_out m key answer old = pick (leb m 1) (letter_out key answer old) old

-- a base and a key: either may be outside the alphabet
unfoldable pub mark_code : ℕ → ℕ → ℕ → ℕ
mark_code m base key = pick (leb m 1) (tone_code base key) (number_of Unsound)

unfoldable pub mark_out : ℕ → ℕ → ℕ → ℕ → ℕ → ℕ
mark_out m base key answer old = pick (leb m 1) (tone_out base key answer old) old
