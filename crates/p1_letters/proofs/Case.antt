-- Lower and upper case stay in the alphabet, by computation.
use Prim.Native.Nat.{ℕ}
use mathlib.Core.Path.{◌≡◌}
use mathlib.Core.Bool.{true}
use Rattle.p0_choice.specs.Text.{word}
use Rattle.p1_letters.specs.Alphabet.{small_by32, small_by1, small_high, small_next, is_small, is_ascii_capital, is_capital, in_alphabet}
use Rattle.p1_letters.specs.Alphabet.{ascii_upper, lower, upper}
use Rattle.p1_letters.proofs.Alphabet.{every_letter}

module _ (x : ℕ) (e : in_alphabet x ≡ true) where
  pub ascii_upper_stays : in_alphabet (ascii_upper x) ≡ true
  unfolding small_by32 small_by1 small_high small_next is_small is_ascii_capital is_capital in_alphabet ascii_upper word
  ascii_upper_stays = every_letter (λ (y : ℕ). in_alphabet (ascii_upper y)) tt tt x e

  pub lower_stays : in_alphabet (lower x) ≡ true
  unfolding small_by32 small_by1 small_high small_next is_small is_ascii_capital is_capital in_alphabet lower word
  lower_stays = every_letter (λ (y : ℕ). in_alphabet (lower y)) tt tt x e

  pub upper_stays : in_alphabet (upper x) ≡ true
  unfolding small_by32 small_by1 small_high small_next is_small is_ascii_capital is_capital in_alphabet ascii_upper upper word
  upper_stays = every_letter (λ (y : ℕ). in_alphabet (upper y)) tt tt x e
