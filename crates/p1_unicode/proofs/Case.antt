-- Lower and upper case are Unicode's on the whole alphabet: each is one test that antt computes.
use Prim.Native.Nat.{ℕ}
use mathlib.Core.Path.{◌≡◌, refl}
use mathlib.Core.Bool.{true, not}
use mathlib.Core.Logic.{◌↔◌}
use lib.Dec.{eqb}
use borrow.Author.Tests.{eqb-true, eqb-false, ne_eqb, not-true}
use Rattle.p0_choice.specs.Choice.{same}
use Rattle.p0_choice.specs.Text.{word}
use Rattle.p0_choice.proofs.Tables.{same_true}
use Rattle.p1_letters.specs.Alphabet.{small_by32, small_by1, small_high, small_next, is_small, is_ascii_capital, is_capital, in_alphabet, ascii_upper}
use Rattle.p1_letters.specs.Alphabet.{lower, upper}
use Rattle.p1_letters.proofs.Alphabet.{every_letter}
use Rattle.p1_letters.proofs.Case.{lower_stays}
use Rattle.p1_unicode.specs.Ucd.{case_pairs}
use Rattle.p1_unicode.specs.Case.{small_in, capital_in, simple_lower, simple_upper}

module _ (x : ℕ) (e : in_alphabet x ≡ true) where
  pub lower_unicode : lower x ≡ simple_lower x
  unfolding small_by32 small_by1 small_high small_next is_small is_ascii_capital is_capital in_alphabet lower word small_in simple_lower case_pairs
  lower_unicode = eqb-true (lower x) (simple_lower x) (every_letter (λ (y : ℕ). eqb (lower y) (simple_lower y)) tt tt x e)

  pub upper_unicode : upper x ≡ simple_upper x
  unfolding small_by32 small_by1 small_high small_next is_small is_ascii_capital is_capital in_alphabet ascii_upper upper word capital_in simple_upper
      case_pairs
  upper_unicode = eqb-true (upper x) (simple_upper x) (every_letter (λ (y : ℕ). eqb (upper y) (simple_upper y)) tt tt x e)

  is_capital_lower : is_capital x ≡ not (eqb (lower x) x)
  unfolding small_by32 small_by1 small_high small_next is_small is_ascii_capital is_capital in_alphabet lower word
  is_capital_lower = same_true _ _ (every_letter (λ (y : ℕ). same (is_capital y) (not (eqb (lower y) y))) tt tt x e)

  -- a letter is a capital exactly if its simple lower case is another letter
  pub capital_unicode : is_capital x ≡ true ↔ ((in_alphabet (simple_lower x) ≡ true) × (simple_lower x ≡ x → ⊥))
  capital_unicode = rw (is_capital_lower, ← lower_unicode) (there, back)
    where
      there : not (eqb (lower x) x) ≡ true → (in_alphabet (lower x) ≡ true) × (lower x ≡ x → ⊥)
      there h = (lower_stays x e, eqb-false (lower x) x (not-true (eqb (lower x) x) h))

      back : (in_alphabet (lower x) ≡ true) × (lower x ≡ x → ⊥) → not (eqb (lower x) x) ≡ true
      back h = rw (ne_eqb (lower x) x h.1) refl
