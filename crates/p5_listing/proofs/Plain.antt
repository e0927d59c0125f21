-- The lower-case toneless form of a word is its own such form, and its verdict is the word's.
use Prim.Native.Nat.{ℕ}
use mathlib.Core.Path.{◌≡◌, refl, sym, ap, ap₂, ◌∙◌}
use mathlib.Core.Bool.{Bool, true, false}
use mathlib.Core.List.{[], ◌∷◌}
use lib.Dec.{T, eqb}
use borrow.Author.Tests.{eqb-true, eq-eqb}
use Rattle.p0_choice.specs.Choice.{pick, each}
use Rattle.p0_choice.specs.Text.{word}
use Rattle.p0_choice.proofs.Tables.{pick_first, pick_second}
use Rattle.p1_letters.specs.Alphabet.{lower, is_ascii_capital, small_by32, small_by1, small_high, small_next}
use Rattle.p1_letters.specs.Tones.{tone_off, off_in, tone_rows}
use Rattle.p4_rows.specs.Rows.{Word}
use Rattle.p4_spelling.specs.Verdict.{has_foreign, fits, lowered, toneless, verdict}
use Rattle.p4_spelling.proofs.Letters.{plain_letter, joined, touched, Stays, each_code_point, plain_stays, foreign_kept}
use Rattle.p5_listing.specs.Listed.{plain}

settles : ℕ → Bool
settles x = eqb (plain_letter (plain_letter x)) (plain_letter x)

pub letter_settles : (x : ℕ) → plain_letter (plain_letter x) ≡ plain_letter x
unfolding settles plain_letter touched joined word lower is_ascii_capital small_by32 small_by1 small_high small_next tone_off off_in tone_rows
letter_settles x = eqb-true (plain_letter (plain_letter x)) (plain_letter x) (each_code_point settles settled tt x)
  where
    settled : (y : ℕ) → Stays y → settles y ≡ true
    settled y s = eq-eqb (plain_letter (plain_letter y)) (plain_letter y) (ap plain_letter (plain_stays y s))

toneless_letter : ℕ → Bool
toneless_letter x = eqb (tone_off (plain_letter x)) (plain_letter x)

pub letter_toneless : (x : ℕ) → tone_off (plain_letter x) ≡ plain_letter x
unfolding toneless_letter plain_letter touched joined word lower is_ascii_capital small_by32 small_by1 small_high small_next tone_off off_in tone_rows
letter_toneless x = eqb-true (tone_off (plain_letter x)) (plain_letter x) (each_code_point toneless_letter kept tt x)
  where
    kept : (y : ℕ) → Stays y → toneless_letter y ≡ true
    kept y s = eq-eqb (tone_off (plain_letter y)) (plain_letter y) (ap tone_off (plain_stays y s) ∙ s.off ∙ sym (plain_stays y s))

cons_both : {x y : ℕ} {u w : Word} → x ≡ y → u ≡ w → x ∷ u ≡ y ∷ w
cons_both e f = ap₂ (λ (a : ℕ) (b : Word). a ∷ b) e f

plain_nil : plain [] ≡ []
unfolding plain lowered toneless
plain_nil = refl

pub plain_cons : (x : ℕ) (w : Word) → plain (x ∷ w) ≡ plain_letter x ∷ plain w
unfolding plain lowered toneless plain_letter
plain_cons x w = refl

pub plain_again : (w : Word) → plain (plain w) ≡ plain w
plain_again [] = ap plain plain_nil
plain_again (x ∷ w) =
    ap plain (plain_cons x w) ∙ plain_cons (plain_letter x) (plain w) ∙ cons_both (letter_settles x) (plain_again w) ∙ sym (plain_cons x w)

-- a word whose letters each are their own lower-case toneless form is its own
pub each_plain : (w : Word) → T (each (λ (x : ℕ). eqb (plain_letter x) x) w) → plain w ≡ w
each_plain [] t = plain_nil
each_plain (x ∷ w) t = plain_cons x w
    ∙ cons_both (eqb-true (plain_letter x) x (pick_first _ _ t)) (each_plain w (pick_second (eqb (plain_letter x) x) _ t))

-- no letter of the word has a tone
abbrev pub Toneless : Word → Type 0
Toneless [] = Unit {0}
Toneless (x ∷ w) = (tone_off x ≡ x) × Toneless w

pub plain_toneless : (w : Word) → Toneless (plain w)
plain_toneless [] = rw plain_nil tt
plain_toneless (x ∷ w) = rw (plain_cons x w) (letter_toneless x, plain_toneless w)

-- the verdict on a word that needs no folding
unfoldable pub core : Word → Bool
core u = pick (has_foreign u) false (fits u)

foreign_form : (w : Word) → has_foreign (plain w) ≡ has_foreign (lowered w)
unfolding plain
foreign_form w = foreign_kept w

pub verdict_core : (w : Word) → verdict w ≡ core (plain w)
unfolding verdict core plain
verdict_core w = ap (λ (b : Bool). pick b false (fits (plain w))) (sym (foreign_form w))

-- a word and its lower-case toneless form have one verdict
pub verdict_plain : (w : Word) → verdict (plain w) ≡ verdict w
verdict_plain w = verdict_core (plain w) ∙ ap core (plain_again w) ∙ sym (verdict_core w)
