-- The scans of the cut, a letter at a time, and that the places stand in the word in their order.
use Prim.Native.Nat.{ℕ, suc, ◌+◌, ◌-◌, ◌≤◌, ◌<◌}
use mathlib.Core.Path.{◌≡◌, refl, sym, ap, ◌∙◌}
use mathlib.Core.Bool.{Bool, true, false, not, cond}
use mathlib.Core.List.{[], ◌∷◌}
use native.Mathlib.Omega.{arith}
use Rattle.std.specs.Prelude.{Option, Some, None, unwrap_or, position, nat_lt}
use Rattle.std.specs.List.{position_or_len}
use Rattle.std.proofs.lemmas.List.Recursion.{is_position_or_len}
use lib.ListN.{length, take, drop, get_or, length-drop}
use lib.Seq.{take_all}
use borrow.Author.Tests.{ltb-false}
use Rattle.p0_choice.specs.Choice.{pick}
use Rattle.p1_letters.specs.Vowels.{is_spelling_vowel}
use Rattle.p4_rows.specs.Rows.{Word}
use Rattle.p4_spelling.specs.Cut.{before_vowel, vowel_run, is_glue, starts_glued, onset_end, vowels_end}
use Rattle.p4_spelling.specs.Answers.{places_of}

before_le : (w : Word) → before_vowel w ≤ length w
unfolding before_vowel
before_le [] = omega arith
before_le (x ∷ w) = go (is_spelling_vowel x) (before_le w)
  where
    go : (b : Bool) → before_vowel w ≤ length w → pick b 0 (suc (before_vowel w)) ≤ suc (length w)
    go true h = omega arith
    go false h = omega arith

run_le : (w : Word) → vowel_run w ≤ length w
unfolding vowel_run
run_le [] = omega arith
run_le (x ∷ w) = go (is_spelling_vowel x) (run_le w)
  where
    go : (b : Bool) → vowel_run w ≤ length w → pick b (suc (vowel_run w)) 0 ≤ suc (length w)
    go true h = omega arith
    go false h = omega arith

-- ---- a scan: r is the first place where it ends
before_first : (w : Word) → before_vowel w ≡ position_or_len is_spelling_vowel w
unfolding before_vowel
before_first w = is_position_or_len before_vowel is_spelling_vowel refl (λ x xs. turned (is_spelling_vowel x) (before_vowel xs)) w
  where
    turned : (b : Bool) (n : ℕ) → pick b 0 (suc n) ≡ cond b 0 (1 + n)
    turned true n = refl
    turned false n = omega arith

run_first : (w : Word) → vowel_run w ≡ position_or_len (λ x. not (is_spelling_vowel x)) w
unfolding vowel_run
run_first w =
    is_position_or_len vowel_run (λ x. not (is_spelling_vowel x)) refl (λ x xs. turned (is_spelling_vowel x) (vowel_run xs)) w
  where
    turned : (b : Bool) (n : ℕ) → pick b (suc n) 0 ≡ cond (not b) 0 (1 + n)
    turned true n = omega arith
    turned false n = refl

pub first_or_all : (n m : ℕ) → n ≤ m → unwrap_or (cond (nat_lt n m) (Some n) None) m ≡ n
first_or_all n m h = go (nat_lt n m) refl
  where
    go : (b : Bool) → nat_lt n m ≡ b → unwrap_or (cond b (Some n) None) m ≡ n
    go true e = refl
    go false e = omega (arith, ltb-false n m e)

module _ (w : Word) (r : Option ℕ) where
  pub before_is : r ≡ position is_spelling_vowel w → unwrap_or r (length w) ≡ before_vowel w
  before_is e = rw (e, ← before_first w) (first_or_all (before_vowel w) (length w) (before_le w))

  pub run_is : r ≡ position (λ x. not (is_spelling_vowel x)) w → unwrap_or r (length w) ≡ vowel_run w
  run_is e = rw (e, ← run_first w) (first_or_all (vowel_run w) (length w) (run_le w))

-- ---- the end of the onset
module _ (w : Word) where
  short_unglued : length w < 3 → starts_glued w ≡ false
  unfolding starts_glued
  short_unglued l = go w l
    where
      go : (u : Word) → length u < 3 → starts_glued u ≡ false
      go [] h = refl
      go (x ∷ []) h = refl
      go (x ∷ y ∷ []) h = refl
      go (x ∷ y ∷ z ∷ u) h = absurd (omega arith)

  glued_is : 3 ≤ length w → starts_glued w ≡ pick (is_glue (get_or w 0 0) (get_or w 1 0)) (is_spelling_vowel (get_or w 2 0)) false
  unfolding starts_glued
  glued_is l = go w l
    where
      go : (u : Word) → 3 ≤ length u → starts_glued u ≡ pick (is_glue (get_or u 0 0) (get_or u 1 0)) (is_spelling_vowel (get_or u 2 0)) false
      go [] h = absurd (omega arith)
      go (x ∷ []) h = absurd (omega arith)
      go (x ∷ y ∷ []) h = absurd (omega arith)
      go (x ∷ y ∷ z ∷ u) h = refl

  end_plain : (r : ℕ) → starts_glued w ≡ false → r ≡ before_vowel w → r ≡ onset_end w
  unfolding onset_end
  end_plain r e h = rw e h

  pub end_short : (r : ℕ) → length w < 3 → r ≡ before_vowel w → r ≡ onset_end w
  end_short r l h = end_plain r (short_unglued l) h

  pub end_unglued : (r : ℕ) (g : Bool) → 3 ≤ length w → g ≡ is_glue (get_or w 0 0) (get_or w 1 0) → g ≡ false → r ≡ before_vowel w
      → r ≡ onset_end w
  end_unglued r g l e f h = end_plain r (glued_is l ∙ rw (sym e ∙ f)) h

  pub end_no_vowel : (r : ℕ) (g v : Bool) → 3 ≤ length w → g ≡ is_glue (get_or w 0 0) (get_or w 1 0) → g ≡ true
      → v ≡ is_spelling_vowel (get_or w 2 0) → v ≡ false
      → r ≡ before_vowel w → r ≡ onset_end w
  end_no_vowel r g v l e f p q h = end_plain r (glued_is l ∙ rw (sym e ∙ f, sym p ∙ q)) h

  pub end_glued : (g v : Bool) → 3 ≤ length w → g ≡ is_glue (get_or w 0 0) (get_or w 1 0) → g ≡ true → v ≡ is_spelling_vowel (get_or w 2 0)
      → v ≡ true
      → 2 ≡ onset_end w
  unfolding onset_end
  end_glued g v l e f p q = rw (glued_is l) (rw (sym e ∙ f, sym p ∙ q))

-- ---- the places stand in the word, in their order
pub onset_le : (w : Word) → onset_end w ≤ length w
unfolding onset_end starts_glued
onset_le [] = before_le []
onset_le (x ∷ []) = before_le (x ∷ [])
onset_le (x ∷ y ∷ []) = before_le (x ∷ y ∷ [])
onset_le (x ∷ y ∷ z ∷ w) = go (pick (is_glue x y) (is_spelling_vowel z) false) (before_le (x ∷ y ∷ z ∷ w))
  where
    go : (b : Bool) → before_vowel (x ∷ y ∷ z ∷ w) ≤ length (x ∷ y ∷ z ∷ w)
        → pick b 2 (before_vowel (x ∷ y ∷ z ∷ w)) ≤ length (x ∷ y ∷ z ∷ w)
    go true h = omega arith
    go false h = h

pub vowels_le : (w : Word) → vowels_end w ≤ length w
unfolding vowels_end
vowels_le w = omega (arith, onset_le w, run_le (drop (onset_end w) w), length-drop (onset_end w) w)

pub onset_first : (w : Word) → onset_end w ≤ vowels_end w
unfolding vowels_end
onset_first w = omega arith

module _ (w : Word) where
  pub end_within : (r : ℕ) → r ≡ onset_end w → r ≤ length w
  end_within r e = omega (arith, onset_le w)

  -- parts as the code lends them
  pub whole_rest : (n : ℕ) → n ≤ length w → take (length w - n) (drop n w) ≡ drop n w
  whole_rest n l = take_all (length w - n) (drop n w) (omega (arith, length-drop n w))

  pub from_start : (n : ℕ) → take (n - 0) w ≡ take n w
  from_start n = let e : n - 0 ≡ n = omega arith in rw e

  -- the run of the rest, lent as a part
  pub places_are : (a b : ℕ) → a ≡ onset_end w → b ≡ vowel_run (take (length w - a) (drop a w))
      → record { onset = a; vowels = a + b } ≡ places_of w
  unfolding places_of vowels_end
  places_are a b ea eb =
      rw (eb ∙ ap vowel_run (whole_rest a (end_within a ea)), ea)

  pub places_within : (a b : ℕ) → a ≡ onset_end w → b ≡ vowel_run (take (length w - a) (drop a w)) → a + b ≤ length w
  unfolding vowels_end
  places_within a b ea eb = omega
      (arith, eb ∙ ap vowel_run (whole_rest a (end_within a ea)), ap (λ (n : ℕ). vowel_run (drop n w)) ea, ea, vowels_le w)
