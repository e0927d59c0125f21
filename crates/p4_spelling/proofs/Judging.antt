-- The verdict on a word of small letters without tones, from what the calls in it answer.
use Prim.Native.Nat.{ℕ, zero, suc, ◌-◌, ◌≤◌}
use mathlib.Core.Path.{◌≡◌, refl, sym, ap, ◌∙◌}
use mathlib.Core.Bool.{Bool, true, false, not}
use mathlib.Core.List.{List, [], ◌∷◌}
use native.Mathlib.Omega.{arith}
use lib.Dec.{T, eqb}
use lib.ListN.{length, take, drop}
use borrow.Author.Tests.{ne_eqb}
use Rattle.p0_choice.specs.Choice.{pick}
use Rattle.p4_rows.specs.Rows.{Word, onset_rows, vowel_rows, coda_rows, onset_to_vowels, vowels_to_coda}
use Rattle.p4_rows.specs.Lookup.{rows_of, is_empty, in_rows, allows_any, go_together}
use Rattle.p4_spelling.specs.declared.CutPlaces.{CutPlaces}
use Rattle.p4_spelling.specs.Cut.{vowel_run, onset_end, vowels_end, onset_of, vowels_of, coda_of}
use Rattle.p4_spelling.specs.Verdict.{in_rows_if_any, onset_fits, coda_fits, parts_fit, fits}
use Rattle.p4_spelling.specs.Answers.{places_of}
use Rattle.p4_spelling.proofs.Parts.{run_empty}
use Rattle.p4_spelling.proofs.Scans.{onset_le, vowels_le, from_start, whole_rest}

-- ---- onset and coda
none_taken : (n : ℕ) (w : Word) → n ≤ length w → is_empty (take n w) ≡ eqb n 0
none_taken zero w h = refl
none_taken (suc n) [] h = absurd (omega arith)
none_taken (suc n) (x ∷ w) h = sym (ne_eqb (suc n) 0 (λ (e : suc n ≡ 0). omega arith))

module _ (w : Word) (rows : List ℕ) where
  pub no_coda_rows : length w ≡ 0 → true ≡ coda_fits rows w
  unfolding coda_fits
  no_coda_rows h = go w h
    where
      go : (u : Word) → length u ≡ 0 → true ≡ coda_fits rows u
      go [] q = refl
      go (x ∷ u) q = absurd (omega arith)

  pub some_coda : (c : List ℕ) (r : Bool) → (length w ≡ 0 → ⊥) → c ≡ rows_of coda_rows w
      → r ≡ go_together vowels_to_coda rows c → r ≡ coda_fits rows w
  unfolding coda_fits
  some_coda c r h e q = q ∙ ap (go_together vowels_to_coda rows) e ∙ go w h
    where
      go : (u : Word) → (length u ≡ 0 → ⊥) → go_together vowels_to_coda rows (rows_of coda_rows u) ≡ coda_fits rows u
      go [] n = absurd (n refl)
      go (x ∷ u) n = refl

-- ---- a part that is not listed goes with none
onset_in_no_row : (w : Word) (rows : List ℕ) → in_rows_if_any onset_rows w ≡ false → onset_fits w rows ≡ false
unfolding in_rows_if_any in_rows onset_fits go_together
onset_in_no_row [] rows e = e
onset_in_no_row (x ∷ w) rows e = go (rows_of onset_rows (x ∷ w)) e
  where
    go : (l : List ℕ) → pick (is_empty l) false true ≡ false → go_together onset_to_vowels l rows ≡ false
    go [] q = refl
    go (i ∷ l) q = let z : ◌≡◌ {A = ℕ} 0 1 = cc in absurd (omega arith)

none_with : (m : List (List ℕ)) (is : List ℕ) → go_together m is [] ≡ false
unfolding go_together allows_any
none_with m [] = refl
none_with m (i ∷ is) = none_with m is

coda_in_no_row : (w : Word) (rows : List ℕ) → in_rows_if_any coda_rows w ≡ false → coda_fits rows w ≡ false
unfolding in_rows_if_any in_rows coda_fits
coda_in_no_row [] rows e = e
coda_in_no_row (x ∷ w) rows e = go (rows_of coda_rows (x ∷ w)) e
  where
    go : (l : List ℕ) → pick (is_empty l) false true ≡ false → go_together vowels_to_coda rows l ≡ false
    go [] q = none_with vowels_to_coda rows
    go (i ∷ l) q = let z : ◌≡◌ {A = ℕ} 0 1 = cc in absurd (omega arith)

shorter : (a l c f g : Bool) → (a ≡ false → f ≡ false) → (c ≡ false → g ≡ false)
    → pick a (pick l (pick c (pick f g false) false) false) false ≡ pick l (pick f g false) false
shorter true true true f g p q = refl
shorter true true false true g p q = sym (q refl)
shorter true true false false g p q = refl
shorter true false c f g p q = refl
shorter false true c f g p q = rw (p refl)
shorter false false c f g p q = refl

parts_shorter : (o v c : Word)
    → parts_fit o v c ≡ pick (in_rows vowel_rows v) (pick (onset_fits o (rows_of vowel_rows v)) (coda_fits (rows_of vowel_rows v) c) false) false
unfolding parts_fit
parts_shorter o v c =
    shorter (in_rows_if_any onset_rows o) (in_rows vowel_rows v) (in_rows_if_any coda_rows c) (onset_fits o (rows_of vowel_rows v))
    (coda_fits (rows_of vowel_rows v) c)
    (onset_in_no_row o (rows_of vowel_rows v)) (coda_in_no_row c (rows_of vowel_rows v))

-- ---- the whole
by_count : (l : List ℕ) → not (eqb (length l) 0) ≡ pick (is_empty l) false true
by_count [] = refl
by_count (i ∷ l) = rw (ne_eqb (length (i ∷ l)) 0 (λ (e : length (i ∷ l) ≡ 0). omega arith))

none_listed : (l : List ℕ) → length l ≡ 0 → is_empty l ≡ true
none_listed [] h = refl
none_listed (i ∷ l) h = absurd (omega arith)

some_listed : (l : List ℕ) → (length l ≡ 0 → ⊥) → is_empty l ≡ false
some_listed [] h = absurd (h refl)
some_listed (i ∷ l) h = refl

module _ (w : Word) (p : CutPlaces) (e : p ≡ places_of w) where
  at_onset : p.onset ≡ onset_end w
  unfolding places_of
  at_onset = ap (λ (q : CutPlaces). q.onset) e

  at_vowels : p.vowels ≡ vowels_end w
  unfolding places_of
  at_vowels = ap (λ (q : CutPlaces). q.vowels) e

  onset_is : take (p.onset - 0) w ≡ onset_of w
  unfolding onset_of
  onset_is = from_start w p.onset ∙ rw at_onset

  no_letters : is_empty (onset_of w) ≡ eqb p.onset 0
  unfolding onset_of
  no_letters = rw at_onset (none_taken (onset_end w) w (onset_le w))

  vowels_are : take (p.vowels - p.onset) (drop p.onset w) ≡ vowels_of w
  unfolding vowels_of vowels_end
  vowels_are =
      let n : p.vowels - p.onset ≡ vowel_run (drop (onset_end w) w) = omega (arith, at_onset, at_vowels) in
      rw (n, at_onset)

  coda_is : take (length w - p.vowels) (drop p.vowels w) ≡ coda_of w
  unfolding coda_of
  coda_is = whole_rest w p.vowels (omega (arith, at_vowels, vowels_le w)) ∙ rw at_vowels

  no_vowels : p.onset ≡ p.vowels → is_empty (vowels_of w) ≡ true
  unfolding vowels_of vowels_end
  no_vowels h = let n : vowel_run (drop (onset_end w) w) ≡ 0 = omega (arith, at_onset, at_vowels) in rw n

  none_run : T (is_empty (vowels_of w)) → p.onset ≡ p.vowels
  unfolding vowels_of vowels_end
  none_run t = omega (arith, run_empty (drop (onset_end w) w) t, at_onset, at_vowels)

  some_vowels : (p.onset ≡ p.vowels → ⊥) → is_empty (vowels_of w) ≡ false
  some_vowels h = go (is_empty (vowels_of w)) refl
    where
      go : (b : Bool) → is_empty (vowels_of w) ≡ b → b ≡ false
      go true q = absurd (h (none_run (rw q tt)))
      go false q = refl

  pub bare_onset : (o : List ℕ) (r : Bool) → p.onset ≡ p.vowels → o ≡ rows_of onset_rows (take (p.onset - 0) w)
      → r ≡ not (eqb (length o) 0) → r ≡ fits w
  unfolding fits in_rows
  bare_onset o r h q f = f ∙ rw (no_vowels h, ← (q ∙ ap (rows_of onset_rows) onset_is)) (by_count o)

  -- the vowels' rows are v
  module _ (v : List ℕ) (h : p.onset ≡ p.vowels → ⊥) (q : v ≡ rows_of vowel_rows (take (p.vowels - p.onset) (drop p.onset w))) where
    rows_are : v ≡ rows_of vowel_rows (vowels_of w)
    rows_are = q ∙ ap (rows_of vowel_rows) vowels_are

    whole : fits w ≡ pick (in_rows vowel_rows (vowels_of w)) (pick (onset_fits (onset_of w) v) (coda_fits v (coda_of w)) false) false
    unfolding fits
    whole = rw (some_vowels h, rows_are) (parts_shorter (onset_of w) (vowels_of w) (coda_of w))

    pub vowels_in_no_row : length v ≡ 0 → false ≡ fits w
    unfolding in_rows
    vowels_in_no_row c = sym (whole ∙ rw (none_listed (rows_of vowel_rows (vowels_of w)) (rw rows_are at c)))

    module _ (c : length v ≡ 0 → ⊥) (o : List ℕ) (d : o ≡ rows_of onset_rows (take (p.onset - 0) w)) (f : Bool)
        (k : f ≡ pick (eqb p.onset 0) true (go_together onset_to_vowels o v)) where
      onset_says : onset_fits (onset_of w) v ≡ f
      unfolding onset_fits
      onset_says = rw (no_letters, ← onset_is, ← d) (sym k)

      listed : is_empty (rows_of vowel_rows (vowels_of w)) ≡ false
      listed = some_listed (rows_of vowel_rows (vowels_of w)) (rw rows_are at c)

      pub onset_unfit : f ≡ false → false ≡ fits w
      unfolding in_rows
      onset_unfit n = sym (whole ∙ rw (listed, onset_says, n))

      pub coda_decides : (r : Bool) → f ≡ true → r ≡ coda_fits v (take (length w - p.vowels) (drop p.vowels w)) → r ≡ fits w
      unfolding in_rows
      coda_decides r n e = e ∙ ap (coda_fits v) coda_is ∙ sym (whole ∙ rw (listed, onset_says, n))
