-- `fits` in a form that antt computes fast, for the tests over all words: choices are lazy (`elim`), the tables come in as
-- arguments, so that they are computed once, and a vowel is one of the twelve, since the words tested have no tones.
use Prim.Native.Nat.{ℕ, zero, suc}
use mathlib.Core.Path.{◌≡◌, refl, sym, ap, ◌∙◌}
use mathlib.Core.Bool.{Bool, true, false}
use mathlib.Core.List.{List, [], ◌∷◌}
use lib.Dec.{eqb}
use lib.ListN.{take, drop}
use Rattle.p0_choice.specs.Choice.{pick, among}
use Rattle.p0_choice.specs.Text.{word, words}
use Rattle.p1_letters.specs.Tones.{tone_off}
use Rattle.p1_letters.specs.Vowels.{is_spelling_vowel, vowels}
use Rattle.p4_rows.specs.Rows.{Word, onset_rows, vowel_rows, coda_rows, onset_to_vowels, vowels_to_coda}
use Rattle.p4_rows.specs.Lookup.{same_word, in_list, rows_from, rows_of, in_rows, is_empty, go_together}
use Rattle.p4_spelling.specs.Cut.{before_vowel, vowel_run, is_glue, starts_glued, onset_end, onset_of, vowels_of, coda_of}
use Rattle.p4_spelling.specs.Verdict.{has_foreign, in_rows_if_any, onset_fits, coda_fits, parts_fit, fits}
use Rattle.p4_spelling.proofs.Parts.{coda_after}
use Rattle.p5_listing.proofs.Plain.{Toneless, core}

-- the lazy choice is the choice
pub lazily : {A : Type 0} (b c : Bool) (x y u v : A) → b ≡ c → x ≡ u → y ≡ v → ◌≡◌ {A = A} (elim b [ true ↦ x | false ↦ y ]) (pick c u v)
lazily true c x y u v e f g = f ∙ rw (← e)
lazily false c x y u v e f g = g ∙ rw (← e)

unfoldable pub quick_among : ℕ → List ℕ → Bool
quick_among x [] = false
quick_among x (y ∷ ys) = elim (eqb x y) [ true ↦ true | false ↦ quick_among x ys ]

quick_among_lem : (x : ℕ) (ys : List ℕ) → quick_among x ys ≡ among x ys
unfolding quick_among
quick_among_lem x [] = refl
quick_among_lem x (y ∷ ys) = lazily (eqb x y) (eqb x y) true (quick_among x ys) true (among x ys) refl refl (quick_among_lem x ys)

unfoldable pub quick_same : Word → Word → Bool
quick_same [] [] = true
quick_same [] (y ∷ w) = false
quick_same (x ∷ u) [] = false
quick_same (x ∷ u) (y ∷ w) = elim (eqb x y) [ true ↦ quick_same u w | false ↦ false ]

pub quick_same_lem : (u w : Word) → quick_same u w ≡ same_word u w
unfolding quick_same same_word
quick_same_lem [] [] = refl
quick_same_lem [] (y ∷ w) = refl
quick_same_lem (x ∷ u) [] = refl
quick_same_lem (x ∷ u) (y ∷ w) = lazily (eqb x y) (eqb x y) (quick_same u w) false (same_word u w) false refl (quick_same_lem u w) refl

unfoldable pub quick_in : Word → List Word → Bool
quick_in w [] = false
quick_in w (u ∷ us) = elim (quick_same w u) [ true ↦ true | false ↦ quick_in w us ]

quick_in_lem : (w : Word) (us : List Word) → quick_in w us ≡ in_list w us
unfolding quick_in in_list
quick_in_lem w [] = refl
quick_in_lem w (u ∷ us) = lazily (quick_same w u) (same_word w u) true (quick_in w us) true (in_list w us) (quick_same_lem w u) refl (quick_in_lem w us)

unfoldable pub quick_rows : ℕ → List (List Word) → Word → List ℕ
quick_rows i [] w = []
quick_rows i (r ∷ rs) w = elim (quick_in w r) [ true ↦ i ∷ quick_rows (suc i) rs w | false ↦ quick_rows (suc i) rs w ]

quick_rows_lem : (i : ℕ) (rs : List (List Word)) (w : Word) → quick_rows i rs w ≡ rows_from i rs w
unfolding quick_rows rows_from
quick_rows_lem i [] w = refl
quick_rows_lem i (r ∷ rs) w =
    lazily (quick_in w r) (in_list w r) (i ∷ quick_rows (suc i) rs w) (quick_rows (suc i) rs w) (i ∷ rows_from (suc i) rs w)
    (rows_from (suc i) rs w)
    (quick_in_lem w r) (ap (λ (l : List ℕ). i ∷ l) (quick_rows_lem (suc i) rs w)) (quick_rows_lem (suc i) rs w)

-- the cut, where vs are the vowels and gs the glued starts
unfoldable pub quick_before : List ℕ → Word → ℕ
quick_before vs [] = 0
quick_before vs (x ∷ w) = elim (quick_among x vs) [ true ↦ 0 | false ↦ suc (quick_before vs w) ]

unfoldable pub quick_run : List ℕ → Word → ℕ
quick_run vs [] = 0
quick_run vs (x ∷ w) = elim (quick_among x vs) [ true ↦ suc (quick_run vs w) | false ↦ 0 ]

unfoldable pub quick_glued : List ℕ → List Word → Word → Bool
quick_glued vs gs [] = false
quick_glued vs gs (x ∷ []) = false
quick_glued vs gs (x ∷ y ∷ []) = false
quick_glued vs gs (x ∷ y ∷ z ∷ w) = elim (quick_in (x ∷ y ∷ []) gs) [ true ↦ quick_among z vs | false ↦ false ]

pub quick_vowel : (x : ℕ) → tone_off x ≡ x → quick_among x vowels ≡ is_spelling_vowel x
unfolding is_spelling_vowel
quick_vowel x e = quick_among_lem x vowels ∙ ap (λ (y : ℕ). among y vowels) (sym e)

quick_before_lem : (w : Word) → Toneless w → quick_before vowels w ≡ before_vowel w
unfolding quick_before before_vowel
quick_before_lem [] t = refl
quick_before_lem (x ∷ w) t =
    lazily (quick_among x vowels) (is_spelling_vowel x) 0 (suc (quick_before vowels w)) 0 (suc (before_vowel w)) (quick_vowel x t.0) refl
    (ap suc (quick_before_lem w t.1))

quick_run_lem : (w : Word) → Toneless w → quick_run vowels w ≡ vowel_run w
unfolding quick_run vowel_run
quick_run_lem [] t = refl
quick_run_lem (x ∷ w) t =
    lazily (quick_among x vowels) (is_spelling_vowel x) (suc (quick_run vowels w)) 0 (suc (vowel_run w)) 0 (quick_vowel x t.0)
    (ap suc (quick_run_lem w t.1)) refl

quick_glued_lem : (w : Word) → Toneless w → quick_glued vowels (words "qu gi") w ≡ starts_glued w
unfolding quick_glued starts_glued is_glue
quick_glued_lem [] t = refl
quick_glued_lem (x ∷ []) t = refl
quick_glued_lem (x ∷ y ∷ []) t = refl
quick_glued_lem (x ∷ y ∷ z ∷ w) t =
    lazily (quick_in (x ∷ y ∷ []) (words "qu gi")) (in_list (x ∷ y ∷ []) (words "qu gi")) (quick_among z vowels) false
    (is_spelling_vowel z) false
    (quick_in_lem (x ∷ y ∷ []) (words "qu gi")) (quick_vowel z t.1.1.0) refl

toneless_drop : (n : ℕ) (w : Word) → Toneless w → Toneless (drop n w)
toneless_drop zero w t = t
toneless_drop (suc n) [] t = t
toneless_drop (suc n) (x ∷ w) t = toneless_drop n w t.1

-- the parts' rows, and whether onset and coda are absent
unfoldable pub quick_pairs : Bool → List ℕ → List ℕ → Bool → List ℕ → Bool
quick_pairs noOnset os vs noCoda cs =
    pick (pick noOnset true (pick (is_empty os) false true))
    (pick (pick (is_empty vs) false true)
    (pick (pick noCoda true (pick (is_empty cs) false true))
    (pick (pick noOnset true (go_together onset_to_vowels os vs)) (pick noCoda true (go_together vowels_to_coda vs cs)) false)
    false)
    false)
    false

quick_parts : (o v c : Word)
    → quick_pairs (is_empty o) (quick_rows 0 onset_rows o) (quick_rows 0 vowel_rows v) (is_empty c) (quick_rows 0 coda_rows c) ≡ parts_fit o v c
unfolding quick_pairs parts_fit in_rows_if_any in_rows rows_of onset_fits coda_fits
quick_parts o v c = rw (quick_rows_lem 0 onset_rows o, quick_rows_lem 0 vowel_rows v, quick_rows_lem 0 coda_rows c)

-- the verdict on three parts and their rows
unfoldable pub quick_shape : Word → List ℕ → Word → List ℕ → Word → List ℕ → Bool
quick_shape o os v vs c cs =
    elim (is_empty v) [ true ↦ pick (is_empty os) false true | false ↦ quick_pairs (is_empty o) os vs (is_empty c) cs ]

pub quick_shape_lem : (w : Word)
    → quick_shape (onset_of w) (quick_rows 0 onset_rows (onset_of w)) (vowels_of w) (quick_rows 0 vowel_rows (vowels_of w)) (coda_of w)
    (quick_rows 0 coda_rows (coda_of w)) ≡ fits w
unfolding quick_shape fits in_rows rows_of
quick_shape_lem w =
    lazily (is_empty (vowels_of w)) (is_empty (vowels_of w)) _ _ (pick (is_empty (rows_from 0 onset_rows (onset_of w))) false true)
    (parts_fit (onset_of w) (vowels_of w) (coda_of w)) refl
    (ap (λ (l : List ℕ). pick (is_empty l) false true) (quick_rows_lem 0 onset_rows (onset_of w)))
    (quick_parts (onset_of w) (vowels_of w) (coda_of w))

unfoldable pub quick_end : List ℕ → List Word → Word → ℕ
quick_end vs gs w = elim (quick_glued vs gs w) [ true ↦ 2 | false ↦ quick_before vs w ]

pub quick_end_lem : (w : Word) → Toneless w → quick_end vowels (words "qu gi") w ≡ onset_end w
unfolding quick_end onset_end
quick_end_lem w t =
    lazily (quick_glued vowels (words "qu gi") w) (starts_glued w) 2 (quick_before vowels w) 2 (before_vowel w) (quick_glued_lem w t) refl
    (quick_before_lem w t)

pub quick_rest_lem : (w : Word) → Toneless w → quick_run vowels (drop (onset_end w) w) ≡ vowel_run (drop (onset_end w) w)
quick_rest_lem w t = quick_run_lem (drop (onset_end w) w) (toneless_drop (onset_end w) w t)

unfoldable pub quick_parted : List (List Word) → List (List Word) → List (List Word) → Word → Word → Word → Bool
quick_parted os ns cs o v c = quick_shape o (quick_rows 0 os o) v (quick_rows 0 ns v) c (quick_rows 0 cs c)

-- the word whose onset o was cut off, n of whose other letters are vowels
unfoldable pub quick_rest : List (List Word) → List (List Word) → List (List Word) → Word → ℕ → Word → Bool
quick_rest os ns cs o n rest = quick_parted os ns cs o (take n rest) (drop n rest)

unfoldable pub quick_from : List (List Word) → List (List Word) → List (List Word) → List ℕ → ℕ → Word → Bool
quick_from os ns cs vs e w = quick_rest os ns cs (take e w) (quick_run vs (drop e w)) (drop e w)

unfoldable pub quick_fits : List (List Word) → List (List Word) → List (List Word) → List ℕ → List Word → Word → Bool
quick_fits os ns cs vs gs w = quick_from os ns cs vs (quick_end vs gs w) w

fits_parted : (w : Word) → quick_parted onset_rows vowel_rows coda_rows (onset_of w) (vowels_of w) (coda_of w) ≡ fits w
unfolding quick_parted
fits_parted w = quick_shape_lem w

quick_parted_lem : (w : Word) → quick_rest onset_rows vowel_rows coda_rows (take (onset_end w) w) (vowel_run (drop (onset_end w) w))
    (drop (onset_end w) w) ≡ fits w
unfolding quick_rest onset_of vowels_of
quick_parted_lem w = rw (← coda_after w) (fits_parted w)

pub quick_fits_lem : (w : Word) → Toneless w → quick_fits onset_rows vowel_rows coda_rows vowels (words "qu gi") w ≡ fits w
unfolding quick_fits quick_from
quick_fits_lem w t = rw (quick_end_lem w t, quick_rest_lem w t) (quick_parted_lem w)

unfoldable pub quick_foreign : List ℕ → Word → Bool
quick_foreign fs [] = false
quick_foreign fs (x ∷ w) = elim (quick_among x fs) [ true ↦ true | false ↦ quick_foreign fs w ]

pub quick_foreign_lem : (w : Word) → quick_foreign (word "fjwz") w ≡ has_foreign w
unfolding quick_foreign has_foreign
quick_foreign_lem [] = refl
quick_foreign_lem (x ∷ w) =
    lazily (quick_among x (word "fjwz")) (among x (word "fjwz")) true (quick_foreign (word "fjwz") w) true (has_foreign w)
    (quick_among_lem x (word "fjwz")) refl
    (quick_foreign_lem w)

unfoldable pub quick_core : List (List Word) → List (List Word) → List (List Word) → List ℕ → List Word → List ℕ → Word → Bool
quick_core os ns cs vs gs fs w = elim (quick_foreign fs w) [ true ↦ false | false ↦ quick_fits os ns cs vs gs w ]

-- at the tables of document 01
unfoldable pub quick : Word → Bool
quick w = quick_core onset_rows vowel_rows coda_rows vowels (words "qu gi") (word "fjwz") w

pub quick_core_lem : (w : Word) → Toneless w → quick w ≡ core w
unfolding quick quick_core core
quick_core_lem w t =
    lazily (quick_foreign (word "fjwz") w) (has_foreign w) false (quick_fits onset_rows vowel_rows coda_rows vowels (words "qu gi") w) false
    (fits w)
    (quick_foreign_lem w) refl (quick_fits_lem w t)
