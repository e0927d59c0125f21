-- The three parts of a word join to it, and those of a word that fits are parts of the rows; so it is no longer than the longest.
use Prim.Native.Nat.{ℕ, suc, ◌≤◌}
use mathlib.Core.Path.{◌≡◌, refl, sym, ap, ◌∙◌, subst}
use mathlib.Core.Bool.{Bool, true, false}
use mathlib.Core.List.{List, [], ◌∷◌, ◌++◌}
use native.Mathlib.Omega.{arith}
use lib.Dec.{T, leb, leb→le}
use lib.ListN.{length, take, drop, take-append-drop, length-append}
use lib.Seq.{drop-drop}
use Rattle.p0_choice.specs.Choice.{pick}
use Rattle.p0_choice.specs.Text.{word, words, words_from}
use Rattle.p1_letters.specs.Vowels.{is_spelling_vowel}
use Rattle.p4_rows.specs.Rows.{Word, onset_rows, vowel_rows, coda_rows}
use Rattle.p4_rows.specs.Lookup.{in_list, rows_of, in_rows, is_empty}
use Rattle.p4_rows.proofs.Words.{both_of, each_in}
use Rattle.p4_rows.proofs.InRows.{row_words, parts, listed_in, empty_in}
use Rattle.p4_spelling.specs.Cut.{before_vowel, vowel_run, is_glue, starts_glued, onset_end, vowels_end, onset_of, vowels_of, coda_of}
use Rattle.p4_spelling.specs.Verdict.{in_rows_if_any, onset_fits, coda_fits, parts_fit, fits, longest_length}

pub coda_after : (w : Word) → coda_of w ≡ drop (vowel_run (drop (onset_end w) w)) (drop (onset_end w) w)
unfolding coda_of vowels_end
coda_after w = sym (drop-drop (vowel_run (drop (onset_end w) w)) (onset_end w) w)

pub parts_join : (w : Word) → onset_of w ++ (vowels_of w ++ coda_of w) ≡ w
unfolding onset_of vowels_of
parts_join w =
    rw (coda_after w)
    (ap (λ (u : Word). take (onset_end w) w ++ u) (take-append-drop (vowel_run (drop (onset_end w) w)) (drop (onset_end w) w))
    ∙ take-append-drop (onset_end w) w)

-- a word that starts with no vowel has an empty run
pub run_empty : (u : Word) → T (is_empty (take (vowel_run u) u)) → vowel_run u ≡ 0
unfolding vowel_run
run_empty [] t = refl
run_empty (x ∷ u) t = go (is_spelling_vowel x) t
  where
    go : (b : Bool) → T (is_empty (take (pick b (suc (vowel_run u)) 0) (x ∷ u))) → pick b (suc (vowel_run u)) 0 ≡ 0
    go true q = absurd q
    go false q = refl

-- what follows the letters before the first vowel starts with it, or is nothing
none_after : (w : Word) → vowel_run (drop (before_vowel w) w) ≡ 0 → drop (before_vowel w) w ≡ []
unfolding vowel_run before_vowel
none_after [] e = refl
none_after (x ∷ w) e = go (is_spelling_vowel x) refl (λ q. none_after w q) e
  where
    go : (b : Bool) → is_spelling_vowel x ≡ b → (vowel_run (drop (before_vowel w) w) ≡ 0 → drop (before_vowel w) w ≡ [])
        → vowel_run (drop (pick b 0 (suc (before_vowel w))) (x ∷ w)) ≡ 0 → drop (pick b 0 (suc (before_vowel w))) (x ∷ w) ≡ []
    go true v k q = absurd (let z : suc (vowel_run w) ≡ 0 = rw v at q in omega arith)
    go false v k q = k q

-- a glued word has a vowel after its onset
glued_vowel : (w : Word) → T (starts_glued w) → vowel_run (drop 2 w) ≡ 0 → ⊥
unfolding starts_glued vowel_run
glued_vowel [] g e = g
glued_vowel (x ∷ []) g e = g
glued_vowel (x ∷ y ∷ []) g e = g
glued_vowel (x ∷ y ∷ z ∷ w) g e = go (is_spelling_vowel z) (both_of (is_glue x y) (is_spelling_vowel z) g).1 e
  where
    go : (b : Bool) → T b → pick b (suc (vowel_run w)) 0 ≡ 0 → ⊥
    go true t q = omega arith
    go false t q = t

-- with no vowels there is no coda
pub no_coda : (w : Word) → T (is_empty (vowels_of w)) → coda_of w ≡ []
unfolding vowels_of onset_end
no_coda w t = go (starts_glued w) refl (run_empty (drop (onset_end w) w) t)
  where
    go : (b : Bool) → starts_glued w ≡ b → vowel_run (drop (pick b 2 (before_vowel w)) w) ≡ 0 → coda_of w ≡ []
    go true g q = absurd (glued_vowel w (subst (λ (b : Bool). T b) (sym g) tt) q)
    go false g q = coda_after w ∙ rw g (rw q (none_after w q))

-- the three parts are parts of the rows
pub record Parts (w : Word) : Type 0 where
  pub onset : T (in_list (onset_of w) (parts onset_rows))
  pub vowels : T (in_list (vowels_of w) (parts vowel_rows))
  pub coda : T (in_list (coda_of w) (parts coda_rows))

is_empty_lem : (u : Word) → T (is_empty u) → u ≡ []
is_empty_lem [] t = refl
is_empty_lem (x ∷ u) t = absurd t

any_in : (rows : List (List Word)) (u : Word) → T (in_rows_if_any rows u) → T (in_list u (parts rows))
unfolding in_rows_if_any
any_in rows [] t = empty_in rows
any_in rows (x ∷ u) t = listed_in rows (x ∷ u) t

none_in : (w : Word) → T (is_empty (vowels_of w)) → T (in_rows onset_rows (onset_of w)) → Parts w
none_in w e t = record {
  onset = listed_in onset_rows (onset_of w) t;
  vowels = rw (is_empty_lem (vowels_of w) e) (empty_in vowel_rows);
  coda = rw (no_coda w e) (empty_in coda_rows);
}

some_in : (w : Word) → T (parts_fit (onset_of w) (vowels_of w) (coda_of w)) → Parts w
unfolding parts_fit
some_in w t =
    let o : Word = onset_of w in
    let v : Word = vowels_of w in
    let c : Word = coda_of w in
    let F : Bool = pick (onset_fits o (rows_of vowel_rows v)) (coda_fits (rows_of vowel_rows v) c) false in
    let p : T (in_rows_if_any onset_rows o) × T (pick (in_rows vowel_rows v) (pick (in_rows_if_any coda_rows c) F false) false) =
    both_of (in_rows_if_any onset_rows o) (pick (in_rows vowel_rows v) (pick (in_rows_if_any coda_rows c) F false) false) t in
    let q : T (in_rows vowel_rows v) × T (pick (in_rows_if_any coda_rows c) F false) =
    both_of (in_rows vowel_rows v) (pick (in_rows_if_any coda_rows c) F false) p.1 in
    record {
      onset = any_in onset_rows o p.0;
      vowels = listed_in vowel_rows v q.0;
      coda = any_in coda_rows c (both_of (in_rows_if_any coda_rows c) F q.1).0;
    }

pub fits_parts : (w : Word) → T (fits w) → Parts w
unfolding fits
fits_parts w t = go (is_empty (vowels_of w)) refl t
  where
    go : (b : Bool) → is_empty (vowels_of w) ≡ b → T (pick b (in_rows onset_rows (onset_of w)) (parts_fit (onset_of w) (vowels_of w) (coda_of w)))
        → Parts w
    go true e q = none_in w (rw e tt) q
    go false e q = some_in w q

at_most : ℕ → Word → Bool
at_most n u = leb (length u) n

module _ (u : Word) where
  onset_short : T (in_list u (parts onset_rows)) → length u ≤ 3
  unfolding at_most parts row_words onset_rows word words words_from
  onset_short t = leb→le (length u) 3 (each_in (at_most 3) (parts onset_rows) tt u t)

  vowels_short : T (in_list u (parts vowel_rows)) → length u ≤ 3
  unfolding at_most parts row_words vowel_rows word words words_from
  vowels_short t = leb→le (length u) 3 (each_in (at_most 3) (parts vowel_rows) tt u t)

  coda_short : T (in_list u (parts coda_rows)) → length u ≤ 2
  unfolding at_most parts row_words coda_rows word words words_from
  coda_short t = leb→le (length u) 2 (each_in (at_most 2) (parts coda_rows) tt u t)

-- "The longest has 8 letters."
pub fits_short : (w : Word) → T (fits w) → length w ≤ longest_length
fits_short w t =
    let p : Parts w = fits_parts w t in
    omega (
      arith,
      ap length (parts_join w),
      length-append (onset_of w) (vowels_of w ++ coda_of w),
      length-append (vowels_of w) (coda_of w),
      onset_short (onset_of w) p.onset,
      vowels_short (vowels_of w) p.vowels,
      coda_short (coda_of w) p.coda,
    )
