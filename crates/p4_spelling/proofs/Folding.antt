-- The word in lower case without tones, a letter at a time, into an array for the longest: no longer word is accepted.
use Prim.Native.Nat.{ℕ, zero, suc, ◌+◌, ◌-◌, ◌≤◌, ◌<◌}
use mathlib.Core.Path.{◌≡◌, refl, sym, ap, ◌∙◌}
use mathlib.Core.Bool.{Bool, true, false}
use mathlib.Core.List.{[], ◌∷◌, ◌++◌, map, append-nil}
use native.Mathlib.Omega.{arith}
use native.Mathlib.Numerals.{add-one}
use lib.Dec.{T}
use lib.ListN.{length, take, drop, get_or, set, length-set, length-map, drop_of_length-le}
use lib.Seq.{drop-cons, take-suc-set, append_snoc, get_or-take}
use Rattle.p0_choice.specs.Choice.{pick}
use Rattle.p0_choice.specs.Text.{word, words, words_from}
use Rattle.p1_letters.specs.Alphabet.{lower}
use Rattle.p1_letters.specs.Tones.{tone_off}
use Rattle.p4_rows.specs.Rows.{Word, onset_rows}
use Rattle.p4_rows.specs.Lookup.{same_word, in_list, rows_from, rows_of, in_rows}
use Rattle.p4_spelling.specs.Cut.{before_vowel, vowel_run, starts_glued, onset_end, onset_of, vowels_of}
use Rattle.p4_spelling.specs.Verdict.{has_foreign, fits, lowered, toneless, verdict, longest_length}
use Rattle.p4_spelling.proofs.Parts.{fits_short}
use Rattle.p4_spelling.proofs.Letters.{foreign_kept, fits_foreign, first_foreign_lem}

-- the first i letters are in the array
pub record Folded (w plain : Word) (i : ℕ) : Type 0 where
  pub within : i ≤ length w
  pub eight : length plain ≡ longest_length
  pub is : toneless (lowered w) ≡ take i plain ++ toneless (lowered (drop i w))

long_form : (w : Word) → length (toneless (lowered w)) ≡ length w
unfolding toneless lowered
long_form w = length-map (map lower w) tone_off ∙ length-map w lower

-- by the form alone: the verdict is what the rows say, but for a z
by_form : (w : Word) (b : Bool) → (get_or (toneless (lowered w)) 0 0 ≡ 0x7a → ⊥) → b ≡ fits (toneless (lowered w)) → b ≡ verdict w
unfolding verdict
by_form w b n e = e ∙ go (fits (toneless (lowered w))) refl (has_foreign (lowered w)) refl
  where
    go : (f : Bool) → fits (toneless (lowered w)) ≡ f → (g : Bool) → has_foreign (lowered w) ≡ g → f ≡ pick g false f
    go true p true q =
        let c : has_foreign (toneless (lowered w)) ≡ false = fits_foreign (toneless (lowered w)) (rw p tt) n in
        sym (sym c ∙ foreign_kept w ∙ q)
    go true p false q = refl
    go false p true q = refl
    go false p false q = refl

by_foreign : (w : Word) → get_or (toneless (lowered w)) 0 0 ≡ 0x7a → false ≡ verdict w
unfolding verdict
by_foreign w z = rw (sym (foreign_kept w) ∙ first_foreign_lem (toneless (lowered w)) z)

either_way : (w : Word) → (T (fits (toneless (lowered w))) → ⊥) → false ≡ verdict w
unfolding verdict
either_way w n = go (has_foreign (lowered w)) (fits (toneless (lowered w))) n
  where
    go : (a b : Bool) → (T b → ⊥) → false ≡ pick a false b
    go true b k = refl
    go false true k = absurd (k tt)
    go false false k = refl

pub too_long : (w : Word) → longest_length < length w → false ≡ verdict w
too_long w h =
    either_way w
    (λ (t : T (fits (toneless (lowered w)))). let s = fits_short (toneless (lowered w)) t in omega (arith, long_form w))

form_cons : (x : ℕ) (w : Word) → toneless (lowered (x ∷ w)) ≡ tone_off (lower x) ∷ toneless (lowered w)
unfolding toneless lowered
form_cons x w = refl

form_nil : toneless (lowered []) ≡ []
unfolding toneless lowered
form_nil = refl

empty_no : false ≡ verdict []
unfolding verdict has_foreign lowered toneless fits vowels_of onset_of onset_end starts_glued before_vowel vowel_run in_rows rows_of rows_from in_list
    same_word onset_rows word words words_from
empty_no = refl

pub fold_begin : (w plain : Word) → length plain ≡ longest_length → Folded w plain 0
fold_begin w plain e = record { within = omega arith; eight = e; is = refl }

module _ (w plain : Word) (i : ℕ) (k : Folded w plain i) where
  pub fold_on : (x y : ℕ) → i < length w → x ≡ lower (get_or w i 0) → y ≡ tone_off x → i < longest_length → Folded w (set plain i y) (i + 1)
  fold_on x y l ex ey s = record {
    within = omega arith;
    eight = length-set plain i y ∙ k.eight;
    is =
        k.is ∙ ap (λ (u : Word). take i plain ++ toneless (lowered u)) (drop-cons w i 0 l)
        ∙ ap (λ (u : Word). take i plain ++ u)
        (form_cons (get_or w i 0) (drop (suc i) w) ∙ ap (λ (z : ℕ). z ∷ toneless (lowered (drop (suc i) w))) (sym (ey ∙ ap tone_off ex)))
        ∙ sym (append_snoc (take i plain) y (toneless (lowered (drop (suc i) w))))
        ∙ rw (add-one i) (ap (λ (u : Word). u ++ toneless (lowered (drop (suc i) w)))
        (sym (take-suc-set plain i y (omega (arith, k.eight)))));
  }

  -- all letters are in the array
  module _ (l : length w ≤ i) where
    whole : toneless (lowered w) ≡ take i plain
    whole =
        k.is ∙ ap (λ (u : Word). take i plain ++ toneless (lowered u)) (drop_of_length-le w l)
        ∙ ap (λ (u : Word). take i plain ++ u) form_nil ∙ append-nil (take i plain)

    pub begins_z : get_or plain 0 0 ≡ 0x7a → false ≡ verdict w
    begins_z z = go w refl
      where
        go : (u : Word) → w ≡ u → false ≡ verdict w
        go [] e = rw e empty_no
        go (x ∷ u) e =
            by_foreign w (ap (λ (v : Word). get_or v 0 0) whole ∙ get_or-take i plain 0 0 (omega (arith, ap length e)) ∙ z)

    pub folded : (r : Bool) → (get_or plain 0 0 ≡ 0x7a → ⊥) → r ≡ fits (take (length w - 0) plain) → r ≡ verdict w
    folded r n e =
        let m : length w - 0 ≡ i = omega (arith, k.within) in
        by_form w r (λ (z : get_or (toneless (lowered w)) 0 0 ≡ 0x7a). n (not_here z)) (e ∙ rw (m, whole))
      where
        not_here : get_or (toneless (lowered w)) 0 0 ≡ 0x7a → get_or plain 0 0 ≡ 0x7a
        not_here z = at plain i (ap (λ (v : Word). get_or v 0 0) (sym whole) ∙ z)
          where
            at : (v : Word) (j : ℕ) → get_or (take j v) 0 0 ≡ 0x7a → get_or v 0 0 ≡ 0x7a
            at v zero q = absurd (omega arith)
            at [] (suc j) q = absurd (omega arith)
            at (y ∷ v) (suc j) q = q
