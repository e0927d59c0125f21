-- The tone goes to one of the syllable's vowels that are kept, or to the last cell: so what holds of each vowel's place
-- holds of the tone's, and it is a cell's.
use Prim.Native.Nat.{ℕ, zero, suc, ◌+◌, ◌-◌, ◌<◌}
use mathlib.Core.Path.{◌≡◌, refl}
use mathlib.Core.Bool.{Bool, true, false}
use mathlib.Core.List.{List, [], ◌∷◌}
use native.Mathlib.Omega.{arith}
use lib.Dec.{eqb, ltb}
use lib.ListN.{length, get_or, drop, length-drop}
use lib.Seq.{get_or-drop}
use borrow.Author.Tests.{ltb-false}
use Rattle.p0_choice.specs.Choice.{pick}
use Rattle.p1_letters.specs.Vowels.{is_vowel}
use Rattle.p3_cells.specs.Cells.{blank}
use Rattle.p3_cells.specs.Text.{letter_of}
use Rattle.p3_cells.specs.declared.Cell.{Cell}
use Rattle.p3_tone.specs.TonePlace.{any_vowel, last_syllable, syllable_start, vowel_places, glides, kept, rises, chosen, place_of}
use Rattle.p3_tone.specs.TonePlace.{tone_place}
use Rattle.p3_tone.proofs.Syllable.{last_length}

module _ (P : ℕ → Type 0) where
  -- P holds at each of these places
  abbrev All : List ℕ → Type 0
  All ps = (j : ℕ) → j < length ps → P (get_or ps j 0)

  -- at each place of a vowel, and so at those that are listed
  pub vowels_are : (i : ℕ) (xs : List Cell) → ((j : ℕ) → j < length xs → is_vowel (letter_of (get_or xs j blank)) ≡ true → P (i + j))
      → All (vowel_places i xs)
  unfolding vowel_places
  vowels_are i [] f = λ k h. absurd (omega arith)
  vowels_are i (x ∷ xs) f =
      go (is_vowel (letter_of x)) refl
      (vowels_are (i + 1) xs (λ j l e. let d : i + suc j ≡ i + 1 + j = omega arith in rw d at (f (suc j) (omega arith) e)))
    where
      go : (b : Bool) → is_vowel (letter_of x) ≡ b → All (vowel_places (i + 1) xs)
          → All (pick b (i ∷ vowel_places (i + 1) xs) (vowel_places (i + 1) xs))
      go true e g zero h = let d : i + 0 ≡ i = omega arith in rw d at (f 0 (omega arith) e)
      go true e g (suc k) h = g k (omega arith)
      go false e g k h = g k h

  chosen_is : (cs : List Cell) (vs : List ℕ) → 0 < length vs → All vs → P (chosen cs vs)
  unfolding chosen
  chosen_is cs vs h f =
      go (eqb (length vs) 1) (rises (get_or cs (get_or vs (length vs - 2) 0) blank) (get_or cs (get_or vs (length vs - 1) 0) blank))
      (ltb (length vs) 3) refl
    where
      go : (a r t : Bool) → ltb (length vs) 3 ≡ t
          → P (pick a (get_or vs 0 0) (pick r (get_or vs (length vs - 1) 0) (pick t (get_or vs 0 0) (get_or vs 1 0))))
      go true r t e = f 0 h
      go false true t e = f (length vs - 1) (omega arith)
      go false false true e = f 0 h
      go false false false e = let l = ltb-false (length vs) 3 e in f 1 (omega arith)

  record Kept (vs : List ℕ) : Type 0 where
    some : 0 < length vs
    each : All vs

  kept_are : (start : ℕ) (s : List Cell) (vs : List ℕ) → 0 < length vs → All vs → Kept (kept start s vs)
  unfolding kept
  kept_are start s vs h f = go (ltb (length vs) 2) (eqb (get_or vs 0 0) (start + 1)) (glides s) refl
    where
      go : (a e g : Bool) → ltb (length vs) 2 ≡ a → Kept (pick a vs (pick e (pick g (drop 1 vs) vs) vs))
      go true e g q = record { some = h; each = f }
      go false true true q =
          let l = ltb-false (length vs) 2 q in
          let d : length (drop 1 vs) ≡ length vs - 1 = length-drop 1 vs in
          record { some = omega arith; each = λ j k. rw (get_or-drop 1 vs j 0) (f (1 + j) (omega arith)) }
      go false true false q = record { some = h; each = f }
      go false false g q = record { some = h; each = f }

  pub place_is : (cs s : List Cell) (start : ℕ) (vs : List ℕ) → 0 < length vs → All vs → P (place_of cs start s vs)
  unfolding place_of
  place_is cs s start [] h f = absurd (omega arith)
  place_is cs s start (v ∷ vs) h f =
      let k = kept_are start s (v ∷ vs) h f in chosen_is cs (kept start s (v ∷ vs)) k.some k.each

place_below : (cs s : List Cell) (start : ℕ) (vs : List ℕ) → 0 < length cs → ((j : ℕ) → j < length vs → get_or vs j 0 < length cs)
    → place_of cs start s vs < length cs
unfolding place_of
place_below cs s start [] h b = omega arith
place_below cs s start (v ∷ vs) h b = place_is (λ (p : ℕ). p < length cs) cs s start (v ∷ vs) (omega arith) b

pub vowel_some : (cs : List Cell) → any_vowel cs ≡ true → 0 < length cs
unfolding any_vowel
vowel_some [] e = let z : ◌≡◌ {A = ℕ} 0 1 = cc in absurd (omega arith)
vowel_some (x ∷ xs) e = omega arith

pub tone_below : (cs : List Cell) → 0 < length cs → tone_place cs < length cs
unfolding tone_place syllable_start
tone_below cs h =
    let l = last_length cs in
    let start : ℕ = length cs - length (last_syllable cs) in
    place_below cs (last_syllable cs) start (vowel_places start (last_syllable cs)) h
    (vowels_are (λ (p : ℕ). p < length cs) start (last_syllable cs) (λ j k e. omega arith))
