-- The vowels of a row: whether there is one, and what the code keeps of the places of those from a place on.
use Prim.Native.Nat.{ℕ, suc, ◌+◌, ◌-◌, ◌<◌, ◌≤◌}
use mathlib.Core.Path.{◌≡◌, refl}
use mathlib.Core.Bool.{Bool, true, false}
use mathlib.Core.List.{List, [], ◌∷◌}
use native.Mathlib.Numerals.{add-one}
use native.Mathlib.Omega.{arith}
use lib.Dec.{ltb}
use lib.ListN.{length, get_or, drop, drop_of_length-le}
use borrow.Author.Tests.{ltb-true, ltb-false}
use Rattle.p0_choice.specs.Choice.{pick}
use Rattle.p1_letters.specs.Vowels.{is_vowel}
use Rattle.p3_cells.specs.Text.{letter_of}
use Rattle.p3_cells.specs.Mirror.{row_cells}
use Rattle.p3_cells.proofs.Row.{row_length, row_turn}
use Rattle.p3_tone.specs.TonePlace.{any_vowel, vowel_places}
use Rattle.std.specs.List.{list_any}
use Rattle.std.proofs.Common.{◌||◌}
use Rattle.p3_tone.specs.Mirror.{seen_of, with_first}
use Rattle.p3_tone.specs.declared.Seen.{Seen}

past : (row : List ℕ) (i : ℕ) → length row ≤ i → drop i (row_cells row) ≡ []
past row i h = let l : length (row_cells row) ≤ i = rw (row_length row) h in drop_of_length-le (row_cells row) l

-- ---- is there one
pub row_any : (row : List ℕ) → list_any is_vowel row ≡ any_vowel (row_cells row)
unfolding any_vowel row_cells letter_of
row_any [] = refl
row_any (x ∷ xs) = rw (← row_any xs) (go (is_vowel x))
  where
    go : (b : Bool) → (b || list_any is_vowel xs) ≡ pick b true (list_any is_vowel xs)
    go true = refl
    go false = refl

-- ---- their places, from the end back
places_turn : (row : List ℕ) (i : ℕ) → i < length row
    → vowel_places i (drop i (row_cells row)) ≡ pick (is_vowel (get_or row i 0)) (i ∷ vowel_places (i + 1) (drop (i + 1) (row_cells row)))
    (vowel_places (i + 1) (drop (i + 1) (row_cells row)))
unfolding vowel_places letter_of
places_turn row i h = rw (row_turn row i h) refl

pub vowels_none : (row : List ℕ)
    → record { count = 0; first = 0; second = 0; third = 0; before = 0; last = 0 }
    ≡ seen_of (vowel_places (length row) (drop (length row) (row_cells row)))
unfolding vowel_places seen_of
vowels_none row = rw (past row (length row) (omega arith)) refl

-- with one more before them
last_of : (n i : ℕ) (vs : List ℕ) → 0 < n → pick (ltb (length vs) n) i (get_or vs (length vs - n) 0) ≡ get_or (i ∷ vs) (suc (length vs) - n) 0
last_of n i vs h = go (ltb (length vs) n) refl
  where
    go : (b : Bool) → ltb (length vs) n ≡ b → pick b i (get_or vs (length vs - n) 0) ≡ get_or (i ∷ vs) (suc (length vs) - n) 0
    go true e = let l = ltb-true (length vs) n e in let d : suc (length vs) - n ≡ 0 = omega arith in rw d refl
    go false e = let l = ltb-false (length vs) n e in let d : suc (length vs) - n ≡ suc (length vs - n) = omega arith in rw d refl

with_one : (vs : List ℕ) (i : ℕ) → with_first (seen_of vs) i ≡ seen_of (i ∷ vs)
unfolding seen_of
with_one vs i = rw (last_of 2 i vs (omega arith), last_of 1 i vs (omega arith), add-one (length vs)) refl

-- the place i is looked at
module _ (row : List ℕ) (i : ℕ) (v : Seen) (h : i < length row)
    (e : v ≡ seen_of (vowel_places (i + 1) (drop (i + 1) (row_cells row)))) (w : Bool) (q : w ≡ is_vowel (get_or row i 0)) where
  pub vowels_on : w ≡ false → v ≡ seen_of (vowel_places i (drop i (row_cells row)))
  vowels_on t = rw (places_turn row i h, ← q, t) e

  pub vowels_more : w ≡ true → with_first v i ≡ seen_of (vowel_places i (drop i (row_cells row)))
  vowels_more t = rw (places_turn row i h, ← q, t, e) (with_one (vowel_places (i + 1) (drop (i + 1) (row_cells row))) i)

pub ruleset seen = (vowels_none, vowels_on, vowels_more)
