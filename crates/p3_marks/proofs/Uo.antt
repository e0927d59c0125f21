-- The uo step's scan, as the code goes through it; that cells and the row of their bases have its place in common; and
-- where that place can be.
use Rattle.std.specs.Prelude.{None, Some}
use Prim.Native.Nat.{ℕ, zero, suc, ◌+◌, ◌-◌, ◌<◌, ◌≤◌}
use mathlib.Core.Path.{◌≡◌, refl}
use mathlib.Core.Bool.{Bool, true, false}
use mathlib.Core.List.{List}
use mathlib.Core.Logic.{◌⊎◌, inl, inr}
use native.Mathlib.Omega.{arith}
use lib.Dec.{eqb}
use lib.ListN.{length, get_or}
use Rattle.p0_choice.specs.Choice.{pick}
use Rattle.p1_letters.specs.Alphabet.{ascii_lower}
use Rattle.p1_letters.specs.Vowels.{is_vowel}
use Rattle.p3_cells.specs.declared.Cell.{Cell}
use Rattle.p3_cells.specs.Row.{bases}
use Rattle.p3_cells.specs.Mirror.{row_cells}
use Rattle.p3_cells.proofs.Row.{row_length}
use Rattle.p3_marks.specs.Uo.{base_at, uo_back, uo_place}
use Rattle.p3_marks.proofs.Base.{row_base, same_base, same_length}

pub uo_first : (row : List ℕ) → uo_place (row_cells row) ≡ uo_back (row_cells row) (length row + 5 - length row) (length row)
unfolding uo_place
uo_first row = let d : length row + 5 - length row ≡ 5 = omega arith in rw (row_length row, d) refl

turn : (cs : List Cell) (n i : ℕ) → uo_back cs (suc n) (suc (suc i))
    ≡ pick (eqb (base_at cs (suc i)) 111) (pick (eqb (base_at cs i) 117) (Some i) None) (pick (is_vowel (base_at cs (suc i))) None (uo_back cs n (suc i)))
unfolding uo_back
turn cs n i = refl

few : (cs : List Cell) (left i : ℕ) → (left ≡ 0) ⊎ (i < 2) → uo_back cs left i ≡ None
unfolding uo_back
few cs zero i h = refl
few cs (suc n) zero h = refl
few cs (suc n) (suc zero) h = refl
few cs (suc n) (suc (suc j)) (inl h) = absurd (omega arith)
few cs (suc n) (suc (suc j)) (inr h) = absurd (omega arith)

-- the o is looked for at a place of the last five
pub uo_turn : (row : List ℕ) (i : ℕ) → 1 ≤ i → length row ≤ i + 5
    → uo_back (row_cells row) (i + 1 + 5 - length row) (i + 1)
    ≡ pick (eqb (ascii_lower (get_or row i 0)) 111) (pick (eqb (ascii_lower (get_or row (i - 1) 0)) 117) (Some (i - 1)) None)
    (pick (is_vowel (ascii_lower (get_or row i 0))) None (uo_back (row_cells row) (i + 5 - length row) i))
uo_turn row zero h l = absurd (omega arith)
uo_turn row (suc j) h l =
    let a : suc j + 1 + 5 - length row ≡ suc (suc j + 5 - length row) = omega arith in
    let b : suc j + 1 ≡ suc (suc j) = omega arith in
    let d : suc j - 1 ≡ j = omega arith in
    rw (a, b, d, turn (row_cells row) (suc j + 5 - length row) j, row_base row (suc j), row_base row j) refl

-- none of them is left
pub uo_end : (row : List ℕ) (i : ℕ) → (i + 5 ≤ length row) ⊎ (i < 2) → uo_back (row_cells row) (i + 5 - length row) i ≡ None
uo_end row i (inl h) = few (row_cells row) (i + 5 - length row) i (inl (omega arith))
uo_end row i (inr h) = few (row_cells row) (i + 5 - length row) i (inr h)

-- ---- the place: one of a cell that has another after it
back_below : (cs : List Cell) (n i j : ℕ) → uo_back cs n i ≡ Some j → suc j < i
unfolding uo_back
back_below cs zero i j e = let z : ◌≡◌ {A = ℕ} 0 1 = cc in absurd (omega arith)
back_below cs (suc n) zero j e = let z : ◌≡◌ {A = ℕ} 0 1 = cc in absurd (omega arith)
back_below cs (suc n) (suc zero) j e = let z : ◌≡◌ {A = ℕ} 0 1 = cc in absurd (omega arith)
back_below cs (suc n) (suc (suc i)) j e =
    go (eqb (base_at cs (suc i)) 111) (eqb (base_at cs i) 117) (is_vowel (base_at cs (suc i))) e
    (λ (f : uo_back cs n (suc i) ≡ Some j). back_below cs n (suc i) j f)
  where
    go : (a b v : Bool) → pick a (pick b (Some i) None) (pick v None (uo_back cs n (suc i))) ≡ Some j
        → (uo_back cs n (suc i) ≡ Some j → suc j < suc i) → suc j < suc (suc i)
    go true true v e f = let d : i ≡ j = cc in omega arith
    go true false v e f = let z : ◌≡◌ {A = ℕ} 0 1 = cc in absurd (omega arith)
    go false b true e f = let z : ◌≡◌ {A = ℕ} 0 1 = cc in absurd (omega arith)
    go false b false e f = let l = f e in omega arith

pub uo_below : (cs : List Cell) (j : ℕ) → uo_place cs ≡ Some j → suc j < length cs
unfolding uo_place
uo_below cs j e = back_below cs 5 (length cs) j e

-- ---- cells and the row of their bases
back_same : (cs : List Cell) (n i : ℕ) → uo_back (row_cells (bases cs)) n i ≡ uo_back cs n i
unfolding uo_back
back_same cs zero i = refl
back_same cs (suc n) zero = refl
back_same cs (suc n) (suc zero) = refl
back_same cs (suc n) (suc (suc i)) = rw (same_base cs (suc i), same_base cs i, back_same cs n (suc i)) refl

pub uo_same : (cs : List Cell) → uo_place (row_cells (bases cs)) ≡ uo_place cs
unfolding uo_place
uo_same cs = rw (same_length cs) (back_same cs 5 (length cs))
