-- What a finder reads in a row, as cells; and cells whose letters are their bases, as all cells in use are: they and the
-- row of their bases have the same letters.
use Prim.Native.Nat.{ℕ, zero, suc, ◌+◌, ◌<◌}
use mathlib.Core.Path.{◌≡◌, refl}
use mathlib.Core.Bool.{true}
use mathlib.Core.List.{List, [], ◌∷◌}
use native.Mathlib.Numerals.{add-one}
use lib.ListN.{length, get_or, drop, length-map, get_or-map}
use lib.Seq.{drop-cons}
use Rattle.p0_choice.specs.Choice.{each}
use Rattle.p3_cells.specs.Cells.{blank, is_cell}
use Rattle.p3_cells.specs.Text.{letter_of}
use Rattle.p3_cells.specs.declared.Cell.{Cell}
use Rattle.p0_choice.proofs.Tests.{both_are}
use Rattle.p3_cells.proofs.Made.{letter_base}
use Rattle.p3_cells.specs.Row.{base_of, bases}
use Rattle.p3_cells.specs.Mirror.{row_cells}
use Rattle.p3_cells.specs.Mirror.{bare}

pub row_length : (row : List ℕ) → length (row_cells row) ≡ length row
unfolding row_cells
row_length row = length-map row bare

pub row_at : (row : List ℕ) (i : ℕ) → get_or (row_cells row) i blank ≡ bare (get_or row i 0)
unfolding row_cells
row_at row i = get_or-map bare row i 0

pub row_letter : (row : List ℕ) (i : ℕ) → letter_of (get_or (row_cells row) i blank) ≡ get_or row i 0
unfolding letter_of
row_letter row i = rw (row_at row i) refl

-- the cells from a place on: one, and those after it
pub row_turn : (row : List ℕ) (i : ℕ) → i < length row → drop i (row_cells row) ≡ bare (get_or row i 0) ∷ drop (i + 1) (row_cells row)
row_turn row i h =
    let l : i < length (row_cells row) = rw (row_length row) h in
    rw (add-one, drop-cons (row_cells row) i blank l, row_at row i) refl

-- ---- the row of the cells' own bases
pub bases_length : (cs : List Cell) → length (bases cs) ≡ length cs
unfolding bases
bases_length cs = length-map cs base_of

pub bases_at : (cs : List Cell) (i : ℕ) → get_or (bases cs) i 0 ≡ (get_or cs i blank).base
unfolding bases
bases_at cs i = get_or-map base_of cs i blank

-- each cell's letter is its base
abbrev pub Plain : List Cell → Type 0
Plain [] = Unit {0}
Plain (x ∷ xs) = (letter_of x ≡ x.base) × Plain xs

pub plain_at_lem : (cs : List Cell) → Plain cs → (i : ℕ) → letter_of (get_or cs i blank) ≡ (get_or cs i blank).base
unfolding letter_of
plain_at_lem [] p i = refl
plain_at_lem (x ∷ xs) p zero = p.0
plain_at_lem (x ∷ xs) p (suc i) = plain_at_lem xs p.1 i

pub plain_cells : (cs : List Cell) → each is_cell cs ≡ true → Plain cs
plain_cells [] e = tt
plain_cells (x ∷ xs) e = let q = both_are (is_cell x) (each is_cell xs) e in (letter_base x q.0, plain_cells xs q.1)
