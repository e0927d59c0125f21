-- The bases that the steps read: those of a row, and those of cells and of the row of their bases.
use Prim.Native.Nat.{ℕ}
use mathlib.Core.Path.{◌≡◌, refl, ◌∙◌}
use mathlib.Core.List.{List}
use lib.ListN.{length, get_or}
use Rattle.p1_letters.specs.Alphabet.{ascii_lower}
use Rattle.p3_cells.specs.declared.Cell.{Cell}
use Rattle.p3_cells.specs.Row.{bases}
use Rattle.p3_cells.specs.Mirror.{row_cells}
use Rattle.p3_cells.proofs.Row.{row_length, row_at, bases_length, bases_at}
use Rattle.p3_marks.specs.Uo.{base_at}

pub row_base : (row : List ℕ) (i : ℕ) → base_at (row_cells row) i ≡ ascii_lower (get_or row i 0)
unfolding base_at
row_base row i = rw (row_at row i) refl

pub same_base : (cs : List Cell) (i : ℕ) → base_at (row_cells (bases cs)) i ≡ base_at cs i
unfolding base_at
same_base cs i = rw (row_at (bases cs) i, bases_at cs i) refl

pub same_length : (cs : List Cell) → length (row_cells (bases cs)) ≡ length cs
same_length cs = row_length (bases cs) ∙ bases_length cs
