use Rattle.std.proofs.Common.{◌≡◌, ℕ, length, take, map}
use Rattle.p3_cells.specs.Mirror.{first_cells}
use Rattle.p3_cells.specs.declared.Cell.{Cell}
use Rattle.p6_bytes.specs.Bytes.{composition_of}
use Rattle.p6_composition.proofs.fill.Given as goal

abbrev pub invariant-loop-i : goal.invariant-loop-i
invariant-loop-i g l =
    (length l.row ≡ length l.initial.row)
    × ((h : Cell → ℕ) → ((x : Cell) (r : ℕ) → goal.F-post g l.number x r → r ≡ h x)
    → take l.i l.row ≡ map h (first_cells (composition_of l.b) l.i))
