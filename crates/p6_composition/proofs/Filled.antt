-- Filling a row with a number of each cell, from its start.
use Prim.Native.Nat.{ℕ, ◌+◌, ◌<◌}
use mathlib.Core.Path.{◌≡◌, refl}
use mathlib.Core.List.{List, [], ◌∷◌, map, map-append}
use native.Mathlib.Omega.{arith}
use native.Mathlib.Numerals.{add-one}
use lib.ListN.{length, take, set}
use lib.Seq.{take-suc, take-suc-set}
use Rattle.p3_cells.specs.Cells.{blank, limit}
use Rattle.p3_cells.specs.Mirror.{cell_of, first_cells, places}
use Rattle.p3_cells.specs.declared.Cell.{Cell}
use Rattle.p6_bytes.specs.Bytes.{composition_of}
use Rattle.p6_bytes.proofs.Stored.{cells_all}

pub filled_more : (b row : List ℕ) (i v : ℕ) (x : Cell) (h : Cell → ℕ) → take i row ≡ map h (first_cells (composition_of b) i)
    → x ≡ cell_of (composition_of b) i → v ≡ h x → i < length row → i < limit
    → take (i + 1) (set row i v) ≡ map h (first_cells (composition_of b) (i + 1))
filled_more b row i v x h e p q a l =
    let c = composition_of b in
    let k : i < places c = omega (arith, cells_all b) in
    rw (add-one i, take-suc-set row i v a, take-suc c.cells i blank k, map-append h (first_cells c i) (cell_of c i ∷ []), e, q, p) refl
