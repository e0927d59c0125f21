-- Writing bytes: a cell, and zeros.
use Prim.Native.Nat.{ℕ, zero, suc, ◌*◌}
use mathlib.Core.Path.{◌≡◌, refl}
use mathlib.Core.List.{List, [], ◌∷◌}
use native.Mathlib.Omega.{arith}
use lib.ListN.{length, length-append}
use Rattle.p3_cells.specs.Cells.{blanks}
use Rattle.p3_cells.specs.declared.Cell.{Cell}
use Rattle.p6_bytes.specs.Bytes.{cell_bytes, cells_bytes}
use Rattle.p6_zeros.specs.Zeros.{zeros}

-- ---- a cell
pub cell_length : (x : Cell) → length (cell_bytes x) ≡ 8
unfolding cell_bytes
cell_length x = refl

pub bytes_length : (xs : List Cell) → length (cells_bytes xs) ≡ 8 * length xs
bytes_length [] = refl
bytes_length (x ∷ xs) = let h = bytes_length xs in omega (arith, length-append (cell_bytes x) (cells_bytes xs), cell_length x)

-- ---- blank cells
pub blank_bytes : (k : ℕ) → cells_bytes (blanks k) ≡ zeros (8 * k)
unfolding cell_bytes
blank_bytes zero = refl
blank_bytes (suc k) =
    let e : 8 * suc k ≡ suc (suc (suc (suc (suc (suc (suc (suc (8 * k)))))))) = omega arith in
    rw (e, blank_bytes k) refl
