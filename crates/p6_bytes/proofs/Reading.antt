-- Reading bytes: a cell, and the cells one after the other.
use Prim.Native.Nat.{ℕ, zero, suc, ◌+◌, ◌*◌, ◌<◌}
use mathlib.Core.Path.{◌≡◌, refl, ap, ◌∙◌}
use mathlib.Core.List.{List}
use native.Mathlib.Omega.{arith}
use lib.ListN.{length, get_or}
use Rattle.p3_cells.specs.Cells.{blank}
use Rattle.p6_bytes.specs.Bytes.{cell_at, cells_at}

pub cells_length : (n : ℕ) (b : List ℕ) (at : ℕ) → length (cells_at n b at) ≡ n
cells_length zero b at = refl
cells_length (suc n) b at = ap suc (cells_length n b (at + 8))

pub cells_at_lem : (n : ℕ) (b : List ℕ) (at i : ℕ) → i < n → get_or (cells_at n b at) i blank ≡ cell_at b (at + 8 * i)
cells_at_lem zero b at i h = absurd (omega arith)
cells_at_lem (suc n) b at zero h = let e : at ≡ at + 8 * 0 = omega arith in ap (cell_at b) e
cells_at_lem (suc n) b at (suc i) h = let e : at + 8 + 8 * i ≡ at + 8 * suc i = omega arith in
    cells_at_lem n b (at + 8) i (omega arith) ∙ ap (cell_at b) e

-- ---- method and mode
