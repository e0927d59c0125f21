-- Reading bytes: numbers, the settings, a cell, and the cells one after the other.
use Prim.Native.Nat.{ℕ, zero, suc, ◌+◌, ◌*◌, ◌<◌}
use mathlib.Core.Path.{◌≡◌, refl, ap, ◌∙◌}
use mathlib.Core.List.{List, [], ◌∷◌, ◌++◌}
use native.Mathlib.Omega.{arith}
use lib.ListN.{length, get_or}
use Rattle.p3_cells.specs.Cells.{blank}
use Rattle.p3_cells.specs.declared.Cell.{Cell}
use Rattle.p6_draft.specs.Mirror.{draft_cell_at, draft_cells_at}

-- ---- numbers
-- ---- a cell
pub cells_length : (n : ℕ) (b : List ℕ) (at : ℕ) → length (draft_cells_at n b at) ≡ n
cells_length zero b at = refl
cells_length (suc n) b at = ap suc (cells_length n b (at + 7))

pub cells_at_lem : (n : ℕ) (b : List ℕ) (at i : ℕ) → i < n → get_or (draft_cells_at n b at) i blank ≡ draft_cell_at b (at + 7 * i)
cells_at_lem zero b at i h = absurd (omega arith)
cells_at_lem (suc n) b at zero h = let e : at ≡ at + 7 * 0 = omega arith in ap (draft_cell_at b) e
cells_at_lem (suc n) b at (suc i) h = let e : at + 7 + 7 * i ≡ at + 7 * suc i = omega arith in
    cells_at_lem n b (at + 7) i (omega arith) ∙ ap (draft_cell_at b) e

-- one cell more
pub cells_more : (n : ℕ) (b : List ℕ) (at : ℕ) → draft_cells_at (n + 1) b at ≡ draft_cells_at n b at ++ (draft_cell_at b (at + 7 * n) ∷ [])
cells_more zero b at = let e : at + 7 * 0 ≡ at = omega arith in rw e refl
cells_more (suc n) b at =
    let d : suc n + 1 ≡ suc (n + 1) = omega arith in
    let e : at + 7 + 7 * n ≡ at + 7 * suc n = omega arith in
    rw d (ap (λ (l : List Cell). draft_cell_at b at ∷ l)
    (cells_more n b (at + 7) ∙ ap (λ (k : ℕ). draft_cells_at n b (at + 7) ++ (draft_cell_at b k ∷ [])) e))
