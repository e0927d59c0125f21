-- Filling a row with the bases of cells, from its start.
use Prim.Native.Nat.{ℕ, zero, suc, ◌+◌, ◌<◌}
use mathlib.Core.Path.{◌≡◌, refl, ap}
use mathlib.Core.List.{List, [], ◌∷◌}
use native.Mathlib.Omega.{arith}
use native.Mathlib.Numerals.{add-one}
use lib.ListN.{length, get_or, take, set}
use Rattle.p3_cells.specs.Cells.{blank}
use Rattle.p3_cells.specs.Mirror.{cell_of, first_cells}
use Rattle.p3_cells.specs.declared.Cell.{Cell}
use Rattle.p3_cells.specs.declared.Composition.{Composition}
use Rattle.p3_cells.specs.Row.{bases}

-- the first i of the row are the cells' bases
unfoldable pub Filled : Composition → List ℕ → ℕ → Type 0
Filled c row i = take i row ≡ bases (first_cells c i)

pub fill_none : (c : Composition) (row : List ℕ) → Filled c row 0
unfolding Filled bases
fill_none c row = refl

same_head : (x y : ℕ) (xs ys : List ℕ) → x ∷ xs ≡ y ∷ ys → (x ≡ y) × (xs ≡ ys)
same_head x y xs ys e = (cc, cc)

more : (cs : List Cell) (row : List ℕ) (i : ℕ) → take i row ≡ bases (take i cs) → i < length row → i < length cs
    → take (suc i) (set row i (get_or cs i blank).base) ≡ bases (take (suc i) cs)
unfolding bases
more cs [] i e h l = absurd (omega arith)
more [] (r ∷ row) i e h l = absurd (omega arith)
more (x ∷ cs) (r ∷ row) zero e h l = refl
more (x ∷ cs) (r ∷ row) (suc i) e h l =
    let q = same_head r x.base (take i row) (bases (take i cs)) e in
    rw q.0 (ap (λ (t : List ℕ). x.base ∷ t) (more cs row i q.1 (omega arith) (omega arith)))

pub fill_more : (c : Composition) (row : List ℕ) (i v : ℕ) → Filled c row i → v ≡ (cell_of c i).base → i < length row
    → i < length c.cells → Filled c (set row i v) (i + 1)
unfolding Filled
fill_more c row i v e q h l = rw (q, add-one i) (more c.cells row i e h l)

pub filled : (c : Composition) (row : List ℕ) (i : ℕ) → Filled c row i → take i row ≡ bases (first_cells c i)
unfolding Filled
filled c row i e = e
