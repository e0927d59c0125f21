-- The bases of cells: where a tone or a mark goes depends on these alone.
use Rattle.std.specs.Prelude.{ℕ, List, map}
use Rattle.p3_cells.specs.declared.Cell.{Cell}

abbrev pub base_of : Cell → ℕ
base_of x = x.base

-- the bases of cells
unfoldable pub bases : List Cell → List ℕ
bases cs = map base_of cs
