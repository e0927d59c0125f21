-- How the code holds things: no sentence of document 01 stands here, and no promise to a host leads here.
-- The cells in the parts that the code takes: those in use one by one, and the bytes past them, which are those of blank
-- cells. proofs/Sound.antt shows that the two tests, after those of the head, are `bytes_sound`.
use Rattle.std.specs.Borrow.{LendsIf, Array, MutBor, Fml, u8}
use Rattle.std.specs.Prelude.{ℕ, ◌+◌, ◌-◌, Bool, false, Option, List, ◌++◌, leb, take, drop, set}
use Rattle.p0_choice.specs.Choice.{pick, each, from}
use Rattle.p3_cells.specs.Cells.{is_cell}
use Rattle.p3_cells.specs.declared.Cell.{Cell}
use Rattle.p6_zeros.specs.Zeros.{zeros, byte_at}
use Rattle.p6_bytes.specs.Bytes.{head, start, size, cell_bytes, cell_at, spells_cell, reserved_zero}

-- what follows the count in the head: capitals are on or off, and the reserved bytes are 0
unfoldable pub rest_fits : List ℕ → Bool
rest_fits b = pick (leb (byte_at b 3) 1) (reserved_zero b) false

-- the head says a method and a mode besides
unfoldable pub head_fits : List ℕ → Bool
head_fits b = pick (leb (byte_at b 0) 1) (pick (leb (byte_at b 1) 1) (rest_fits b) false) false

unfoldable pub cell_fits : List ℕ → ℕ → Bool
cell_fits b i = pick (spells_cell b i) (is_cell (cell_at b (start i))) false

-- the first n cells fit
unfoldable pub cells_fit : List ℕ → ℕ → Bool
cells_fit b n = each (cell_fits b) (from n 0)

-- the bytes with another cell where the one at place i lies
unfoldable pub stored : List ℕ → ℕ → Cell → List ℕ
stored b i x = take (start i) b ++ (cell_bytes x ++ drop (start i + 8) b)

-- the bytes with no cells
unfoldable pub cleared : List ℕ → List ℕ
cleared b = take head (set b 2 0) ++ zeros (size - head)

-- the bytes end as what is left behind the array of them that is lent, and as they were where none is
abbrev pub LendsBytes : MutBor (List ℕ) → Option (MutBor (List ℕ)) → Fml
LendsBytes s r = LendsIf (Array u8 0) (Array u8 0) s r (λ (ws : List ℕ). ws) s.now
