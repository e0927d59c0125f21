-- How the code holds things: no sentence of document 01 stands here, and no promise to a host leads here.
-- The finders of undo are lent a row of signs, and answer what document 01's definitions say of cells with these signs.
use Rattle.std.specs.Prelude.{ℕ, ◌+◌, ◌*◌, ◌/◌, ◌%◌, false, List, map, length, eqb, None, Option, Some}
use Rattle.p0_choice.specs.Choice.{pick}
use Rattle.p3_undo.specs.Raw.{last_end}
use Rattle.p3_cells.specs.declared.Cell.{Cell}

-- all that undo asks of a cell: its mark and its tone, side by side
unfoldable pub sign : Cell → ℕ
sign x = x.mark + x.tone * 65536

-- the signs of cells
unfoldable pub signs : List Cell → List ℕ
signs cs = map sign cs

-- a cell with this sign, and no letter or flag
abbrev pub bearing : ℕ → Cell
bearing s = record { base = 0; mark = s % 65536; tone = s / 65536; upper = false }

-- a row of signs as cells
unfoldable pub sign_cells : List ℕ → List Cell
sign_cells row = map bearing row

-- where the last a, t of the raw string ends
unfoldable pub end_found : List ℕ → ℕ → ℕ → Option ℕ
end_found raw a t = pick (eqb (last_end raw a t (length raw)) 0) None (Some (last_end raw a t (length raw)))
