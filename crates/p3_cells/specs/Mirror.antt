-- How the code holds things: no sentence of document 01 stands here, and no promise to a host leads here.
use Rattle.std.specs.Prelude.{ℕ, ◌+◌, ◌*◌, false, List, map, length, get_or, take, set}
use Rattle.p0_choice.specs.Choice.{pick}
use Rattle.p3_cells.specs.Cells.{blank}
use Rattle.p3_cells.specs.Text.{text_of}
use Rattle.p3_cells.specs.declared.Cell.{Cell}
use Rattle.p3_cells.specs.declared.Composition.{Composition}
use Rattle.p3_cells.specs.declared.Settings.{Settings}

-- ---- the array of a composition: a cell is read, the first n are, how many places there are; one is put, so many are in use
-- then, under these settings. What these mean for the cells in use is proved (proofs/Holding)
abbrev pub cell_of : Composition → ℕ → Cell
cell_of c i = get_or c.cells i blank

abbrev pub places : Composition → ℕ
places c = length c.cells

abbrev pub first_cells : Composition → ℕ → List Cell
first_cells c n = take n c.cells

abbrev pub with_cell : Composition → ℕ → Cell → Composition
with_cell c i x = record { cells = set c.cells i x; settings = c.settings; count = c.count }

abbrev pub with_count : Composition → ℕ → Composition
with_count c n = record { cells = c.cells; settings = c.settings; count = n }

abbrev pub with_settings : Composition → Settings → Composition
with_settings c z = record { cells = c.cells; settings = z; count = c.count }

-- the text of the first n cells
abbrev pub first_text : Composition → ℕ → List ℕ
first_text c n = text_of c.settings.capitals (first_cells c n)

-- a cell as one number, as the code asks whether it is blank: its fields side by side
unfoldable pub packed_cell : Cell → ℕ
packed_cell x = x.base + x.mark * 4294967296 + x.tone * 281474976710656 + pick x.upper 72057594037927936 0

-- ---- the finders of a step are lent a row of bases, and answer what document 01's definitions say of cells with these bases
-- a cell with this base, and no mark, tone or flag
abbrev pub bare : ℕ → Cell
bare b = record { base = b; mark = 0; tone = 0; upper = false }

-- a row of bases as cells
unfoldable pub row_cells : List ℕ → List Cell
row_cells row = map bare row
