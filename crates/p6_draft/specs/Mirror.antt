-- How the code holds things: no sentence of document 01 stands here, and no promise to a host leads here.
-- What the reader makes of bytes, and the tests that it makes. proofs/Round.antt and proofs/Exact.antt show that the tests pass exactly
-- the drafts of sound compositions, and that each is read as the composition that was written.
use Rattle.std.specs.Prelude.{ℕ, zero, suc, ◌+◌, ◌*◌, ◌-◌, ◌/◌, ◌%◌, Bool, false, List, [], ◌∷◌, ◌++◌, eqb, ltb, leb, length, take, drop}
use Rattle.p0_choice.specs.Choice.{pick, each, from}
use Rattle.p3_cells.specs.Cells.{limit, is_cell, composed}
use Rattle.p3_cells.specs.declared.Cell.{Cell}
use Rattle.p3_cells.specs.declared.Composition.{Composition}
use Rattle.p3_cells.specs.declared.Settings.{Settings}
use Rattle.p6_bytes.specs.Bytes.{method_of, mode_of}
use Rattle.p6_zeros.specs.Mirror.{long_at}
use Rattle.p6_zeros.specs.Zeros.{byte_at}
use Rattle.p6_draft.specs.Draft.{field, mark_byte}

-- where the cells start, and the one at place i; the bytes beside them, and all bytes where there are n
abbrev pub draft_head : ℕ
draft_head = 11

abbrev pub draft_start : ℕ → ℕ
draft_start i = draft_head + 7 * i

abbrev pub draft_frame : ℕ
draft_frame = 15

abbrev pub draft_length : ℕ → ℕ
draft_length n = draft_frame + 7 * n

-- ---- written
-- bytes, from a place on, over what stood there
unfoldable pub put_at : ℕ → List ℕ → List ℕ → List ℕ
put_at at xs b = take at b ++ (xs ++ drop (at + length xs) b)

-- a tag, and the length of what the field holds
unfoldable pub field_start : ℕ → ℕ → List ℕ
field_start tag n = tag ∷ (n / 256) ∷ (n % 256) ∷ []

-- what stands before n cells
unfoldable pub head_fields : ℕ → ℕ → ℕ → List ℕ
head_fields method mode n = field 1 (method ∷ []) ++ (field 2 (mode ∷ []) ++ field_start 3 (7 * n))

-- ---- read
-- four bytes as one number, high byte first
unfoldable pub four_at : List ℕ → ℕ → ℕ
four_at b at = byte_at b at * 16777216 + byte_at b (at + 1) * 65536 + byte_at b (at + 2) * 256 + byte_at b (at + 3)

-- a mark is its base
unfoldable pub read_mark : ℕ → ℕ → ℕ
read_mark byte base = pick (eqb byte 0) 0 (base % 65536)

unfoldable pub draft_cell_at : List ℕ → ℕ → Cell
draft_cell_at b at =
    record {
      base = four_at b at;
      mark = read_mark (byte_at b (at + 4)) (four_at b at);
      tone = byte_at b (at + 5);
      upper = eqb (byte_at b (at + 6)) 1;
    }

abbrev pub draft_cells_at : ℕ → List ℕ → ℕ → List Cell
draft_cells_at zero b at = []
draft_cells_at (suc n) b at = draft_cell_at b at ∷ draft_cells_at n b (at + 7)

-- the settings, where there are n cells
unfoldable pub draft_settings : List ℕ → ℕ → Settings
draft_settings b n =
    record { method = method_of (byte_at b 3); mode = mode_of (byte_at b 7); capitals = eqb (byte_at b (draft_start n + 3)) 1 }

-- how many cells bytes of this length have
unfoldable pub draft_count : List ℕ → ℕ
draft_count b = (length b - draft_frame) / 7

unfoldable pub draft_composition : List ℕ → Composition
draft_composition b = composed (draft_settings b (draft_count b)) (draft_cells_at (draft_count b) b draft_head)

-- ---- tested
-- a field of one byte, 0 or 1: tag, length and byte as one number, of which the last bit alone is free
unfoldable pub field_fits : List ℕ → ℕ → ℕ → Bool
field_fits b at tag = eqb (four_at b at / 2) (tag * 8388608 + 128)

unfoldable pub frame_fits : List ℕ → ℕ → Bool
frame_fits b n =
    pick (field_fits b 0 1)
    (pick (field_fits b 4 2)
    (pick (eqb (byte_at b 8) 3) (pick (eqb (byte_at b 9 * 256 + byte_at b 10) (7 * n)) (field_fits b (draft_start n) 4) false) false) false)
    false

-- the byte of the mark is the one that the cell is written with
unfoldable pub draft_cell_fits : List ℕ → ℕ → Bool
draft_cell_fits b i =
    pick (leb (byte_at b (draft_start i + 6)) 1)
    (pick (eqb (byte_at b (draft_start i + 4)) (mark_byte (draft_cell_at b (draft_start i)))) (is_cell (draft_cell_at b (draft_start i))) false)
    false

-- a letter of ASCII with no mark, tone or flag, as most cells are: eight bytes as one number, from the one before the cell on
unfoldable pub plain_at : List ℕ → ℕ → Bool
plain_at b at = pick (ltb (long_at b (at - 1)) 549755813888) (ltb (long_at b (at - 1) % 4294967296) 256) false

-- the first n cells fit
unfoldable pub draft_cells_fit : List ℕ → ℕ → Bool
draft_cells_fit b n = each (draft_cell_fits b) (from n 0)

unfoldable pub is_draft : List ℕ → Bool
is_draft b =
    pick (ltb (length b) draft_frame) false
    (pick (ltb limit (draft_count b)) false
    (pick (eqb (length b) (draft_length (draft_count b))) (pick (frame_fits b (draft_count b)) (draft_cells_fit b (draft_count b)) false) false))
