-- Document 01, "Port order": "the composition as bytes in an order that docs/ states". A head of 8 bytes: the settings
-- (method, mode), the count, the setting of request 2026-01 (capitals), and bytes kept for settings to come. Then the cells, of
-- 8 bytes each: the base in four and the mark in two, low byte first, the tone, the capital flag.
use Rattle.std.specs.Prelude.{ℕ, zero, suc, ◌+◌, ◌*◌, ◌-◌, ◌/◌, ◌%◌, Bool, false, List, [], ◌∷◌, ◌++◌, eqb, leb, length}
use Rattle.p0_choice.specs.Choice.{pick, each, from}
use Rattle.p2_input_method.specs.declared.InputMethod.{InputMethod}
use Rattle.p2_input_method.specs.declared.InputMethod.TheVariants.{Telex, Vni}
use Rattle.p3_cells.specs.Cells.{limit, is_sound}
use Rattle.p3_cells.specs.declared.Cell.{Cell}
use Rattle.p3_cells.specs.declared.Composition.{Composition}
use Rattle.p3_cells.specs.declared.Mode.{Mode}
use Rattle.p3_cells.specs.declared.Mode.TheVariants.{Vietnamese, English}
use Rattle.p3_cells.specs.declared.Settings.{Settings}
use Rattle.p6_zeros.specs.Zeros.{zeros, byte_at, is_zero}

abbrev pub head : ℕ
head = 8

-- how many bytes of the head say something; those from here on are reserved
abbrev pub known : ℕ
known = 4

-- where the cell at place i starts
abbrev pub start : ℕ → ℕ
start i = head + 8 * i

abbrev pub size : ℕ
size = head + 8 * limit

-- ---- a composition, written
abbrev pub method_byte : InputMethod → ℕ
method_byte Telex = 0
method_byte Vni = 1

abbrev pub mode_byte : Mode → ℕ
mode_byte Vietnamese = 0
mode_byte English = 1

abbrev pub flag_byte : Bool → ℕ
flag_byte b = pick b 1 0

unfoldable pub cell_bytes : Cell → List ℕ
cell_bytes x =
    (x.base % 256) ∷ (x.base / 256 % 256) ∷ (x.base / 65536 % 256) ∷ (x.base / 16777216) ∷ (x.mark % 256) ∷ (x.mark / 256) ∷ x.tone
    ∷ flag_byte x.upper ∷ []

abbrev pub cells_bytes : List Cell → List ℕ
cells_bytes [] = []
cells_bytes (x ∷ xs) = cell_bytes x ++ cells_bytes xs

unfoldable pub head_bytes : Composition → List ℕ
head_bytes c =
    method_byte c.settings.method ∷ mode_byte c.settings.mode ∷ c.count ∷ flag_byte c.settings.capitals ∷ zeros (head - known)

unfoldable pub bytes_of : Composition → List ℕ
bytes_of c = head_bytes c ++ cells_bytes c.cells

-- ---- and read
unfoldable pub cell_at : List ℕ → ℕ → Cell
cell_at b at =
    record {
      base = byte_at b at + byte_at b (at + 1) * 256 + byte_at b (at + 2) * 65536 + byte_at b (at + 3) * 16777216;
      mark = byte_at b (at + 4) + byte_at b (at + 5) * 256;
      tone = byte_at b (at + 6);
      upper = eqb (byte_at b (at + 7)) 1;
    }

abbrev pub cells_at : ℕ → List ℕ → ℕ → List Cell
cells_at zero b at = []
cells_at (suc n) b at = cell_at b at ∷ cells_at n b (at + 8)

unfoldable pub method_of : ℕ → InputMethod
method_of x = pick (eqb x 0) Telex Vni

unfoldable pub mode_of : ℕ → Mode
mode_of x = pick (eqb x 0) Vietnamese English

abbrev pub settings_of : List ℕ → Settings
settings_of b = record { method = method_of (byte_at b 0); mode = mode_of (byte_at b 1); capitals = eqb (byte_at b 3) 1 }

unfoldable pub composition_of : List ℕ → Composition
composition_of b = record { cells = cells_at limit b head; settings = settings_of b; count = byte_at b 2 }

-- ---- "Bytes of another length, or that spell no method, mode or cell, are not sound." Nor are those that spell capitals neither
-- on nor off
-- a flag that is neither on nor off spells no cell
unfoldable pub spells_cell : List ℕ → ℕ → Bool
spells_cell b i = leb (byte_at b (start i + 7)) 1

-- the reserved bytes are 0
unfoldable pub reserved_zero : List ℕ → Bool
reserved_zero b = each (is_zero b) (from (head - known) known)

unfoldable pub bytes_sound : List ℕ → Bool
bytes_sound b =
    pick (eqb (length b) size)
    (pick (leb (byte_at b 0) 1)
    (pick (leb (byte_at b 1) 1)
    (pick (leb (byte_at b 3) 1)
    (pick (reserved_zero b)
    (pick (each (spells_cell b) (from limit 0)) (is_sound (composition_of b)) false) false) false) false) false)
    false
