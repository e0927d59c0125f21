-- Document 02, request 2026-02, drafts: "Store a composition as tagged fields". A draft is read by what it is written as: whoever
-- believes `draft_of` believes the reader too (`Means`).
use Rattle.std.specs.Prelude.{ℕ, ◌+◌, ◌*◌, ◌/◌, ◌%◌, ◌≡◌, true, List, [], ◌∷◌, ◌++◌, eqb, length}
use Rattle.p0_choice.specs.Choice.{pick}
use Rattle.p3_cells.specs.Cells.{limit, used, is_sound}
use Rattle.p3_cells.specs.declared.Cell.{Cell}
use Rattle.p3_cells.specs.declared.Composition.{Composition}
use Rattle.p6_bytes.specs.Bytes.{method_byte, mode_byte, flag_byte}

-- "one-byte tag and two-byte length, high byte first", and then the bytes that the field holds
unfoldable pub field : ℕ → List ℕ → List ℕ
field tag xs = tag ∷ (length xs / 256) ∷ (length xs % 256) ∷ xs

-- ---- the cells
-- "mark present"; "yes is 1, no is 0"
unfoldable pub mark_byte : Cell → ℕ
mark_byte x = pick (eqb x.mark 0) 0 1

-- "cells of 7 bytes: base in four, high byte first, mark present, tone (0 for none, else its ASCII key), flag"
unfoldable pub draft_cell : Cell → List ℕ
draft_cell x =
    (x.base / 16777216) ∷ (x.base / 65536 % 256) ∷ (x.base / 256 % 256) ∷ (x.base % 256) ∷ mark_byte x ∷ x.tone
    ∷ flag_byte x.upper ∷ []

abbrev pub draft_cells : List Cell → List ℕ
draft_cells [] = []
draft_cells (x ∷ xs) = draft_cell x ++ draft_cells xs

-- ---- the fields
-- a field: its tag, and what it holds of a composition
pub record Field : Type 0 where
  pub tag : ℕ
  pub holds : Composition → List ℕ

-- "Tag 1: method, one byte, 0 Telex, 1 VNI. Tag 2: mode, one byte, 0 Vietnamese, 1 English. Tag 3: cells .. Tag 4: capitals
-- setting, one byte, 0 off, 1 on."
unfoldable pub fields : List Field
fields =
    record { tag = 1; holds = λ c. method_byte c.settings.method ∷ [] }
    ∷ record { tag = 2; holds = λ c. mode_byte c.settings.mode ∷ [] }
    ∷ record { tag = 3; holds = λ c. draft_cells (used c) }
    ∷ record { tag = 4; holds = λ c. flag_byte c.settings.capitals ∷ [] }
    ∷ []

-- each field once, in their order
abbrev pub in_turn : List Field → Composition → List ℕ
in_turn [] c = []
in_turn (f ∷ fs) c = field f.tag (f.holds c) ++ in_turn fs c

-- "All four once, in that order."
unfoldable pub draft_of : Composition → List ℕ
draft_of c = in_turn fields c

-- ---- what bytes are a draft of: a composition, or none
pub data Reading : Type 0 where
  gives : Composition → Reading
  none : Reading

-- "Reading gives back the composition written"; "11 .. exactly when the bytes are no such form of a sound composition"
abbrev pub Means : List ℕ → Reading → Type 0
Means b (gives c) = (is_sound c ≡ true) × (draft_of c ≡ b)
Means b none = (c : Composition) → is_sound c ≡ true → draft_of c ≡ b → ⊥

-- the most bytes of a draft: four fields, each with its tag and length, three that hold a byte, and the cells
abbrev pub draft_room : ℕ
draft_room = 15 + 7 * limit
