-- Request 2026-01: what the setting may change. "Changing it leaves the cells"; and of the cells that keys make, "in the uo step
-- ơ keeps the o's own flag", and nothing else depends on it.
use Prim.Native.Char.{code}
use Rattle.std.specs.Prelude.{◌≡◌, Bool, List, [], ◌∷◌}
use Rattle.p3_cells.specs.Cells.{used}
use Rattle.p3_cells.specs.Mirror.{with_settings}
use Rattle.p3_cells.specs.Settings.{with_capitals}
use Rattle.p3_cells.specs.declared.After.{After}
use Rattle.p3_cells.specs.declared.Cell.{Cell}
use Rattle.p3_cells.specs.declared.Composition.{Composition}
use Rattle.p3_undo.specs.declared.Undone.{Undone}

-- a composition with the setting on or off, and all else as it is; so what a call leaves, and what undo leaves
abbrev pub under : Bool → Composition → Composition
under on c = with_settings c (with_capitals c.settings on)

abbrev pub left_under : Bool → After → After
left_under on k = record { comp = under on k.comp; answer = k.answer }

abbrev pub undone_under : Bool → Undone → Undone
undone_under on k = record { comp = under on k.comp; answer = k.answer }

-- two cells that are one but for the flag of an ơ
pub record ApartCell (x y : Cell) : Type 0 where
  pub base : x.base ≡ y.base
  pub mark : x.mark ≡ y.mark
  pub tone : x.tone ≡ y.tone
  pub flag : (x.base ≡ code "ơ" → ⊥) → x.upper ≡ y.upper

-- cells, place by place
pub data ApartCells : List Cell → List Cell → Type 0 where
  none : ApartCells [] []
  more : {x y : Cell} {xs ys : List Cell} → ApartCell x y → ApartCells xs ys → ApartCells (x ∷ xs) (y ∷ ys)

-- compositions of one method and mode
pub record Apart (c d : Composition) : Type 0 where
  pub method : c.settings.method ≡ d.settings.method
  pub mode : c.settings.mode ≡ d.settings.mode
  pub cells : ApartCells (used c) (used d)
