-- Document 02, request 2026-05: "Drafts of at most 32 cells keep their old bytes and read on old panels; a longer draft is one that an
-- old reader refuses by 11." What names the limit, word for word, with the limit m of any panel in its place: at `limit` it is what
-- stands in p3_cells and p6_draft (proofs/Held: sound_now, composed_now; proofs/Readers: means_now, now_means). The form of a draft,
-- `draft_of`, names no limit.
use Rattle.std.specs.Prelude.{ℕ, ◌-◌, ◌≡◌, Bool, true, false, List, ◌++◌, eqb, leb, length}
use Rattle.p0_choice.specs.Choice.{pick, each, from}
use Rattle.p3_cells.specs.Cells.{fits_at, used, blanks}
use Rattle.p3_cells.specs.declared.Cell.{Cell}
use Rattle.p3_cells.specs.declared.Composition.{Composition}
use Rattle.p3_cells.specs.declared.Settings.{Settings}
use Rattle.p6_draft.specs.Draft.{draft_of, Reading, gives, none}

-- "A composition holds at most 32 cells": on the panels before the request
abbrev pub limit_before : ℕ
limit_before = 32

-- "Sound: count at most" m, and every cell fits; the array has a place for each of m cells, and no more
unfoldable pub sound_within : ℕ → Composition → Bool
sound_within m c =
    pick (eqb (length c.cells) m) (pick (leb c.count m) (each (fits_at c.cells c.count) (from m 0)) false) false

-- a composition of settings and cells, "every cell past the count blank", with m places
unfoldable pub composed_within : ℕ → Settings → List Cell → Composition
composed_within m z xs = record { cells = xs ++ blanks (m - length xs); settings = z; count = length xs }

-- the same settings and cells, with m places
abbrev pub within : ℕ → Composition → Composition
within m c = composed_within m c.settings (used c)

-- what bytes are a draft of, to a reader whose compositions have m places: "Reading gives back the composition written"; "11 .. exactly
-- when the bytes are no such form of a sound composition"
abbrev pub MeansWithin : ℕ → List ℕ → Reading → Type 0
MeansWithin m b (gives c) = (sound_within m c ≡ true) × (draft_of c ≡ b)
MeansWithin m b none = (c : Composition) → sound_within m c ≡ true → draft_of c ≡ b → ⊥

-- "Drafts of at most" m "cells .. read on old panels; a longer draft is one that an old reader refuses": what such a reader reads where
-- the present one reads this
abbrev pub read_within : ℕ → Reading → Reading
read_within m (gives c) = pick (leb c.count m) (gives (within m c)) none
read_within m none = none
