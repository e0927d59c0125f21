-- What is made at the place of a cell that is found, or what stands where there is none: "the first step that fits ends it",
-- "No such cell: next rule."
use Rattle.std.specs.Prelude.{ℕ, None, Option, Some}

abbrev pub place_or : {A : Type 0} → Option ℕ → (ℕ → A) → A → A
place_or None made later = later
place_or (Some i) made later = made i
