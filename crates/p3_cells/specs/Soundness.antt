-- Document 01, "The alphabet and the numbers": "Sound", in its own words, as propositions. `is_sound` is the test for it;
-- proofs/Soundness.antt shows that the two are the same.
use Rattle.std.specs.Prelude.{ℕ, ◌<◌, ◌≤◌, ◌≡◌, true, ◌⊎◌, length, get_or}
use Rattle.p0_choice.specs.Choice.{among}
use Rattle.p1_letters.specs.Alphabet.{in_alphabet}
use Rattle.p3_cells.specs.Cells.{limit, blank, marks, tones}
use Rattle.p3_cells.specs.declared.Cell.{Cell}
use Rattle.p3_cells.specs.declared.Composition.{Composition}

-- "base in the alphabet; mark absent, or equal to the base and one of ă â ê ô ơ ư đ; tone absent or one of f s r x j 1 2 3 4 5"
pub record SoundCell (x : Cell) : Type 0 where
  pub base : in_alphabet x.base ≡ true
  pub mark : (x.mark ≡ 0) ⊎ ((x.mark ≡ x.base) × (among x.mark marks ≡ true))
  pub tone : (x.tone ≡ 0) ⊎ (among x.tone tones ≡ true)

-- "A composition holds at most" `limit` "cells": its array has a place for each, and no more. "Sound: count at most" the limit;
-- each cell as above; "every cell past the count blank". Request 2026-05 amends the number alone
pub record Sound (c : Composition) : Type 0 where
  pub whole : length c.cells ≡ limit
  pub few : c.count ≤ limit
  pub in_use : (i : ℕ) → i < c.count → SoundCell (get_or c.cells i blank)
  pub past : (i : ℕ) → c.count ≤ i → i < limit → get_or c.cells i blank ≡ blank
