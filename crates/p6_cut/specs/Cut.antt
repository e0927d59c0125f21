-- Document 01, "Cut and verdict": "The three answers are parts of the lent word, all empty after a refusal; a cut word keeps
-- the lent word together with its two cut places."
use Rattle.std.specs.Prelude.{◌+◌, length, Err, Ok, Result}
use Rattle.p0_refusals.specs.declared.Refusal.{Refusal}
use Rattle.p4_rows.specs.Rows.{Word}
use Rattle.p4_spelling.specs.Answers.{cut_answer}
use Rattle.p4_spelling.specs.declared.CutPlaces.{CutPlaces}

-- past the word, where no part of it is
abbrev pub past_end : Word → CutPlaces
past_end w = record { onset = length w + 1; vowels = length w + 1 }

-- the places of an answer; of a refusal both past the word
abbrev pub places_in : Word → Result CutPlaces Refusal → CutPlaces
places_in w (Ok p) = p
places_in w (Err r) = past_end w

unfoldable pub places_after : Word → CutPlaces
places_after w = places_in w (cut_answer w)
