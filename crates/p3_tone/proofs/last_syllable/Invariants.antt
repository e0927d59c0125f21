use Rattle.std.proofs.Common.{◌≡◌, ◌+◌, ◌≤◌, false, length, drop}
use Rattle.p3_cells.specs.Mirror.{row_cells}
use Rattle.p3_tone.specs.TonePlace.{any_separates, vowel_places}
use Rattle.p3_tone.specs.Mirror.{seen_of}
use Rattle.p3_tone.proofs.last_syllable.Given as goal

abbrev pub invariant-loop-i : goal.invariant-loop-i
invariant-loop-i l =
    (l.vowels.count + l.i ≤ length l.row) × (any_separates (drop l.i (row_cells l.row)) ≡ false)
    × (l.vowels ≡ seen_of (vowel_places l.i (drop l.i (row_cells l.row))))
