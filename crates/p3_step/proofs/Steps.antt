-- The step of a key, as the code comes to it: the places in their order, read in a row of bases.
use Rattle.std.specs.Prelude.{None, Some}
use Prim.Native.Nat.{ℕ, ◌+◌, ◌<◌}
use Prim.Native.Char.{code}
use mathlib.Core.Path.{◌≡◌, refl}
use mathlib.Core.List.{List}
use native.Mathlib.Omega.{arith}
use lib.ListN.{length, get_or}
use borrow.Author.Tests.{ne_eqb}
use Rattle.p0_choice.specs.Choice.{pick}
use Rattle.p1_letters.specs.Alphabet.{ascii_lower}
use Rattle.p2_input_method.specs.Mirror.{mark_found}
use Rattle.p2_input_method.specs.Rules.{is_tone_key, is_horn_key, mark_for}
use Rattle.p3_cells.specs.Place.{place_or}
use Rattle.p3_cells.specs.declared.Settings.{Settings}
use Rattle.p3_cells.specs.Mirror.{row_cells}
use Rattle.p3_cells.proofs.Row.{row_length}
use Rattle.p3_tone.specs.TonePlace.{any_vowel, tone_place}
use Rattle.p3_marks.specs.Uo.{uo_place}
use Rattle.p3_marks.specs.Ua.{ua_place}
use Rattle.p3_marks.specs.Mark.{mark_place}
use Rattle.p3_marks.proofs.Base.{row_base}
use Rattle.p3_marks.proofs.Mark.{place_marks}
use Rattle.p3_marks.proofs.Uo.{uo_below}
use Rattle.p3_step.specs.Mirror.{tones_at, marks_at, pairs_at, appends_at, tone_for, uo_for, ua_for, mark_step, ua_step, uo_step, step_of}

module _ (z : Settings) (row : List ℕ) (k : ℕ) where
  -- a rule was found at a place: the place is in the row, and its base with the key makes a letter
  module _ (i : ℕ) (e : mark_place z.method (row_cells row) k ≡ Some i) where
    pub mark_in_row : i < length row
    mark_in_row = rw (row_length row) at (place_marks z.method (row_cells row) k i e).below

    pub mark_made_of : mark_found z.method (ascii_lower (get_or row i 0)) k ≡ Some (mark_for z.method (ascii_lower (get_or row i 0)) k)
    unfolding mark_found
    mark_made_of =
        let h = rw (row_base row i) at (place_marks z.method (row_cells row) k i e).rule in
        rw (ne_eqb (mark_for z.method (ascii_lower (get_or row i 0)) k) 0 h) refl

  pub uo_in_row : (i : ℕ) → uo_place (row_cells row) ≡ Some i → i + 1 < length row
  uo_in_row i e = let h = rw (row_length row) at (uo_below (row_cells row) i e) in omega arith

  pub step_turn : step_of z (row_cells row) k
      ≡ place_or (pick (is_tone_key z.method k) (pick (any_vowel (row_cells row)) (Some (tone_place (row_cells row))) None) None)
      (tones_at (length row))
      (place_or (pick (is_horn_key z.method k) (uo_place (row_cells row)) None) (pairs_at (length row))
      (place_or (pick (is_horn_key z.method k) (ua_place (row_cells row)) None) (marks_at (length row) (code "ư"))
      (place_or (mark_place z.method (row_cells row) k) (λ i. marks_at (length row) (mark_for z.method (ascii_lower (get_or row i 0)) k) i)
      (appends_at (length row)))))
  unfolding step_of uo_step ua_step mark_step tone_for uo_for ua_for
  step_turn = simp (row_length row, row_base row)
