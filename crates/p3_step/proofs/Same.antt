-- Cells in use and the row of their bases have their step in common.
use Rattle.std.specs.Prelude.{None, Option, Some}
use Prim.Native.Nat.{ℕ}
use mathlib.Core.Path.{◌≡◌, refl}
use mathlib.Core.Bool.{true}
use mathlib.Core.List.{List}
use lib.ListN.{length}
use Rattle.p0_choice.specs.Choice.{each}
use Rattle.p2_input_method.specs.Rules.{mark_for}
use Rattle.p3_cells.specs.declared.Settings.{Settings}
use Rattle.p3_cells.specs.Cells.{is_cell}
use Rattle.p3_cells.specs.Place.{place_or}
use Rattle.p3_cells.specs.declared.Cell.{Cell}
use Rattle.p3_cells.specs.Row.{bases}
use Rattle.p3_cells.specs.Mirror.{row_cells}
use Rattle.p3_tone.proofs.Same.{any_same, tone_place_same}
use Rattle.p3_marks.specs.Uo.{base_at}
use Rattle.p3_marks.specs.Mark.{mark_place}
use Rattle.p3_marks.proofs.Base.{same_base, same_length}
use Rattle.p3_marks.proofs.Uo.{uo_same}
use Rattle.p3_marks.proofs.Ua.{ua_same}
use Rattle.p3_marks.proofs.Mark.{mark_same}
use Rattle.p3_step.specs.Mirror.{marks_at, appends_at, tone_for, uo_for, ua_for, mark_step, ua_step, uo_step, step_of}

mark_step_same : (z : Settings) (cs : List Cell) (k : ℕ) → mark_step z (row_cells (bases cs)) k ≡ mark_step z cs k
unfolding mark_step
mark_step_same z cs k = rw (mark_same z.method cs k) (go (mark_place z.method cs k))
  where
    go : (p : Option ℕ)
        → place_or p (λ i. marks_at (length (row_cells (bases cs))) (mark_for z.method (base_at (row_cells (bases cs)) i) k) i)
        (appends_at (length (row_cells (bases cs))))
        ≡ place_or p (λ i. marks_at (length cs) (mark_for z.method (base_at cs i) k) i) (appends_at (length cs))
    go None = rw (same_length cs) refl
    go (Some i) = rw (same_base cs i, same_length cs) refl

uo_step_same : (z : Settings) (cs : List Cell) (k : ℕ) → uo_step z (row_cells (bases cs)) k ≡ uo_step z cs k
unfolding uo_step ua_step uo_for ua_for
uo_step_same z cs k = simp (uo_same cs, ua_same cs, same_length cs, mark_step_same z cs k)

pub step_same : (z : Settings) (cs : List Cell) (k : ℕ) → each is_cell cs ≡ true → step_of z (row_cells (bases cs)) k ≡ step_of z cs k
unfolding step_of tone_for
step_same z cs k e = simp (any_same cs e, tone_place_same cs e, same_length cs, uo_step_same z cs k)
