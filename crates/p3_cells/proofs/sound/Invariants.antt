use Rattle.std.proofs.Common.{◌≡◌, ◌+◌, ◌*◌, ◌^◌, ◌≤◌, false, eqb}
use Rattle.p0_choice.specs.Choice.{pick}
use Rattle.p3_cells.specs.Cells.{is_sound}
use Rattle.p3_cells.proofs.SoundTest.{fits_from}
use Rattle.p3_cells.proofs.sound.Given as goal

abbrev pub invariant-loop-cell : goal.invariant-loop-cell
invariant-loop-cell l = is_sound l.fn.c ≡ fits_from l.fn.c l.cell-index

abbrev pub invariant-loop-cell-2 : goal.invariant-loop-cell-2
invariant-loop-cell-2 l =
    (l.sum ≤ l.cell-index * 2 ^ 57) × (is_sound l.fn.c ≡ pick (eqb l.sum 0) (fits_from l.fn.c (l.fn.c.count + l.cell-index)) false)
