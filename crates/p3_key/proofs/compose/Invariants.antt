use Rattle.std.proofs.Common.{◌≡◌, ◌+◌, ◌*◌, ◌^◌, ◌≤◌, length}
use Rattle.p3_cells.specs.Cells.{limit}
use Rattle.p3_cells.proofs.SoundTest.{fits_from}
use Rattle.p3_cells.proofs.Fill.{Filled}
use Rattle.p3_key.proofs.Faults.{faults_by, sum_from}
use Rattle.p3_key.proofs.Letters.{letters_in}
use Rattle.p3_key.proofs.compose.Given as goal

abbrev pub invariant-loop-cell : goal.invariant-loop-cell
invariant-loop-cell g l = (l.left ≤ l.cell-index * 2 ^ 57) × (sum_from l.fn.c 0 ≡ l.left + sum_from l.fn.c l.cell-index)

abbrev pub invariant-loop-i : goal.invariant-loop-i
invariant-loop-i g l =
    (length l.bases ≡ limit) × (l.faults ≤ l.i) × (l.left ≤ limit * 2 ^ 57) × Filled l.fn.c l.bases l.i
    × (fits_from l.fn.c 0 ≡ faults_by l.fn.c l.faults l.i) × (l.left ≡ sum_from l.fn.c l.i)

abbrev pub invariant-loop-j : goal.invariant-loop-j
invariant-loop-j g l = (length l.out ≡ length l.initial.out) × (l.out ≡ letters_in l.z l.key l.cell-items l.j l.initial.out)
