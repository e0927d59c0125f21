use Rattle.std.proofs.Common.{◌≡◌, length}
use Rattle.p3_cells.specs.Cells.{limit}
use Rattle.p3_undo.proofs.Signs.{Signed}
use Rattle.p3_undo.proofs.find.Given as goal

abbrev pub invariant-loop-i : goal.invariant-loop-i
invariant-loop-i l = (length l.row ≡ limit) × Signed l.fn.c l.row l.i
