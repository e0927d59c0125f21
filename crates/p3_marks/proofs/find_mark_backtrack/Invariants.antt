use Rattle.std.proofs.Common.{◌≡◌, ◌+◌, ◌-◌, length}
use Rattle.p3_cells.specs.Mirror.{row_cells}
use Rattle.p3_marks.specs.Mark.{mark_back, mark_place}
use Rattle.p3_marks.proofs.find_mark_backtrack.Given as goal

abbrev pub invariant-loop-i : goal.invariant-loop-i
invariant-loop-i l = mark_place l.m (row_cells l.row) l.k ≡ mark_back l.m (row_cells l.row) l.k (l.i + 5 - length l.row) l.i
