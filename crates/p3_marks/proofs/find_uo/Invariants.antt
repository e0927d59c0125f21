use Rattle.std.proofs.Common.{◌≡◌, ◌+◌, ◌-◌, length}
use Rattle.p3_cells.specs.Mirror.{row_cells}
use Rattle.p3_marks.specs.Uo.{uo_back, uo_place}
use Rattle.p3_marks.proofs.find_uo.Given as goal

abbrev pub invariant-loop-i : goal.invariant-loop-i
invariant-loop-i l = uo_place (row_cells l.row) ≡ uo_back (row_cells l.row) (l.i + 5 - length l.row) l.i
