use Rattle.std.proofs.Common.{◌≡◌, ◌++◌, take, drop}
use Rattle.p3_cells.specs.Text.{text_of}
use Rattle.p3_cells.proofs.flatten.Given as goal

abbrev pub invariant-loop-i : goal.invariant-loop-i
invariant-loop-i l = l.out ≡ text_of l.fn.c.settings.capitals (take l.i l.cell-items) ++ drop l.i l.fn.out
