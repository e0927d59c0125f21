use Rattle.std.proofs.Common.{sym, ◌∙◌, arith}
use Rattle.p3_marks.proofs.Mark.{mark_end}
use Rattle.p3_marks.proofs.find_mark_backtrack.Goals as goal

pub returns : goal.returns
returns c = sym (c.loop-i.invariant ∙ mark_end c.args.m c.args.row.now c.args.k c.loop-i.i (omega arith))
