use Rattle.std.proofs.Common.{rules, arith}
use Rattle.p6_draft.proofs.Writing.{cells_start, cells_on}
use Rattle.p6_draft_calls.proofs.cells.put_cells.Goals as goal

pub loop-i-init : goal.loop-i-init
loop-i-init g c = (search rules, λ d k f. cells_start d _)

pub loop-i-preserved : goal.loop-i-preserved
loop-i-preserved g c = (
  search rules,
  λ d k f. cells_on d _ _ _ _ c.args.n _ (c.loop-i.invariant.1 d k f) (f _ _ (omega arith) c.cell.ensures) c.put_cell.ensures (omega arith)
      (omega arith) k (omega arith),
)
