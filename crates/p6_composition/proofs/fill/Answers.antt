use Rattle.std.proofs.Common.{arith, length-set, ◌∙◌}
use Rattle.p6_composition.proofs.Filled.{filled_more}
use Rattle.p6_composition.proofs.fill.Goals as goal

pub loop-i-preserved : goal.loop-i-preserved
loop-i-preserved g c = (
  length-set _ _ _ ∙ c.loop-i.invariant.0,
  λ h f. filled_more _ _ _ _ _ h (c.loop-i.invariant.1 h f) c.cell.ensures (f _ _ c.number.ensures) (omega arith) (omega arith),
)
