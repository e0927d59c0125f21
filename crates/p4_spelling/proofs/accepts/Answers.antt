use Rattle.p4_spelling.proofs.Folding.{begins_z}
use Rattle.p4_spelling.proofs.accepts.Goals as goal

pub returns-then-plain-eq-Z : goal.returns-then-plain-eq-Z
returns-then-plain-eq-Z c = begins_z _ _ _ c.loop-i.invariant.1 c.loop-i-test.false c.if-plain-eq-Z.true
