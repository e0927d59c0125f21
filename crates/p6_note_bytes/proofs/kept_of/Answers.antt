use Rattle.std.proofs.Common.{arith}
use lib.ListN.{length-set}
use Rattle.p6_note_bytes.proofs.Reading.{kept_on}
use Rattle.p6_note_bytes.proofs.kept_of.Goals as goal

pub loop-i-preserved : goal.loop-i-preserved
loop-i-preserved c = (
  omega arith,
  simp length-set c.loop-i.invariant.1,
  kept_on _ _ _ c.loop-i.invariant.2 _ (omega arith) (cc),
)
