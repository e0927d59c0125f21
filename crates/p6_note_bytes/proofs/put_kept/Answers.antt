use Rattle.std.proofs.Common.{rules}
use lib.ListN.{length-set}
use Rattle.p6_note_bytes.proofs.Writing.{put_on}
use Rattle.p6_note_bytes.proofs.put_kept.Goals as goal

pub loop-i-preserved : goal.loop-i-preserved
loop-i-preserved c = (
  simp length-set c.loop-i.invariant.0,
  rw c.two_bytes.ensures (put_on _ _ _ _ (search rules) (search rules) c.loop-i.invariant.1 (search rules)),
)
