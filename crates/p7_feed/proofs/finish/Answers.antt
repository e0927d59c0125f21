use native.Mathlib.Omega.{arith}
use mathlib.Core.Path.{refl}
use Rattle.p7_feed.specs.Mirror.{finish_out}
use Rattle.p7_feed.proofs.finish.Goals as goal

pub returns-then-not-counts : goal.returns-then-not-counts
unfolding finish_out
returns-then-not-counts c = let e = rw c.if-not-counts.true at c.counts.ensures in rw e (refl, omega arith, refl)

pub returns : goal.returns
unfolding finish_out
returns c = let e = rw c.if-not-counts.false at c.counts.ensures in rw e (c.end_line.ensures.count.0, c.end_line.ensures.count.1, c.end_line.ensures.printed)
