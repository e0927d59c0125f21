use mathlib.Core.Path.{refl}
use native.Mathlib.Omega.{arith}
use Rattle.p7_feed.specs.Mirror.{begun_phase, begun_out, end_phase, end_out}
use Rattle.p7_feed.proofs.end_line.Goals as goal

pub returns-in-Ok-clause-next : goal.returns-in-Ok-clause-next
unfolding end_phase begun_phase
returns-in-Ok-clause-next c = rw (c.in-Start.is, ← c.method_line.ensures, c.in-Ok.is) refl

pub returns-in-Ok-clause-count : goal.returns-in-Ok-clause-count
unfolding end_out begun_out
returns-in-Ok-clause-count c = rw (c.in-Start.is, ← c.method_line.ensures, c.in-Ok.is) (refl, omega arith)

pub returns-in-Ok-clause-printed : goal.returns-in-Ok-clause-printed
unfolding end_out begun_out
returns-in-Ok-clause-printed c = rw (c.in-Start.is, ← c.method_line.ensures, c.in-Ok.is) refl

pub returns-in-Err-clause-next : goal.returns-in-Err-clause-next
unfolding end_phase begun_phase
returns-in-Err-clause-next c = rw (c.in-Start.is, ← c.method_line.ensures, c.in-Err.is) refl

pub returns-in-Err-clause-count : goal.returns-in-Err-clause-count
unfolding end_out begun_out
returns-in-Err-clause-count c = rw (c.in-Start.is, ← c.method_line.ensures, c.in-Err.is) (c.put_refused.ensures.0, c.put_refused.ensures.1)

pub returns-in-Err-clause-printed : goal.returns-in-Err-clause-printed
unfolding end_out begun_out
returns-in-Err-clause-printed c = rw (c.in-Start.is, ← c.method_line.ensures, c.in-Err.is) c.put_refused.ensures.2

pub returns-in-Keys-clause-next : goal.returns-in-Keys-clause-next
unfolding end_phase
returns-in-Keys-clause-next c = rw c.in-Keys.is refl

pub returns-in-Keys-clause-count : goal.returns-in-Keys-clause-count
unfolding end_out
returns-in-Keys-clause-count c = rw c.in-Keys.is (c.line_out.ensures.0, c.line_out.ensures.1)

pub returns-in-Keys-clause-printed : goal.returns-in-Keys-clause-printed
unfolding end_out
returns-in-Keys-clause-printed c = rw c.in-Keys.is c.line_out.ensures.2

pub returns-in-Ended-clause-next : goal.returns-in-Ended-clause-next
unfolding end_phase
returns-in-Ended-clause-next c = rw c.in-Ended.is refl

pub returns-in-Ended-clause-count : goal.returns-in-Ended-clause-count
unfolding end_out
returns-in-Ended-clause-count c = rw c.in-Ended.is (refl, omega arith)

pub returns-in-Ended-clause-printed : goal.returns-in-Ended-clause-printed
unfolding end_out
returns-in-Ended-clause-printed c = rw c.in-Ended.is refl
