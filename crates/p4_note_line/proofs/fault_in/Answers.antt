use Rattle.std.proofs.lemmas.Result.{err_from_is_err_and}
use Rattle.p4_note_line.proofs.Faults.{fault_here}
use Rattle.p4_note_line.proofs.fault_in.Goals as goal

pub returns-in_err-take : goal.returns-in_err-take
returns-in_err-take c =
    let p = err_from_is_err_and c.from_residual.result c.from_residual.ensures.1 in
    rw (p.1, p.2) (fault_here _ _ _ _ _ c.loop-at.invariant.1 c.loop-at-test.true c.take.ensures _ c.in_err-take.was)
