use Rattle.p4_note_parts.proofs.Steps.{on_gap, on_letter, on_refused}
use Rattle.p4_note_parts.proofs.take_part.Goals as goal
use Rattle.p4_note_parts.proofs.take_part.Goals.{in-Ok-Gap, in-Ok-Letter}

pub returns-in-Err : goal.returns-in-Err
returns-in-Err c =
    on_refused _ _ _ _ c.loop-x.invariant _ c.loop-x-test.true c.take.ensures _ _ c.in-Err.is c.end.ensures

pub loop-x-preserved : goal.loop-x-preserved
loop-x-preserved c =
    elim c.match-take-2.branch [
      | in-Ok-Gap w ↦ rw w.s-is (on_gap _ _ _ _ c.loop-x.invariant _ c.loop-x-test.true c.take.ensures _ (cc) w.close-s.ensures)
      | in-Ok-Letter w ↦ rw w.s-is (on_letter _ _ _ _ c.loop-x.invariant _ c.loop-x-test.true c.take.ensures _ (cc) w.lengthen-s.ensures)
    ]
