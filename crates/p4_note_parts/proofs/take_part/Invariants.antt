use Rattle.p4_note_parts.proofs.Steps.{On}
use Rattle.p4_note_parts.proofs.take_part.Given as goal

abbrev pub invariant-loop-x : goal.invariant-loop-x
invariant-loop-x l = On l.part l.initial.s l.s l.x-index
