use Rattle.p5_lister.proofs.Back.{Walks}
use Rattle.p5_lister.proofs.turn.Given as goal

abbrev pub invariant-loop-i : goal.invariant-loop-i
invariant-loop-i l = Walks l.root l.word l.row l.i l.back
