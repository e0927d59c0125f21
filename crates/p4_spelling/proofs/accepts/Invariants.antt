use Prim.Native.Nat.{◌≤◌}
use lib.ListN.{length}
use Rattle.p4_spelling.specs.Verdict.{longest_length}
use Rattle.p4_spelling.proofs.Folding.{Folded}
use Rattle.p4_spelling.proofs.accepts.Given as goal

abbrev pub invariant-loop-i : goal.invariant-loop-i
invariant-loop-i l = (length l.word ≤ longest_length) × Folded l.word l.plain l.i
