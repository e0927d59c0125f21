use Prim.Native.Nat.{◌≤◌}
use mathlib.Core.Path.{◌≡◌}
use lib.ListN.{drop}
use Rattle.p4_note_line.specs.Line.{line_fault, fault_from}
use Rattle.p4_note_line.proofs.fault_in.Given as goal

abbrev pub invariant-loop-at : goal.invariant-loop-at
invariant-loop-at l = (l.run ≤ l.at) × (line_fault l.line ≡ fault_from l.at l.run (drop l.at l.line))
