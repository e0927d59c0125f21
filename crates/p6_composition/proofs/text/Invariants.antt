use Prim.Native.Nat.{◌≤◌}
use lib.ListN.{length}
use Rattle.p3_cells.proofs.Text.{written_to}
use Rattle.p6_bytes.specs.Bytes.{composition_of}
use mathlib.Core.Path.{◌≡◌}
use Rattle.p6_composition.proofs.text.Given as goal

abbrev pub invariant-loop-i : goal.invariant-loop-i
invariant-loop-i l = (l.i ≤ l.n) × (length l.out ≡ length l.initial.out) × (l.out ≡ written_to (composition_of l.b) l.i l.initial.out)
