use Prim.Native.Nat.{◌≤◌}
use mathlib.Core.Path.{◌≡◌}
use lib.ListN.{length}
use Rattle.p3_cells.specs.Cells.{limit}
use Rattle.p6_bytes.specs.Bytes.{size, bytes_of}
use Rattle.p6_draft_calls.proofs.Filling.{filled}
use Rattle.p6_draft_calls.proofs.on_bytes.fill_on.Given as goal

abbrev pub invariant-loop-i : goal.invariant-loop-i
invariant-loop-i l = (l.i ≤ l.n) × (l.n ≤ limit) × (length l.state ≡ size) × (l.state ≡ bytes_of (filled l.draft l.n l.i))
