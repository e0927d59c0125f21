use Prim.Native.Nat.{◌≤◌}
use mathlib.Core.Path.{◌≡◌}
use Rattle.p3_cells.specs.Cells.{limit}
use Rattle.p6_draft_calls.proofs.Filling.{filled}
use Rattle.p6_draft_calls.proofs.by_value.composition.Given as goal

abbrev pub invariant-loop-i : goal.invariant-loop-i
invariant-loop-i l = (l.i ≤ l.n) × (l.n ≤ limit) × (l.c ≡ filled l.draft l.n l.i)
