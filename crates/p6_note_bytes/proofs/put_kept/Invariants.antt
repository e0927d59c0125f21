use Prim.Native.Nat.{◌+◌, ◌*◌}
use mathlib.Core.Path.{◌≡◌}
use mathlib.Core.List.{◌++◌}
use lib.ListN.{length, drop}
use Rattle.p6_note_bytes.specs.Bytes.{kept_start}
use Rattle.p6_note_bytes.proofs.Writing.{passed}
use Rattle.p6_note_bytes.proofs.put_kept.Given as goal

abbrev pub invariant-loop-i : goal.invariant-loop-i
invariant-loop-i l = (length l.b ≡ length l.initial.b) × (l.b ≡ passed l.initial.b l.kept l.i ++ drop (kept_start + 2 * l.i) l.initial.b)
