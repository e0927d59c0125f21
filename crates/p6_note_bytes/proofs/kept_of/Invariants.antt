use Prim.Native.Nat.{◌≤◌}
use mathlib.Core.Path.{◌≡◌}
use lib.ListN.{length, take}
use Rattle.p4_spelling.specs.Verdict.{longest_length}
use Rattle.p6_note_bytes.specs.Bytes.{kept_start, kept_at}
use Rattle.p6_note_bytes.proofs.kept_of.Given as goal

abbrev pub invariant-loop-i : goal.invariant-loop-i
invariant-loop-i l = (l.i ≤ longest_length) × (length l.kept ≡ longest_length) × (take l.i l.kept ≡ kept_at l.i l.b kept_start)
