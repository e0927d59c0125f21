use Prim.Native.Nat.{◌≤◌, ◌-◌}
use mathlib.Core.Path.{◌≡◌}
use lib.ListN.{length, drop}
use Rattle.p0_refusals.specs.Mirror.{counted}
use Rattle.p5_utf8_text.specs.Read.{letters, reading}
use Rattle.p5_utf8_text.proofs.Surveying.{counted_from}
use Rattle.p5_utf8_text.proofs.reader.survey.Given as goal

abbrev pub invariant-loop-i : goal.invariant-loop-i
invariant-loop-i l = (l.k ≤ l.i) × (counted (reading l.bytes) ≡ counted_from l.k (letters (drop l.i l.bytes)))

abbrev pub decreases-loop-i : goal.decreases-loop-i
decreases-loop-i l = length l.bytes - l.k
