use Prim.Native.Nat.{◌≤◌, ◌-◌}
use mathlib.Core.Path.{◌≡◌}
use lib.ListN.{length, drop}
use Rattle.p0_refusals.specs.Answers.{content}
use Rattle.p5_utf8.specs.Rfc3629.{encode_all}
use Rattle.p5_utf8_text.specs.Read.{reading}
use Rattle.p5_utf8_text.proofs.Spreading.{over}
use Rattle.p5_utf8_text.proofs.reader.spread.Given as goal

abbrev pub invariant-loop-i : goal.invariant-loop-i
invariant-loop-i l =
    (l.k ≤ l.i)
    × (l.k ≤ length (content (reading l.bytes)))
    × (length l.out ≡ length l.initial.out)
    × (drop l.i l.bytes ≡ encode_all (drop l.k (content (reading l.bytes))))
    × (l.out ≡ over (content (reading l.bytes)) l.k l.initial.out)

abbrev pub decreases-loop-i : goal.decreases-loop-i
decreases-loop-i l = length l.bytes - l.k
