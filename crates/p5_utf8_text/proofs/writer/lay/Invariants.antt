use Prim.Native.Nat.{◌+◌}
use mathlib.Core.Path.{◌≡◌}
use mathlib.Core.List.{◌++◌}
use lib.ListN.{length, take, drop}
use Rattle.p5_utf8.specs.Rfc3629.{encode_all}
use Rattle.p5_utf8_text.proofs.writer.lay.Given as goal

abbrev pub invariant-loop-x : goal.invariant-loop-x
invariant-loop-x l =
    (length (encode_all l.word) ≡ l.j + length (encode_all (drop l.x-index l.word)))
    × (length l.out ≡ length l.initial.out)
    × (encode_all l.word ≡ take l.j l.out ++ encode_all (drop l.x-index l.word))
    × (drop l.j l.out ≡ drop l.j l.initial.out)
