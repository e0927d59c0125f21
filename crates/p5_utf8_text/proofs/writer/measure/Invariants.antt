use Prim.Native.Nat.{◌≤◌, ◌+◌, ◌*◌}
use mathlib.Core.Path.{◌≡◌}
use lib.ListN.{length, drop}
use Rattle.p1_letters.specs.Alphabet.{all_letters}
use Rattle.p5_utf8.specs.Rfc3629.{encode_all}
use Rattle.p5_utf8_text.proofs.writer.measure.Given as goal

abbrev pub invariant-loop-x : goal.invariant-loop-x
invariant-loop-x l =
    (l.n ≤ 4 * l.x-index)
    × (all_letters l.word ≡ all_letters (drop l.x-index l.word))
    × (length (encode_all l.word) ≡ l.n + length (encode_all (drop l.x-index l.word)))
