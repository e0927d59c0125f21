use Rattle.std.proofs.Common.{◌≡◌, length}
use Rattle.p3_undo.specs.Raw.{raw_lowered, last_end}
use Rattle.p3_undo.proofs.last_end.Given as goal

abbrev pub invariant-loop-i : goal.invariant-loop-i
invariant-loop-i l = last_end (raw_lowered l.raw) l.a l.t (length l.raw) ≡ last_end (raw_lowered l.raw) l.a l.t l.i
