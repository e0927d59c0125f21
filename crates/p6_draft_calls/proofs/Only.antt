-- No second answer fits a public function's contract, and no second content of a place that is lent to it: what bytes are a draft of
-- is one thing, and the answer and what is left are told by it.
use mathlib.Core.Path.{refl}
use Rattle.p0_choice.proofs.Only.{OneAnswer, alike}
use Rattle.p6_draft.proofs.Exact.{one_reading}
use Rattle.p6_draft_calls.proofs.by_value as value
use Rattle.p6_draft_calls.proofs.on_bytes as bytes

pub write_only : OneAnswer value.write.Kinds.ps value.write.Kinds.r value.write.Reads.Asked value.write.Reads.Learnt
write_only κs a = (tt, λ z z' w w' q q'. (alike q.0 q'.0, λ i. (tt, (alike q.1 q'.1 i, tt))))

pub read_only : OneAnswer value.read.Kinds.ps value.read.Kinds.r value.read.Reads.Asked value.read.Reads.Learnt
read_only κs a = (
  tt,
  λ z z' w w' q q'. let e = one_reading a.1.0.now q.0 q'.0 q.1 q'.1 in (alike (rw e at q.2) q'.2, refl),
)

pub write_on_only : OneAnswer bytes.write_on.Kinds.ps bytes.write_on.Kinds.r bytes.write_on.Reads.Asked bytes.write_on.Reads.Learnt
write_on_only κs a = (tt, λ z z' w w' q q'. (alike q.0 q'.0, λ i. (tt, (alike q.1 q'.1 i, tt))))

pub read_on_only : OneAnswer bytes.read_on.Kinds.ps bytes.read_on.Kinds.r bytes.read_on.Reads.Asked bytes.read_on.Reads.Learnt
read_on_only κs a = (
  tt,
  λ z z' w w' q q'.
      let e = one_reading a.0.now q.0 q'.0 q.1 q'.1 in
      (alike (rw e at q.2) q'.2, λ i. (tt, (alike (rw e at q.3) q'.3 i, tt))),
)
