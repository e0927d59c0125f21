-- No second answer fits a public function's contract, and no second content of a place that is lent to it.
use mathlib.Core.Path.{refl}
use Rattle.p0_choice.proofs.Only.{OneAnswer, alike}
use Rattle.p6_note_bytes.proofs as own

pub begin_only : OneAnswer own.begin.Kinds.ps own.begin.Kinds.r own.begin.Reads.Asked own.begin.Reads.Learnt
begin_only κs a = (tt, λ z z' w w' q q'. (alike q.0 q'.0, λ i. (alike q.1 q'.1 i, tt)))

pub part_only : OneAnswer own.part.Kinds.ps own.part.Kinds.r own.part.Reads.Asked own.part.Reads.Learnt
part_only κs a = (tt, λ z z' w w' q q'. (alike q.0 q'.0, λ i. (alike q.1 q'.1 i, (tt, tt))))

pub answer_only : OneAnswer own.answer.Kinds.ps own.answer.Kinds.r own.answer.Reads.Asked own.answer.Reads.Learnt
answer_only κs a = (tt, λ z z' w w' q q'. (alike q q', refl))
