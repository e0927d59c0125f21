-- No second answer fits a public function's contract.
use mathlib.Core.Path.{refl}
use Rattle.p0_choice.proofs.Only.{OneAnswer, alike}
use Rattle.p4_note_parts.proofs as own

pub sound_only : OneAnswer own.sound.Kinds.ps own.sound.Kinds.r own.sound.Reads.Asked own.sound.Reads.Learnt
sound_only κs a = (tt, λ z z' w w' q q'. (alike q q', refl))

pub begin_only : OneAnswer own.begin.Kinds.ps own.begin.Kinds.r own.begin.Reads.Asked own.begin.Reads.Learnt
begin_only κs a = (tt, λ z z' w w' q q'. (alike q q', refl))

pub part_only : OneAnswer own.part.Kinds.ps own.part.Kinds.r own.part.Reads.Asked own.part.Reads.Learnt
part_only κs a = (tt, λ z z' w w' q q'. (alike q q', refl))

pub answer_only : OneAnswer own.answer.Kinds.ps own.answer.Kinds.r own.answer.Reads.Asked own.answer.Reads.Learnt
answer_only κs a = (tt, λ z z' w w' q q'. (alike q q', refl))
