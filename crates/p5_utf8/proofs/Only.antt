-- No second answer fits a public function's contract, and no second content of a place that is lent to it.
use mathlib.Core.Path.{refl}
use Rattle.p0_choice.proofs.Only.{OneAnswer, OneAnswerAsked, alike}
use Rattle.p5_utf8.proofs as own

pub char_at_only : OneAnswer own.char_at.Kinds.ps own.char_at.Kinds.r own.char_at.Reads.Asked own.char_at.Reads.Learnt
char_at_only κs a = (tt, λ z z' w w' q q'. (alike q q', refl))

pub bits2_only : OneAnswer own.bits2.Kinds.ps own.bits2.Kinds.r own.bits2.Reads.Asked own.bits2.Reads.Learnt
bits2_only κs a = (tt, λ z z' w w' q q'. (alike q q', refl))

pub bits3_only : OneAnswer own.bits3.Kinds.ps own.bits3.Kinds.r own.bits3.Reads.Asked own.bits3.Reads.Learnt
bits3_only κs a = (tt, λ z z' w w' q q'. (alike q q', refl))

pub width_only : OneAnswer own.width.Kinds.ps own.width.Kinds.r own.width.Reads.Asked own.width.Reads.Learnt
width_only κs a = (tt, λ z z' w w' q q'. (alike q.0 q'.0, refl))

pub put_only : OneAnswerAsked own.put.Kinds.ps own.put.Kinds.r own.put.Reads.Asked own.put.Reads.Learnt
put_only κs a asked z z' w w' q q' = (alike q.0 q'.0, λ i. (alike q.1.0 q'.1.0 i, (tt, (tt, tt))))
