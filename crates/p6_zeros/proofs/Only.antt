-- No second answer fits a public function's contract, and no second content of a place that is lent to it.
use mathlib.Core.Path.{refl}
use Rattle.p0_choice.proofs.Only.{OneAnswer, OneAnswerAsked, alike}
use Rattle.p6_zeros.proofs as own

pub long_at_only : OneAnswerAsked own.long_at.Kinds.ps own.long_at.Kinds.r own.long_at.Reads.Asked own.long_at.Reads.Learnt
long_at_only κs a asked z z' w w' q q' = (alike q q', refl)

pub all_zero_only : OneAnswer own.all_zero.Kinds.ps own.all_zero.Kinds.r own.all_zero.Reads.Asked own.all_zero.Reads.Learnt
all_zero_only κs a = (tt, λ z z' w w' q q'. (alike q q', refl))

pub put_zeros_only : OneAnswerAsked own.put_zeros.Kinds.ps own.put_zeros.Kinds.r own.put_zeros.Reads.Asked own.put_zeros.Reads.Learnt
put_zeros_only κs a asked z z' w w' q q' = (refl, λ i. (alike q q' i, (tt, (tt, tt))))
