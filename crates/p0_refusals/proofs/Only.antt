-- No second answer fits a public function's contract.
use mathlib.Core.Path.{refl}
use Rattle.p0_choice.proofs.Only.{OneAnswer, alike}
use Rattle.p0_refusals.proofs as own

pub u32_from_refusal_only :
    OneAnswer own.U32FromRefusal.from.Kinds.ps own.U32FromRefusal.from.Kinds.r own.U32FromRefusal.from.Reads.Asked
    own.U32FromRefusal.from.Reads.Learnt
u32_from_refusal_only κs a = (tt, λ z z' w w' q q'. (alike q q', refl))

pub refusal_of_only : OneAnswer own.refusal_of.Kinds.ps own.refusal_of.Kinds.r own.refusal_of.Reads.Asked own.refusal_of.Reads.Learnt
refusal_of_only κs a = (tt, λ z z' w w' q q'. (alike q q', refl))
