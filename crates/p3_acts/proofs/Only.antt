-- No second answer fits a public function's contract, and no second content of a place that is lent to it.
use mathlib.Core.Path.{refl}
use Rattle.p0_choice.proofs.Only.{OneAnswer, alike}
use Rattle.p3_acts.proofs as own

pub acts_only : OneAnswer own.acts.Kinds.ps own.acts.Kinds.r own.acts.Reads.Asked own.acts.Reads.Learnt
acts_only κs a = (tt, λ z z' w w' q q'. (alike q q', refl))
