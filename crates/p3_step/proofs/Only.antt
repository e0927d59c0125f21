-- No second answer fits a public function's contract, and no second content of a place that is lent to it.
use mathlib.Core.Path.{refl}
use Rattle.p0_choice.proofs.Only.{OneAnswer, alike}
use Rattle.p3_step.proofs as own

pub first_step_only : OneAnswer own.first_step.Kinds.ps own.first_step.Kinds.r own.first_step.Reads.Asked own.first_step.Reads.Learnt
first_step_only κs a = (tt, λ z z' w w' q q'. (alike q q', refl))

pub put_cell_only : OneAnswer own.put_cell.Kinds.ps own.put_cell.Kinds.r own.put_cell.Reads.Asked own.put_cell.Reads.Learnt
put_cell_only κs a = (tt, λ z z' w w' q q'. (alike q q', refl))

pub also_cell_only : OneAnswer own.also_cell.Kinds.ps own.also_cell.Kinds.r own.also_cell.Reads.Asked own.also_cell.Reads.Learnt
also_cell_only κs a = (tt, λ z z' w w' q q'. (alike q q', refl))
