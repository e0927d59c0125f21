-- No second answer fits a public function's contract.
use mathlib.Core.Path.{refl}
use Rattle.p0_choice.proofs.Only.{OneAnswer, OneAnswerAsked, alike}
use Rattle.p4_note_line.proofs as own

pub take_only : OneAnswer own.take.Kinds.ps own.take.Kinds.r own.take.Reads.Asked own.take.Reads.Learnt
take_only κs a = (tt, λ z z' w w' q q'. (alike q q', refl))

pub check_only : OneAnswer own.check.Kinds.ps own.check.Kinds.r own.check.Reads.Asked own.check.Reads.Learnt
check_only κs a = (tt, λ z z' w w' q q'. (alike q q', refl))

pub add_only : OneAnswerAsked own.Report.add.Kinds.ps own.Report.add.Kinds.r own.Report.add.Reads.Asked own.Report.add.Reads.Learnt
add_only κs a m z z' w w' q q' = (refl, λ i. (alike q q' i, (tt, (tt, tt))))
