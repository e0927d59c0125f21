-- No second answer fits a public function's contract, and no second content of a place that is lent to it.
use mathlib.Core.Path.{refl}
use Rattle.p0_choice.proofs.Only.{OneAnswer, OneAnswerAsked, alike}
use Rattle.p7_line.proofs as own

pub put_refused_only :
    OneAnswerAsked own.put_refused.Kinds.ps own.put_refused.Kinds.r own.put_refused.Reads.Asked own.put_refused.Reads.Learnt
put_refused_only κs a asked z z' w w' q q' = (alike q.0 q'.0, λ i. (tt, (alike q.2 q'.2 i, tt)))

pub method_line_only : OneAnswer own.method_line.Kinds.ps own.method_line.Kinds.r own.method_line.Reads.Asked own.method_line.Reads.Learnt
method_line_only κs a = (tt, λ z z' w w' q q'. (alike q q', refl))

pub line_out_only : OneAnswerAsked own.line_out.Kinds.ps own.line_out.Kinds.r own.line_out.Reads.Asked own.line_out.Reads.Learnt
line_out_only κs a asked z z' w w' q q' = (alike q.0 q'.0, λ i. (tt, (tt, (alike q.2 q'.2 i, tt))))
