-- No second answer fits a public function's contract, and no second content of a place that is lent to it.
use mathlib.Core.Path.{refl}
use Rattle.p0_choice.proofs.Only.{OneAnswer, alike}
use Rattle.p3_marks.proofs as own

pub find_uo_only : OneAnswer own.find_uo.Kinds.ps own.find_uo.Kinds.r own.find_uo.Reads.Asked own.find_uo.Reads.Learnt
find_uo_only κs a = (tt, λ z z' w w' q q'. (alike q q', refl))

pub find_ua_only : OneAnswer own.find_ua.Kinds.ps own.find_ua.Kinds.r own.find_ua.Reads.Asked own.find_ua.Reads.Learnt
find_ua_only κs a = (tt, λ z z' w w' q q'. (alike q q', refl))

pub find_mark_backtrack_only :
    OneAnswer own.find_mark_backtrack.Kinds.ps own.find_mark_backtrack.Kinds.r
    own.find_mark_backtrack.Reads.Asked own.find_mark_backtrack.Reads.Learnt
find_mark_backtrack_only κs a = (tt, λ z z' w w' q q'. (alike q q', refl))
