-- No second answer fits a public function's contract, and no second content of a place that is lent to it.
use mathlib.Core.Path.{refl}
use Rattle.p0_choice.proofs.Only.{OneAnswer, alike}
use Rattle.p3_tone.proofs as own

pub find_tone_position_only :
    OneAnswer own.find_tone_position.Kinds.ps own.find_tone_position.Kinds.r
    own.find_tone_position.Reads.Asked own.find_tone_position.Reads.Learnt
find_tone_position_only κs a = (tt, λ z z' w w' q q'. (alike q q', refl))
