-- No second answer fits a public function's contract.
use mathlib.Core.Path.{refl}
use Rattle.p0_choice.proofs.Only.{OneAnswer, alike}
use Rattle.p1_tone_block.proofs as own

pub letter_at_only : OneAnswer own.letter_at.Kinds.ps own.letter_at.Kinds.r own.letter_at.Reads.Asked own.letter_at.Reads.Learnt
letter_at_only κs a = (tt, λ z z' w w' q q'. (alike q q', refl))

pub letter_place_only :
    OneAnswer own.letter_place.Kinds.ps own.letter_place.Kinds.r own.letter_place.Reads.Asked own.letter_place.Reads.Learnt
letter_place_only κs a = (tt, λ z z' w w' q q'. (alike q q', refl))
