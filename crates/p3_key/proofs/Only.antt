-- No second answer fits a public function's contract, and no second content of a place that is lent to it.
use Rattle.p0_choice.proofs.Only.{OneAnswer, OneAnswerAsked, alike}
use Rattle.p3_key.proofs as own

pub process_key_only : OneAnswer own.process_key.Kinds.ps own.process_key.Kinds.r own.process_key.Reads.Asked own.process_key.Reads.Learnt
process_key_only κs a = (tt, λ z z' w w' q q'. (alike q.0 q'.0, λ i. (tt, (tt, (alike q.1 q'.1 i, tt)))))

pub process_sound_key_only :
    OneAnswerAsked own.process_sound_key.Kinds.ps own.process_sound_key.Kinds.r
    own.process_sound_key.Reads.Asked own.process_sound_key.Reads.Learnt
process_sound_key_only κs a asked z z' w w' q q' = (alike q.0 q'.0, λ i. (tt, (tt, (alike q.1 q'.1 i, tt))))
