-- No second answer fits a public function's contract, and no second content of a place that is lent to it.
use mathlib.Core.Path.{refl}
use Rattle.p0_choice.proofs.Only.{OneAnswer, alike}
use Rattle.p3_undo.proofs as own

pub sign_only : OneAnswer own.sign.Kinds.ps own.sign.Kinds.r own.sign.Reads.Asked own.sign.Reads.Learnt
sign_only κs a = (tt, λ z z' w w' q q'. (alike q q', refl))

pub to_undo_only : OneAnswer own.to_undo.Kinds.ps own.to_undo.Kinds.r own.to_undo.Reads.Asked own.to_undo.Reads.Learnt
to_undo_only κs a = (tt, λ z z' w w' q q'. (alike q q', refl))

pub tone_lost_only : OneAnswer own.tone_lost.Kinds.ps own.tone_lost.Kinds.r own.tone_lost.Reads.Asked own.tone_lost.Reads.Learnt
tone_lost_only κs a = (tt, λ z z' w w' q q'. (alike q q', refl))

pub restored_only : OneAnswer own.restored.Kinds.ps own.restored.Kinds.r own.restored.Reads.Asked own.restored.Reads.Learnt
restored_only κs a = (tt, λ z z' w w' q q'. (alike q q', refl))

pub behaviour_only : OneAnswer own.behaviour.Kinds.ps own.behaviour.Kinds.r own.behaviour.Reads.Asked own.behaviour.Reads.Learnt
behaviour_only κs a = (tt, λ z z' w w' q q'. (alike q q', refl))

pub undo_telex_transform_only :
    OneAnswer own.undo_telex_transform.Kinds.ps own.undo_telex_transform.Kinds.r
    own.undo_telex_transform.Reads.Asked own.undo_telex_transform.Reads.Learnt
undo_telex_transform_only κs a = (tt, λ z z' w w' q q'. (alike q q', refl))
