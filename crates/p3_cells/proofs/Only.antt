-- No second answer fits a public function's contract, and no second content of a place that is lent to it.
use mathlib.Core.Path.{refl}
use Rattle.p0_choice.proofs.Only.{OneAnswer, OneAnswerAsked, alike}
use Rattle.p3_cells.proofs as own

pub blank_only : OneAnswer own.blank.Kinds.ps own.blank.Kinds.r own.blank.Reads.Asked own.blank.Reads.Learnt
blank_only κs a = (tt, λ z z' w w' q q'. (alike q q', refl))

pub typed_only : OneAnswer own.typed.Kinds.ps own.typed.Kinds.r own.typed.Reads.Asked own.typed.Reads.Learnt
typed_only κs a = (tt, λ z z' w w' q q'. (alike q q', refl))

pub is_mark_only : OneAnswer own.is_mark.Kinds.ps own.is_mark.Kinds.r own.is_mark.Reads.Asked own.is_mark.Reads.Learnt
is_mark_only κs a = (tt, λ z z' w w' q q'. (alike q q', refl))

pub tone_fits_only : OneAnswer own.tone_fits.Kinds.ps own.tone_fits.Kinds.r own.tone_fits.Reads.Asked own.tone_fits.Reads.Learnt
tone_fits_only κs a = (tt, λ z z' w w' q q'. (alike q q', refl))

pub is_cell_only : OneAnswer own.is_cell.Kinds.ps own.is_cell.Kinds.r own.is_cell.Reads.Asked own.is_cell.Reads.Learnt
is_cell_only κs a = (tt, λ z z' w w' q q'. (alike q q', refl))

pub packed_only : OneAnswer own.packed.Kinds.ps own.packed.Kinds.r own.packed.Reads.Asked own.packed.Reads.Learnt
packed_only κs a = (tt, λ z z' w w' q q'. (alike q.0 q'.0, refl))

pub sound_only : OneAnswer own.sound.Kinds.ps own.sound.Kinds.r own.sound.Reads.Asked own.sound.Reads.Learnt
sound_only κs a = (tt, λ z z' w w' q q'. (alike q q', refl))

pub letter_of_only : OneAnswer own.letter_of.Kinds.ps own.letter_of.Kinds.r own.letter_of.Reads.Asked own.letter_of.Reads.Learnt
letter_of_only κs a = (tt, λ z z' w w' q q'. (alike q q', refl))

pub shown_only : OneAnswer own.shown.Kinds.ps own.shown.Kinds.r own.shown.Reads.Asked own.shown.Reads.Learnt
shown_only κs a = (tt, λ z z' w w' q q'. (alike q q', refl))

pub flatten_only : OneAnswerAsked own.flatten.Kinds.ps own.flatten.Kinds.r own.flatten.Reads.Asked own.flatten.Reads.Learnt
flatten_only κs a asked z z' w w' q q' = (alike q.0 q'.0, λ i. (tt, (alike q.1 q'.1 i, tt)))
