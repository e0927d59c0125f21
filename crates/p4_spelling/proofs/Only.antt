-- No second answer fits a public function's contract, and no second content of a place that is lent to it.
use mathlib.Core.Path.{refl}
use Rattle.p0_choice.proofs.Only.{OneAnswer, OneContent, alike}
use Rattle.p4_spelling.proofs as own

pub cut_at_only : OneAnswer own.cut_at.Kinds.ps own.cut_at.Kinds.r own.cut_at.Reads.Asked own.cut_at.Reads.Learnt
cut_at_only κs a = (tt, λ z z' w w' q q'. (alike q.0 q'.0, refl))

pub onset_part_only :
    OneContent own.onset_part.Kinds.ps own.onset_part.Kinds.r own.onset_part.Reads.Asked own.onset_part.Reads.Learnt (λ κs z. z.now)
onset_part_only κs a = (tt, λ z z' w w' q q'. (alike q q', refl))

pub vowels_part_only :
    OneContent own.vowels_part.Kinds.ps own.vowels_part.Kinds.r own.vowels_part.Reads.Asked own.vowels_part.Reads.Learnt (λ κs z. z.now)
vowels_part_only κs a = (tt, λ z z' w w' q q'. (alike q q', refl))

pub coda_part_only :
    OneContent own.coda_part.Kinds.ps own.coda_part.Kinds.r own.coda_part.Reads.Asked own.coda_part.Reads.Learnt (λ κs z. z.now)
coda_part_only κs a = (tt, λ z z' w w' q q'. (alike q q', refl))

pub partition_only : OneAnswer own.partition.Kinds.ps own.partition.Kinds.r own.partition.Reads.Asked own.partition.Reads.Learnt
partition_only κs a = (tt, λ z z' w w' q q'. (alike q q', refl))

pub accepts_only : OneAnswer own.accepts.Kinds.ps own.accepts.Kinds.r own.accepts.Reads.Asked own.accepts.Reads.Learnt
accepts_only κs a = (tt, λ z z' w w' q q'. (alike q q', refl))

pub is_valid_vietnamese_syllable_only :
    OneAnswer own.is_valid_vietnamese_syllable.Kinds.ps own.is_valid_vietnamese_syllable.Kinds.r
    own.is_valid_vietnamese_syllable.Reads.Asked own.is_valid_vietnamese_syllable.Reads.Learnt
is_valid_vietnamese_syllable_only κs a = (tt, λ z z' w w' q q'. (alike q q', refl))
