-- No second answer fits a public function's contract, and no second content of a place that is lent to it.
use mathlib.Core.Path.{refl}
use Rattle.p0_choice.proofs.Only.{OneAnswer, OneContent, alike}
use Rattle.p4_rows.proofs as own

pub lookup_onset_only :
    OneContent own.lookup_onset.Kinds.ps own.lookup_onset.Kinds.r own.lookup_onset.Reads.Asked own.lookup_onset.Reads.Learnt (λ κs z. z.now)
lookup_onset_only κs a = (tt, λ z z' w w' q q'. (alike q q', refl))

pub lookup_vowels_only :
    OneContent own.lookup_vowels.Kinds.ps own.lookup_vowels.Kinds.r own.lookup_vowels.Reads.Asked own.lookup_vowels.Reads.Learnt (λ κs z. z.now)
lookup_vowels_only κs a = (tt, λ z z' w w' q q'. (alike q q', refl))

pub lookup_coda_only :
    OneContent own.lookup_coda.Kinds.ps own.lookup_coda.Kinds.r own.lookup_coda.Reads.Asked own.lookup_coda.Reads.Learnt (λ κs z. z.now)
lookup_coda_only κs a = (tt, λ z z' w w' q q'. (alike q q', refl))

pub cv_valid_only : OneAnswer own.cv_valid.Kinds.ps own.cv_valid.Kinds.r own.cv_valid.Reads.Asked own.cv_valid.Reads.Learnt
cv_valid_only κs a = (tt, λ z z' w w' q q'. (alike q q', refl))

pub vc_valid_only : OneAnswer own.vc_valid.Kinds.ps own.vc_valid.Kinds.r own.vc_valid.Reads.Asked own.vc_valid.Reads.Learnt
vc_valid_only κs a = (tt, λ z z' w w' q q'. (alike q q', refl))
