-- No second answer fits a public function's contract, and no second content of a place that is lent to it.
use mathlib.Core.Path.{refl}
use Rattle.p0_choice.proofs.Only.{OneAnswer, alike}
use Rattle.p2_input_method.proofs as own

pub is_tone_key_only : OneAnswer own.is_tone_key.Kinds.ps own.is_tone_key.Kinds.r own.is_tone_key.Reads.Asked own.is_tone_key.Reads.Learnt
is_tone_key_only κs a = (tt, λ z z' w w' q q'. (alike q q', refl))

pub mark_for_only : OneAnswer own.mark_for.Kinds.ps own.mark_for.Kinds.r own.mark_for.Reads.Asked own.mark_for.Reads.Learnt
mark_for_only κs a = (tt, λ z z' w w' q q'. (alike q q', refl))

pub is_horn_key_only : OneAnswer own.is_horn_key.Kinds.ps own.is_horn_key.Kinds.r own.is_horn_key.Reads.Asked own.is_horn_key.Reads.Learnt
is_horn_key_only κs a = (tt, λ z z' w w' q q'. (alike q q', refl))

pub telex_rules_only : OneAnswer own.telex_rules.Kinds.ps own.telex_rules.Kinds.r own.telex_rules.Reads.Asked own.telex_rules.Reads.Learnt
telex_rules_only κs a = (tt, λ z z' w w' q q'. (alike q q', refl))

pub telex_rule_only : OneAnswer own.telex_rule.Kinds.ps own.telex_rule.Kinds.r own.telex_rule.Reads.Asked own.telex_rule.Reads.Learnt
telex_rule_only κs a = (tt, λ z z' w w' q q'. (alike q q', refl))

pub input_method_try_from_u32_only :
    OneAnswer own.InputMethodTryFromU32.try_from.Kinds.ps own.InputMethodTryFromU32.try_from.Kinds.r
    own.InputMethodTryFromU32.try_from.Reads.Asked own.InputMethodTryFromU32.try_from.Reads.Learnt
input_method_try_from_u32_only κs a = (tt, λ z z' w w' q q'. (alike q q', refl))
