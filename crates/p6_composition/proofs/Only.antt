-- No second answer fits a public function's contract, and no second content of a place that is lent to it.
use mathlib.Core.Path.{refl}
use Rattle.p0_choice.proofs.Only.{OneAnswer, alike}
use Rattle.p6_composition.proofs as own

pub process_key_only : OneAnswer own.process_key.Kinds.ps own.process_key.Kinds.r own.process_key.Reads.Asked own.process_key.Reads.Learnt
process_key_only κs a = (tt, λ z z' w w' q q'. (alike q.0 q'.0, λ i. (alike q.1 q'.1 i, (tt, (alike q.2 q'.2 i, tt)))))

pub reset_only : OneAnswer own.reset.Kinds.ps own.reset.Kinds.r own.reset.Reads.Asked own.reset.Reads.Learnt
reset_only κs a = (tt, λ z z' w w' q q'. (alike q.0 q'.0, λ i. (alike q.1 q'.1 i, tt)))

pub append_literal_only :
    OneAnswer own.append_literal.Kinds.ps own.append_literal.Kinds.r own.append_literal.Reads.Asked own.append_literal.Reads.Learnt
append_literal_only κs a = (tt, λ z z' w w' q q'. (alike q.0 q'.0, λ i. (alike q.1 q'.1 i, (tt, tt))))

pub pop_last_only : OneAnswer own.pop_last.Kinds.ps own.pop_last.Kinds.r own.pop_last.Reads.Asked own.pop_last.Reads.Learnt
pop_last_only κs a = (tt, λ z z' w w' q q'. (alike q.0 q'.0, λ i. (alike q.1 q'.1 i, (alike q.2 q'.2 i, tt))))

pub undo_telex_transform_only :
    OneAnswer own.undo_telex_transform.Kinds.ps own.undo_telex_transform.Kinds.r
    own.undo_telex_transform.Reads.Asked own.undo_telex_transform.Reads.Learnt
undo_telex_transform_only κs a = (tt, λ z z' w w' q q'. (alike q.0 q'.0, λ i. (alike q.1 q'.1 i, (tt, (tt, tt)))))

pub get_output_only : OneAnswer own.get_output.Kinds.ps own.get_output.Kinds.r own.get_output.Reads.Asked own.get_output.Reads.Learnt
get_output_only κs a = (tt, λ z z' w w' q q'. (alike q.0 q'.0, λ i. (tt, (alike q.1 q'.1 i, tt))))

pub method_of_only : OneAnswer own.method_of.Kinds.ps own.method_of.Kinds.r own.method_of.Reads.Asked own.method_of.Reads.Learnt
method_of_only κs a = (tt, λ z z' w w' q q'. (alike q q', refl))

pub set_method_only : OneAnswer own.set_method.Kinds.ps own.set_method.Kinds.r own.set_method.Reads.Asked own.set_method.Reads.Learnt
set_method_only κs a = (tt, λ z z' w w' q q'. (alike q.0 q'.0, λ i. (alike q.1 q'.1 i, (tt, tt))))

pub set_mode_only : OneAnswer own.set_mode.Kinds.ps own.set_mode.Kinds.r own.set_mode.Reads.Asked own.set_mode.Reads.Learnt
set_mode_only κs a = (tt, λ z z' w w' q q'. (alike q.0 q'.0, λ i. (alike q.1 q'.1 i, (tt, tt))))

pub set_capitals_only :
    OneAnswer own.set_capitals.Kinds.ps own.set_capitals.Kinds.r own.set_capitals.Reads.Asked own.set_capitals.Reads.Learnt
set_capitals_only κs a = (tt, λ z z' w w' q q'. (alike q.0 q'.0, λ i. (alike q.1 q'.1 i, (tt, tt))))

pub new_only : OneAnswer own.new.Kinds.ps own.new.Kinds.r own.new.Reads.Asked own.new.Reads.Learnt
new_only κs a = (tt, λ z z' w w' q q'. (alike q.0 q'.0, λ i. (alike q.1 q'.1 i, (tt, tt))))
