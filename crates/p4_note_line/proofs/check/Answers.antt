use Rattle.std.proofs.Common.{refl}
use Rattle.std.proofs.lemmas.Result.{err_from_is_err_and}
use Rattle.p4_note_line.proofs.Answers.{answer_refused, answer_counted, line_counts}
use Rattle.p4_note_line.proofs.check.Goals as goal

pub returns-in_err-length : goal.returns-in_err-length
returns-in_err-length c =
    let p = err_from_is_err_and c.from_residual.result c.from_residual.ensures.1 in
    rw (p.1, p.2) (answer_refused _ _ _ c.fault_in.ensures c.in_err-length.was)

pub gap-requires : goal.gap-requires
gap-requires c = line_counts _ _ _ c.fault_in.ensures c.in_ok-length.was _ refl refl

pub returns : goal.returns
returns c = answer_counted _ _ _ c.fault_in.ensures c.in_ok-length.was _ c.gap.ensures
