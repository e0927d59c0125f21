use Rattle.std.proofs.Common.{rules}
use Rattle.std.proofs.lemmas.Result.{err_from_is_err_and}
use Rattle.p6_note_bytes.proofs.Calls.{size_told, unread_told, checked_answer}
use Rattle.p6_note_bytes.proofs.answer.Goals as goal

pub returns-in_default : goal.returns-in_default
returns-in_default c = search (rules, size_told)

pub returns-in_err-read : goal.returns-in_err-read
returns-in_err-read c =
    let p = err_from_is_err_and c.from_residual.result c.from_residual.ensures.1 in
    rw (p.1, p.2, ← c.in-Some.ensures.cases.same) (unread_told _ _ c.read.ensures _ c.in_err-read.was)

pub returns : goal.returns
returns c = rw (← c.in-Some.ensures.cases.same) (checked_answer _ _ c.read.ensures _ c.in_ok-read.was _ c.answer.ensures)
