use Rattle.std.proofs.Common.{rules}
use Rattle.std.proofs.lemmas.Result.{err_from_is_err_and}
use Rattle.p6_note_bytes.proofs.Calls.{size_answer, size_bytes, unread_answer, unread_bytes, part_answer, part_bytes}
use Rattle.p6_note_bytes.proofs.part.Goals as goal

pub returns-in_default-clause-value : goal.returns-in_default-clause-value
returns-in_default-clause-value c = search (rules, size_answer)

pub returns-in_default-clause-state_after : goal.returns-in_default-clause-state_after
returns-in_default-clause-state_after c = search (rules, size_bytes)

pub returns-in_err-s-clause-value : goal.returns-in_err-s-clause-value
returns-in_err-s-clause-value c =
    let p = err_from_is_err_and c.from_residual.result c.from_residual.ensures.1 in
    rw (p.1, p.2, ← c.in-Some.ensures.cases.same) (unread_answer _ _ c.read.ensures _ _ c.in_err-s.was)

pub returns-in_err-s-clause-state_after : goal.returns-in_err-s-clause-state_after
returns-in_err-s-clause-state_after c = rw (← c.in-Some.ensures.cases.same) (unread_bytes _ _ c.read.ensures _ _ c.in_err-s.was)

pub returns-clause-value : goal.returns-clause-value
returns-clause-value c = rw (← c.in-Some.ensures.cases.same) (part_answer _ _ c.read.ensures _ c.in_ok-s.was _ _ c.part-after.ensures)

pub returns-clause-state_after : goal.returns-clause-state_after
returns-clause-state_after c =
    rw (← c.in-Some.ensures.cases.same)
    (part_bytes c.in-Some.state.now _ c.read.ensures _ c.in_ok-s.was _ _ _ c.part-after.ensures c.put_line.ensures (search rules))
