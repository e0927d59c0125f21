use mathlib.Core.Path.{sym, ◌∙◌}
use borrow.Author.Rules.{rules}
use Rattle.std.proofs.lemmas.Result.{err_from_is_err_and}
use Rattle.p7_line.proofs.Keys.{method_refused, method_read}
use Rattle.p7_line.proofs.method_line.Goals as goal

pub returns-in_err-n : goal.returns-in_err-n
returns-in_err-n c =
    let p = err_from_is_err_and c.from_residual.result c.from_residual.ensures.1 in
    rw (p.1, p.2) (sym (method_refused _ _ _ c.read.ensures.value (search rules) _ c.in_err-n.was))

pub returns : goal.returns
returns c =
    c.named.ensures
    ∙ sym (method_read _ _ _ c.read.ensures.value (search rules) _ _ _ c.in_ok-n.was c.read.ensures.out_after c.first.ensures)
