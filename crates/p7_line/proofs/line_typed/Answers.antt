use borrow.Author.Rules.{rules}
use Rattle.std.proofs.lemmas.Result.{err_from_is_err_and}
use Rattle.p7_line.proofs.Keys.{keys_refused, keys_letters, keys_read}
use Rattle.p7_line.proofs.line_typed.Goals as goal

pub returns-in_err-n : goal.returns-in_err-n
returns-in_err-n c =
    let p = err_from_is_err_and c.from_residual.result c.from_residual.ensures.1 in
    rw (p.1, p.2) (keys_refused _ _ _ c.read.ensures.value (search rules) _ c.in_err-n.was _)

pub keys_typed-requires : goal.keys_typed-requires
keys_typed-requires c =
    keys_letters _ _ _ c.read.ensures.value (search rules) _ _ _ c.in_ok-n.was c.read.ensures.out_after c.first.ensures

pub returns : goal.returns
returns c =
    rw (keys_read _ _ _ c.read.ensures.value (search rules) _ _ _ c.in_ok-n.was c.read.ensures.out_after c.first.ensures c.args.m)
    c.keys_typed.ensures
