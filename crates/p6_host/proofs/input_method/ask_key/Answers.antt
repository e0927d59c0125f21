use borrow.Author.Rules.{rules}
use Rattle.p6_host.proofs.MethodCalls.{no_key_code, asked_key_out}
use Rattle.p6_host.proofs.input_method.ask_key.Goals as goal

pub returns-in-Err-clause-code : goal.returns-in-Err-clause-code
returns-in-Err-clause-code g c = search (rules, no_key_code)

pub returns-clause-asked : goal.returns-clause-asked
returns-clause-asked g c =
    λ h f. asked_key_out _ _ c.try_from.ensures _ c.in-Ok.is c.args.key c.from-2.result _ _ c.question.result (search rules)
    c.give.ensures.1 h (f _ _ c.question.ensures)
