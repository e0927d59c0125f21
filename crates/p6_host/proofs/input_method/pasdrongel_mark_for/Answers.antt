use borrow.Author.Rules.{rules}
use mathlib.Core.Path.{ap, ◌∙◌}
use Rattle.std.specs.Option.{unwrap_or}
use Rattle.p6_host.proofs.MethodCalls.{no_mark_code, no_mark_out, mark_code_lem, mark_out_lem, mark_number}
use Rattle.p6_host.proofs.input_method.pasdrongel_mark_for.Goals as goal

pub returns-in-Err : goal.returns-in-Err
returns-in-Err c = search (rules, no_mark_code, no_mark_out)

pub returns-then-in_alphabet : goal.returns-then-in_alphabet
returns-then-in_alphabet c = (
  mark_code_lem _ _ c.try_from.ensures _ c.in-Ok.is _ _ c.in_alphabet.ensures _ _ c.if-in_alphabet.true c.give.ensures.0,
  mark_out_lem _ _ c.try_from.ensures _ c.in-Ok.is _ _ c.in_alphabet.ensures _ _ _ _ c.if-in_alphabet.true
      (c.from-then-in_alphabet.ensures ∙ c.unwrap_or.ensures ∙ ap (λ o. unwrap_or o 0) c.mark_for-found.ensures ∙ mark_number _ _ _) c.give.ensures.1,
)
