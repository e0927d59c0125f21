use borrow.Author.Rules.{rules}
use Rattle.p2_input_method.specs.Rules.{is_horn_key}
use Rattle.p6_host.proofs.input_method.pasdrongel_is_horn_key.Goals as goal

pub returns : goal.returns
returns c = (c.ask_key.ensures.code, c.ask_key.ensures.asked (λ m. is_horn_key m c.args.key) (λ m r p. search rules))
