use borrow.Author.Rules.{rules}
use Rattle.p2_input_method.specs.Rules.{is_tone_key}
use Rattle.p6_host.proofs.input_method.pasdrongel_is_tone_key.Goals as goal

pub returns : goal.returns
returns c = (c.ask_key.ensures.code, c.ask_key.ensures.asked (λ m. is_tone_key m c.args.key) (λ m r p. search rules))
