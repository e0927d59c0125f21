use borrow.Author.Rules.{rules}
use Rattle.p6_host.proofs.Asked.{asked}
use Rattle.p6_host.proofs.composition.pasdrongel_count.Goals as goal

pub returns : goal.returns
returns c = (c.ask.ensures.code, asked _ _ _ _ c.ask.ensures.unsound (λ e. let r = c.ask.ensures.sound e in search rules))
