use borrow.Author.Rules.{rules}
use Rattle.p6_composition.proofs.OneKey.{applied_is}
use Rattle.p6_composition.proofs.apply.Goals as goal

ruleset answers = (rules, applied_is)

pub returns : goal.returns
returns c = search answers
