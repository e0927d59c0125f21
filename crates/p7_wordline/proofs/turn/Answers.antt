use borrow.Author.Rules.{rules}
use Rattle.p7_wordline.proofs.Turns.{held_given, fed_given, printed_given}
use Rattle.p7_wordline.proofs.turn.Goals as goal

ruleset answers = (rules, held_given, fed_given, printed_given)

pub returns-clause-held : goal.returns-clause-held
returns-clause-held c = (search answers, search answers, search answers)

pub returns-clause-printed : goal.returns-clause-printed
returns-clause-printed c = search answers
