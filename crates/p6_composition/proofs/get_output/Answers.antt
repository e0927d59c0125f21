use borrow.Author.Rules.{rules}
use Rattle.p6_composition.proofs.Calls.{unsound_text, unsound_out}
use Rattle.p6_composition.proofs.InPlace.{few, text_short_told, text_short_stays, text_told, text_written}
use Rattle.p6_composition.proofs.get_output.Goals as goal

ruleset answers = (rules, unsound_text, unsound_out, few, text_short_told, text_short_stays, text_told, text_written)

pub returns-in_default : goal.returns-in_default
returns-in_default c = search answers

pub returns-then-out-n : goal.returns-then-out-n
returns-then-out-n c = rw (← c.in-Some.ensures.0) (search answers)

pub text-requires : goal.text-requires
text-requires c = search answers

pub returns : goal.returns
returns c = rw (← c.in-Some.ensures.0) (search answers)
