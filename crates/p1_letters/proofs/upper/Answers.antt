use borrow.Author.Rules.{rules}
use Rattle.p0_choice.proofs.Choices.{calls}
use Rattle.p1_letters.specs.Alphabet.{upper}
use Rattle.p1_letters.proofs.upper.Goals as goal

ruleset answers = (rules, calls)

pub returns-then-x-lt128 : goal.returns-then-x-lt128
unfolding upper
returns-then-x-lt128 c = search answers

pub returns-then-is_small_by_32 : goal.returns-then-is_small_by_32
unfolding upper
returns-then-is_small_by_32 c = search answers

pub returns-then-is_small_next : goal.returns-then-is_small_next
unfolding upper
returns-then-is_small_next c = search answers

pub returns : goal.returns
unfolding upper
returns c = search answers
