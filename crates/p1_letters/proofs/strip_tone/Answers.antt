use borrow.Author.Rules.{rules}
use Rattle.p1_letters.proofs.ToneBlock.{off_low, off_found, off_apart}
use Rattle.p1_letters.proofs.strip_tone.Goals as goal

ruleset answers = (rules, off_low, off_found, off_apart)

pub returns-then-c-lt224 : goal.returns-then-c-lt224
returns-then-c-lt224 c = search answers

pub returns-then-found-c : goal.returns-then-found-c
returns-then-found-c c = search answers

pub returns : goal.returns
returns c = search answers
