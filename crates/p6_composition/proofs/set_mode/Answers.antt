use borrow.Author.Rules.{rules}
use Rattle.p6_composition.proofs.Calls.{unsound_answer, unsound_bytes, no_mode, no_mode_bytes}
use Rattle.p6_composition.proofs.InPlace.{modes}
use Rattle.p6_composition.proofs.set_mode.Goals as goal

ruleset answers = (rules, unsound_answer, unsound_bytes, no_mode, no_mode_bytes, modes)

pub returns-in_default : goal.returns-in_default
returns-in_default c = search answers

pub returns-then-mode-gt1 : goal.returns-then-mode-gt1
returns-then-mode-gt1 c = rw (← c.in-Some.ensures.cases.0) (search answers)

pub returns-then-mode-eq0 : goal.returns-then-mode-eq0
returns-then-mode-eq0 c = rw (← c.in-Some.ensures.cases.0) (search answers)

pub returns : goal.returns
returns c = rw (← c.in-Some.ensures.cases.0) (search answers)
