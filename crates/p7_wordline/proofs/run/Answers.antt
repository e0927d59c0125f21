use borrow.Author.Rules.{rules}
use Rattle.p7_wordline.proofs.Turns.{ends, goes, came_more}
use Rattle.p7_wordline.proofs.run.Goals as goal

ruleset answers = (rules, ends, goes, came_more)

pub returns-then-not-goes_on-clause-came : goal.returns-then-not-goes_on-clause-came
returns-then-not-goes_on-clause-came c = search answers

pub loop-turn-preserved : goal.loop-turn-preserved
loop-turn-preserved c = record {
  held_most = search answers;
  not_over = search answers;
  came = search answers;
}
