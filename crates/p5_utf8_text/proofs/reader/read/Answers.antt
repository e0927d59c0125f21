use borrow.Author.Rules.{rules}
use Rattle.p5_utf8_text.proofs.Reading.{ways}
use Rattle.p5_utf8_text.proofs.reader.read.Goals as goal

ruleset answers = (rules, ways)

pub returns-then-out-n-clause-value : goal.returns-then-out-n-clause-value
returns-then-out-n-clause-value c = search (answers, c.in_ok-n.was)

pub returns-then-out-n-clause-out_after : goal.returns-then-out-n-clause-out_after
returns-then-out-n-clause-out_after c = search (answers, c.in_ok-n.was)

pub spread-requires : goal.spread-requires
spread-requires c = search (answers, c.in_ok-n.was)

pub returns-clause-value : goal.returns-clause-value
returns-clause-value c = search (answers, c.in_ok-n.was)

pub returns-clause-out_after : goal.returns-clause-out_after
returns-clause-out_after c = search (answers, c.in_ok-n.was)
