use borrow.Author.Rules.{rules}
use Rattle.p5_utf8_text.proofs.Measuring.{measure_done}
use Rattle.p5_utf8_text.proofs.writer.measure.Goals as goal

pub returns : goal.returns
returns c = search (rules, measure_done)
