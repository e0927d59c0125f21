use Rattle.std.proofs.Common.{rules, refl}
use Rattle.p3_cells.specs.Text.{text_of}
use Rattle.p3_cells.proofs.Text.{text_more, text_done, length_under}
use Rattle.p3_cells.proofs.flatten.Goals as goal

ruleset answers = (rules, text_more, text_done, length_under)

pub loop-i-init : goal.loop-i-init
unfolding text_of
loop-i-init c = refl

pub loop-i-preserved : goal.loop-i-preserved
loop-i-preserved c = text_more _ _ _ _ _ _ c.loop-i.invariant c.shown.ensures c.loop-i-test.true (search answers)

pub returns : goal.returns
returns c = (refl, search answers)
