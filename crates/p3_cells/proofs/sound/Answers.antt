use Rattle.std.proofs.Common.{rules, arith}
use Rattle.p3_cells.proofs.SoundTest.{sound_long, sound_start, used_bad, used_on, past_start, past_on, past_end}
use Rattle.p3_cells.proofs.Text.{length_under}
use Rattle.p3_cells.proofs.sound.Goals as goal

ruleset answers = (rules, sound_long, sound_start, used_bad, used_on, past_start, past_on, past_end, length_under)

pub returns-then-c-gt-LIMIT : goal.returns-then-c-gt-LIMIT
returns-then-c-gt-LIMIT c = search answers

pub loop-cell-init : goal.loop-cell-init
loop-cell-init c = search answers

pub returns-then-not-is_cell : goal.returns-then-not-is_cell
returns-then-not-is_cell c = search answers

pub loop-cell-preserved : goal.loop-cell-preserved
loop-cell-preserved c = search answers

pub loop-cell-2-init : goal.loop-cell-2-init
loop-cell-2-init c = (omega arith, search answers)

pub loop-cell-2-preserved : goal.loop-cell-2-preserved
loop-cell-2-preserved c = (omega (arith, c.packed-sum.ensures.2), search answers)

pub returns : goal.returns
returns c = search answers
