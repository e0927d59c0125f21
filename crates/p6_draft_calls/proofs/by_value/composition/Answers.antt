use borrow.Author.Rules.{rules}
use Rattle.p6_draft.proofs.Tests.{draft_frame_lem, draft_few, draft_room_lem, cell_below, cell_room}
use Rattle.p6_draft_calls.proofs.Filling.{filled_start, filled_on, composition_is}
use Rattle.p6_draft_calls.proofs.by_value.composition.Goals as goal

ruleset answers = (rules, draft_frame_lem, draft_few, draft_room_lem, cell_below, cell_room, filled_start, filled_on, composition_is)

pub cell_count-n-requires : goal.cell_count-n-requires
cell_count-n-requires c = search answers

pub settings-z-requires : goal.settings-z-requires
settings-z-requires c = search answers

pub loop-i-init : goal.loop-i-init
loop-i-init c = search answers

pub cell-requires : goal.cell-requires
cell-requires c = search answers

pub loop-i-preserved : goal.loop-i-preserved
loop-i-preserved c = search answers

pub returns : goal.returns
returns c = search answers
