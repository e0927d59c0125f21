use borrow.Author.Rules.{rules}
use Rattle.p6_draft.proofs.Tests.{draft_frame_lem, draft_byte, draft_few, draft_room_lem, cell_below, cell_room}
use Rattle.p6_draft_calls.proofs.Filling.{filling}
use Rattle.p6_draft_calls.proofs.on_bytes.fill_on.Goals as goal

ruleset answers = (rules, draft_frame_lem, draft_byte, draft_few, draft_room_lem, cell_below, cell_room, filling)

pub cell_count-n-requires : goal.cell_count-n-requires
cell_count-n-requires c = search answers

pub bounds-draft-3 : goal.bounds-draft-3
bounds-draft-3 c = search answers

pub bounds-draft-7 : goal.bounds-draft-7
bounds-draft-7 c = search answers

pub overflow_cast-state : goal.overflow_cast-state
overflow_cast-state c = search answers

pub overflow_mul-state : goal.overflow_mul-state
overflow_mul-state c = search answers

pub overflow_add-state : goal.overflow_add-state
overflow_add-state c = search answers

pub overflow_add-state-2 : goal.overflow_add-state-2
overflow_add-state-2 c = search answers

pub bounds-draft-n : goal.bounds-draft-n
bounds-draft-n c = search answers

pub loop-i-init : goal.loop-i-init
loop-i-init c = search answers

pub cell-requires : goal.cell-requires
cell-requires c = search answers

pub loop-i-preserved : goal.loop-i-preserved
loop-i-preserved c = search answers

pub returns : goal.returns
returns c = search answers
