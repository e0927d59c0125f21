use borrow.Author.Rules.{rules}
use Rattle.p6_composition.proofs.OneUndo.{stores, tone_told, tone_left, mark_told, mark_left}
use Rattle.p6_composition.proofs.undo_found.Goals as goal

ruleset answers = (rules, stores)

pub returns-in_default : goal.returns-in_default
returns-in_default c = search answers

pub cell-requires : goal.cell-requires
cell-requires c = search answers

pub store-requires : goal.store-requires
store-requires c = search answers

pub cell-requires-in-Mark : goal.cell-requires-in-Mark
cell-requires-in-Mark c = search answers

pub store-requires-in-Mark : goal.store-requires-in-Mark
store-requires-in-Mark c = search answers

pub returns-in-Tone : goal.returns-in-Tone
returns-in-Tone c = (
  tone_told _ c.requires.0 _ _ _ c.undo_on.ensures _ c.in-Some.is _ c.in-Tone.is,
  tone_left _ c.requires.0 _ _ _ c.undo_on.ensures _ c.in-Some.is _ c.in-Tone.is _ _ c.cell.ensures c.tone_lost.ensures _ (search rules) c.store.ensures,
)

pub returns-in-Mark : goal.returns-in-Mark
returns-in-Mark c = (
  mark_told _ c.requires.0 _ _ _ c.undo_on.ensures _ c.in-Some.is _ _ _ c.in-Mark.is c.behaviour.ensures _ c.undo_number.ensures,
  mark_left _ c.requires.0 _ _ _ c.undo_on.ensures _ c.in-Some.is _ _ _ c.in-Mark.is c.behaviour.ensures _ _ c.cell-in-Mark.ensures c.restored.ensures _ (search rules) c.store-in-Mark.ensures,
)
