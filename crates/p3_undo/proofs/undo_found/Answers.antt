use Prim.Native.Nat.{◌<◌}
use native.Mathlib.Omega.{arith}
use Rattle.p3_cells.specs.Cells.{limit}
use Rattle.p3_undo.proofs.Found.{tone_place_lem, mark_place_lem}
use Rattle.p3_undo.proofs.Call.{undo_nothing, undo_toneless, undo_restored}
use Rattle.p3_undo.proofs.undo_found.Goals as goal

pub offset_bounds-c-i : goal.offset_bounds-c-i
offset_bounds-c-i c = let h : c.in-Tone.i < limit = search tone_place_lem in omega (arith, h)

pub bounds-c-i : goal.bounds-c-i
bounds-c-i c = search tone_place_lem

pub offset_bounds-c-i-in-Tone : goal.offset_bounds-c-i-in-Tone
offset_bounds-c-i-in-Tone c = let h : c.in-Tone.i < limit = search tone_place_lem in omega (arith, h)

pub bounds-c-i-in-Tone : goal.bounds-c-i-in-Tone
bounds-c-i-in-Tone c = search tone_place_lem

pub offset_bounds-c-i-in-Mark : goal.offset_bounds-c-i-in-Mark
offset_bounds-c-i-in-Mark c = let h : c.in-Mark.i < limit = search mark_place_lem in omega (arith, h)

pub bounds-c-i-in-Mark : goal.bounds-c-i-in-Mark
bounds-c-i-in-Mark c = search mark_place_lem

pub offset_bounds-c-i-in-Mark-2 : goal.offset_bounds-c-i-in-Mark-2
offset_bounds-c-i-in-Mark-2 c = let h : c.in-Mark.i < limit = search mark_place_lem in omega (arith, h)

pub bounds-c-i-in-Mark-2 : goal.bounds-c-i-in-Mark-2
bounds-c-i-in-Mark-2 c = search mark_place_lem

pub returns-in_default : goal.returns-in_default
returns-in_default c = search undo_nothing

pub returns-in-Tone : goal.returns-in-Tone
returns-in-Tone c = search undo_toneless

pub returns-in-Mark : goal.returns-in-Mark
returns-in-Mark c = search undo_restored
