-- What undo leaves, in the form of the other calls: done, with a number, or refused. The number is 0 for append and 1 for
-- consume.
use Rattle.std.specs.Prelude.{ℕ, Err, Ok, Result}
use Rattle.p0_refusals.specs.declared.Refusal.{Refusal}
use Rattle.p3_cells.specs.declared.After.{After}
use Rattle.p3_undo.specs.declared.TelexUndo.{TelexUndo}
use Rattle.p3_undo.specs.declared.TelexUndo.TheVariants.{AppendTrigger, ConsumeTrigger}
use Rattle.p3_undo.specs.declared.Undone.{Undone}

abbrev pub undo_number : TelexUndo → ℕ
undo_number AppendTrigger = 0
undo_number ConsumeTrigger = 1

abbrev pub undo_answer : Result TelexUndo Refusal → Result ℕ Refusal
undo_answer (Ok u) = Ok (undo_number u)
undo_answer (Err r) = Err r

unfoldable pub undo_leaving : Undone → After
undo_leaving k = record { comp = k.comp; answer = undo_answer k.answer }
