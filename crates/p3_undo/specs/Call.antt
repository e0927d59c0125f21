-- Document 01: the undo call, its answer and its refusals in their order: 10, 6, 1 (trigger before raw string), 5.
use Rattle.std.specs.Prelude.{ℕ, List, eqb, ltb, length, None, Option, Some, Err, Ok, Result}
use Prim.Native.Char.{code}
use Rattle.p0_choice.specs.Choice.{pick}
use Rattle.p0_refusals.specs.Limits.{letter_limit}
use Rattle.p0_refusals.specs.Refusals.{number_of}
use Rattle.p0_refusals.specs.declared.Refusal.{Refusal}
use Rattle.p0_refusals.specs.declared.Refusal.TheVariants.{Foreign, NoUndo, Long, Unsound}
use Rattle.p1_letters.specs.Alphabet.{in_alphabet, all_letters, ascii_lower}
use Rattle.p2_input_method.specs.declared.MarkRule.{MarkRule}
use Rattle.p3_cells.specs.Cells.{is_sound, used, holding}
use Rattle.p3_cells.specs.declared.Composition.{Composition}
use Rattle.p3_undo.specs.Raw.{raw_lowered}
use Rattle.p3_undo.specs.Undo.{to_undo, undone}
use Rattle.p3_undo.specs.declared.TelexUndo.{TelexUndo}
use Rattle.p3_undo.specs.declared.TelexUndo.TheVariants.{AppendTrigger, ConsumeTrigger}
use Rattle.p3_undo.specs.declared.Undoing.{Undoing}
use Rattle.p3_undo.specs.declared.Undoing.TheVariants.{Tone, Mark}
use Rattle.p3_undo.specs.declared.Undone.{Undone}

-- the refusal's number, 0 for none
abbrev pub undo_refusal : Result TelexUndo Refusal → ℕ
undo_refusal (Ok u) = 0
undo_refusal (Err r) = number_of r

-- "Telex undo: dd consumes its trigger, the others append it."
unfoldable pub behaviour : MarkRule → TelexUndo
behaviour r = pick (eqb r.first (code "d")) (pick (eqb r.key (code "d")) ConsumeTrigger AppendTrigger) AppendTrigger

-- "A refusal returns its number; the composition .. [stays as it was]."
abbrev pub not_undone : Composition → Refusal → Undone
not_undone c r = record { comp = c; answer = Err r }

-- "5: undo, and the Rust answers None"; a tone: "answer: append"; a mark: "the rule's behaviour is the answer"
unfoldable pub undo_found : Composition → Option Undoing → Undone
undo_found c None = not_undone c NoUndo
undo_found c (Some (Tone i)) = record { comp = holding c (undone (used c) (Tone i)); answer = Ok AppendTrigger }
undo_found c (Some (Mark i r)) = record { comp = holding c (undone (used c) (Mark i r)); answer = Ok (behaviour r) }

unfoldable pub undo_telex : Composition → ℕ → List ℕ → Undone
undo_telex c trigger raw =
    pick (is_sound c)
    (pick (ltb letter_limit (length raw)) (not_undone c Long)
    (pick (in_alphabet trigger)
    (pick (all_letters raw) (undo_found c (to_undo c.settings.method (used c) (raw_lowered raw) (ascii_lower trigger)))
    (not_undone c Foreign))
    (not_undone c Foreign)))
    (not_undone c Unsound)
