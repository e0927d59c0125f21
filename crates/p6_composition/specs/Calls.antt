-- The calls on a composition given as bytes: "Bytes of another length, or that spell no method, mode or cell, are not
-- sound", and "10: composition not sound". Otherwise each is the call by value on the composition that they spell.
use Rattle.p0_refusals.specs.declared.Refusal.{Refusal}
use Rattle.std.specs.Prelude.{ℕ, List, eqb, leb, length, Err, Ok, Result}
use Rattle.p0_choice.specs.Choice.{pick}
use Rattle.p0_refusals.specs.Answers.{Outcome, answer, unless, output}
use Rattle.p0_refusals.specs.declared.Refusal.TheVariants.{Unsound}
use Rattle.p3_cells.specs.Leaving.{refusing}
use Rattle.p3_cells.specs.declared.After.{After}
use Rattle.p3_cells.specs.declared.Composition.{Composition}
use Rattle.p3_key.specs.Process.{keyed}
use Rattle.p3_calls.specs.Literal.{literal}
use Rattle.p3_calls.specs.Output.{text_outcome, removed}
use Rattle.p3_calls.specs.Settings.{created, reset_to, method_set, enabled_set, capitals_set}
use Rattle.p3_undo.specs.Call.{undo_telex}
use Rattle.p6_bytes.specs.Bytes.{size, bytes_of, composition_of, method_of, bytes_sound}
use Rattle.p6_composition.specs.UndoAnswer.{undo_leaving}

-- the answer, where k is what the call by value leaves of the composition that the bytes spell
unfoldable pub answer_on : List ℕ → After → Result ℕ Refusal
answer_on b k = pick (bytes_sound b) k.answer (Err Unsound)

-- "A refusal returns its number; the composition .. [stays as it was]": the bytes after an answer, b before
abbrev pub bytes_after : Result ℕ Refusal → List ℕ → Composition → List ℕ
bytes_after a b d = unless a b (bytes_of d)

unfoldable pub bytes_on : List ℕ → After → List ℕ
bytes_on b k = bytes_after (answer_on b k) b k.comp

-- a lent output, where the call by value has w to write
unfoldable pub out_on : List ℕ → Outcome → List ℕ → List ℕ
out_on b w out = pick (bytes_sound b) (output w out) out

-- ---- what each call leaves
unfoldable pub key_on : List ℕ → ℕ → List ℕ → After
key_on b key out = keyed (composition_of b) key (length out)

unfoldable pub reset_on : List ℕ → After
reset_on b = reset_to (composition_of b)

unfoldable pub literal_on : List ℕ → ℕ → After
literal_on b letter = literal (composition_of b) letter

unfoldable pub removal_on : List ℕ → List ℕ → After
removal_on b out = removed (composition_of b) (length out)

unfoldable pub undo_on : List ℕ → ℕ → List ℕ → After
undo_on b trigger raw = undo_leaving (undo_telex (composition_of b) trigger raw)

-- A number that is no method, no mode, or neither on nor off is refused as bytes that spell none are.
unfoldable pub or_unsound : List ℕ → ℕ → After → After
or_unsound b n k = pick (leb n 1) k (refusing (composition_of b) Unsound)

unfoldable pub method_on : List ℕ → ℕ → After
method_on b method = or_unsound b method (method_set (composition_of b) (method_of method))

-- 0 is Vietnamese
unfoldable pub mode_on : List ℕ → ℕ → After
mode_on b mode = or_unsound b mode (enabled_set (composition_of b) (eqb mode 0))

-- 2026-01: 1 is on
unfoldable pub capitals_on : List ℕ → ℕ → After
capitals_on b on = or_unsound b on (capitals_set (composition_of b) (eqb on 1))

-- ---- the text, which changes nothing
unfoldable pub text_on : List ℕ → ℕ → Result ℕ Refusal
text_on b n = pick (bytes_sound b) (answer (text_outcome (composition_of b)) n) (Err Unsound)

-- ---- a new composition, in bytes that may be any
unfoldable pub new_on : List ℕ → ℕ → Result ℕ Refusal
new_on b method = pick (eqb (length b) size) (pick (leb method 1) (Ok 0) (Err Unsound)) (Err Unsound)

unfoldable pub new_bytes : List ℕ → ℕ → List ℕ
new_bytes b method = bytes_after (new_on b method) b (created (method_of method))
