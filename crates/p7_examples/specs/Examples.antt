-- Document 01, "Examples to hold it to": "(P) marks those proved together, by a single table and claim over the definitions".
-- Request 2026-01: "the cases with capitals in 01 are listed a second time". The claims are in proofs/Hold.
use Rattle.p0_refusals.specs.declared.Refusal.{Refusal}
use Rattle.std.specs.Prelude.{ℕ, Bool, true, false, List, [], ◌∷◌, eqb, length, get_or, take, replicate, Err, Ok, Result}
use Prim.Native.String.{String}
use Rattle.p0_choice.specs.Choice.{pick, same}
use Rattle.p0_choice.specs.Text.{word}
use Rattle.p0_refusals.specs.Answers.{content, unless, output}
use Rattle.p2_input_method.specs.declared.InputMethod.{InputMethod}
use Rattle.p2_input_method.specs.declared.InputMethod.TheVariants.{Telex, Vni}
use Rattle.p3_calls.specs.Output.{text_outcome}
use Rattle.p3_calls.specs.Settings.{created, capitals_set}
use Rattle.p3_cells.specs.Cells.{limit, blank}
use Rattle.p3_cells.specs.declared.Composition.{Composition}
use Rattle.p3_key.specs.Process.{key_outcome, keyed}
use Rattle.p3_undo.specs.Call.{undo_refusal, undo_telex}
use Rattle.p4_rows.specs.Lookup.{same_word}
use Rattle.p4_spelling.specs.Verdict.{verdict}

-- an example: a method and keys on a fresh composition give a text; they leave a tone on the cell at a place; undo after
-- them, with a trigger and a raw string, is refused by a number; a word is judged. With capitals on: the keys give a text; and a
-- text that is typed with capitals off is shown so once they are on
pub data Example : Type 0 where
  gives : InputMethod → String → String → Example
  keeps : InputMethod → String → String → Example
  turns : InputMethod → String → String → Example
  tones : InputMethod → String → ℕ → String → Example
  undo_refused : InputMethod → String → String → String → ℕ → Example
  judged : String → Bool → Example

-- what keys on a fresh composition leave: the composition, the last call's answer, and the text that it wrote
pub record Pressed : Type 0 where
  pub comp : Composition
  pub answer : Result ℕ Refusal
  pub text : List ℕ

-- a key, as the contract of the key call has it, with room for every text and zeros there; after a refusal no key is pressed
unfoldable pub press : Pressed → ℕ → Pressed
press p key =
    unless p.answer p
    (record {
      comp = (keyed p.comp key limit).comp;
      answer = (keyed p.comp key limit).answer;
      text = take (length (content (key_outcome p.comp key))) (output (key_outcome p.comp key) (replicate {A = ℕ} limit 0));
    })

unfoldable pub press_all : Pressed → List ℕ → Pressed
press_all p [] = p
press_all p (key ∷ keys) = press_all (press p key) keys

abbrev pub is_done : Result ℕ Refusal → Bool
is_done (Ok n) = true
is_done (Err r) = false

abbrev pub pressed_on : Composition → String → Pressed
pressed_on c keys = press_all (record { comp = c; answer = Ok 0; text = [] }) (word keys)

abbrev pub pressed : InputMethod → String → Pressed
pressed m keys = pressed_on (created m) keys

-- with capitals on
abbrev pub turned_on : Composition → Composition
turned_on c = (capitals_set c true).comp

-- the last key is done, and wrote this text
unfoldable pub wrote_text : Pressed → String → Bool
wrote_text p text = pick (is_done p.answer) (same_word p.text (word text)) false

unfoldable pub holds : Example → Bool
holds (gives m keys text) = wrote_text (pressed m keys) text
holds (keeps m keys text) = wrote_text (pressed_on (turned_on (created m)) keys) text
holds (turns m keys text) = same_word (content (text_outcome (turned_on (pressed m keys).comp))) (word text)
holds (tones m keys i tone) = eqb (get_or (pressed m keys).comp.cells i blank).tone (get_or (word tone) 0 0)
holds (undo_refused m keys trigger raw n) =
    eqb (undo_refusal (undo_telex (pressed m keys).comp (get_or (word trigger) 0 0) (word raw)).answer) n
holds (judged w given) = same (verdict (word w)) given

unfoldable pub examples : List Example
examples =
    gives Telex "dad" "đa" ∷
    gives Telex "osaf" "óà" ∷  -- no tone is cleared
    gives Telex "uosw" "ươ" ∷  -- tone lost
    gives Telex "AAN" "âN" ∷
    gives Telex "quar" "quả" ∷
    gives Telex "quow" "qươ" ∷
    gives Telex "xuaw" "xưa" ∷
    gives Telex "a.s" "a." ∷
    tones Telex "a.s" 1 "s" ∷  -- the tone on the point
    gives Vni "pha6n 2" "phân " ∷
    undo_refused Telex "uaw" "w" "uaw" 5 ∷
    judged "qu" false ∷
    judged "gi" true ∷
    judged "bic" true ∷
    []

-- 2026-01: "AAN gives ÂN", and the other cases with capitals of 01 and of docs/DIFFERENCES; with no capital nothing changes
unfoldable pub capital_examples : List Example
capital_examples =
    keeps Telex "AAN" "ÂN" ∷
    turns Telex "AAN" "ÂN" ∷
    keeps Telex "As" "Á" ∷
    keeps Telex "AA" "Â" ∷
    keeps Telex "DD" "Đ" ∷
    keeps Telex "Dd" "Đ" ∷
    keeps Telex "dD" "đ" ∷  -- the first letter's flag
    keeps Telex "Uas" "Úa" ∷
    keeps Telex "UOW" "ƯƠ" ∷
    keeps Telex "uOw" "ưƠ" ∷
    keeps Telex "Uow" "Ươ" ∷
    turns Telex "UOW" "Ươ" ∷  -- typed with capitals off, ơ has no flag
    keeps Telex "UOSW" "ƯƠ" ∷  -- tone lost
    keeps Telex "UOWS" "ƯỚ" ∷
    keeps Telex "QUAR" "QUẢ" ∷
    keeps Telex "XUAW" "XƯA" ∷
    keeps Telex "Âs" "Âs" ∷  -- a marked capital is no composer vowel
    keeps Telex "Ăs" "Ăs" ∷
    keeps Telex "ầs" "ầs" ∷
    keeps Vni "PHA6N" "PHÂN" ∷
    keeps Vni "D9A61" "ĐẤ" ∷
    keeps Telex "dad" "đa" ∷
    keeps Telex "osaf" "óà" ∷
    keeps Telex "quow" "qươ" ∷
    keeps Vni "pha6n 2" "phân " ∷
    []
