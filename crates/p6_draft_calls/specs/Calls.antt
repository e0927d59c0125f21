-- Document 02, request 2026-02, drafts: what the two calls answer and leave. "Refusals: 11 after 10 and before 3".
use Rattle.p0_refusals.specs.declared.Refusal.{Refusal}
use Rattle.std.specs.Prelude.{ℕ, List, eqb, length, Err, Ok, Result}
use Rattle.p0_choice.specs.Choice.{pick}
use Rattle.p0_refusals.specs.Answers.{Outcome, writes, refuses, unless}
use Rattle.p0_refusals.specs.declared.Refusal.TheVariants.{Unsound, NoDraft}
use Rattle.p3_cells.specs.Cells.{is_sound}
use Rattle.p3_cells.specs.declared.After.{After}
use Rattle.p3_cells.specs.declared.Composition.{Composition}
use Rattle.p6_bytes.specs.Bytes.{size, bytes_of, composition_of, bytes_sound}
use Rattle.p6_draft.specs.Draft.{draft_of, Reading, gives, none}

-- ---- writing: "10: composition not sound", else the draft; 3 as the room says
unfoldable pub draft_outcome : Composition → Outcome
draft_outcome c = pick (is_sound c) (writes (draft_of c)) (refuses Unsound)

-- of a composition that is given as bytes: those that spell none are not sound either
unfoldable pub bytes_outcome : List ℕ → Outcome
bytes_outcome b = pick (bytes_sound b) (draft_outcome (composition_of b)) (refuses Unsound)

-- ---- reading: 11 where the bytes are no draft
abbrev pub read_answer : Reading → Result ℕ Refusal
read_answer (gives d) = Ok 0
read_answer none = Err NoDraft

-- "A refusal returns its number; the composition .. [stays] as [it was]": c before
abbrev pub read_leaves : Reading → Composition → Composition
read_leaves (gives d) c = d
read_leaves none c = c

unfoldable pub read_to : Reading → Composition → After
read_to u c = record { comp = read_leaves u c; answer = read_answer u }

-- over bytes that may be any: 10 where they are not as many as a composition has, then 11
unfoldable pub read_on : Reading → List ℕ → Result ℕ Refusal
read_on u b = pick (eqb (length b) size) (read_to u (composition_of b)).answer (Err Unsound)

unfoldable pub read_bytes : Reading → List ℕ → List ℕ
read_bytes u b = unless (read_on u b) b (bytes_of (read_to u (composition_of b)).comp)
