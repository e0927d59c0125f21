-- The calls on the state of a note line given as bytes. Document 02, request 2026-04: "10 first, for a state that breaks the soundness
-- docs/ gives it". Otherwise each is the call by value on the state that they spell.
use Rattle.p0_refusals.specs.declared.Refusal.{Refusal}
use Rattle.std.specs.Prelude.{ℕ, List, eqb, length, Err, Ok, Result}
use Rattle.p0_choice.specs.Choice.{pick}
use Rattle.p0_refusals.specs.declared.Refusal.TheVariants.{Unsound}
use Rattle.p4_note_line.specs.declared.Report.{Report}
use Rattle.p4_note_parts.specs.Parts.{part_after, state_answer}
use Rattle.p4_note_parts.specs.State.{begun}
use Rattle.p6_note_bytes.specs.Bytes.{line_size, line_bytes, line_of, line_bytes_sound}

-- ---- "until a new line is begun", in bytes that may be any
unfoldable pub line_begin_on : List ℕ → Result ℕ Refusal
line_begin_on b = pick (eqb (length b) line_size) (Ok 0) (Err Unsound)

-- another length is left as it was
unfoldable pub line_begin_bytes : List ℕ → List ℕ
line_begin_bytes b = pick (eqb (length b) line_size) (line_bytes begun) b

-- ---- the next part of the line
unfoldable pub line_part_on : List ℕ → List ℕ → Result ℕ Refusal
line_part_on b letters = pick (line_bytes_sound b) (part_after (line_of b) letters).answer (Err Unsound)

-- "The line's state .. records that refusal", 1 or 6, "and refusal 10 leaves the state too as it was"
unfoldable pub line_part_bytes : List ℕ → List ℕ → List ℕ
line_part_bytes b letters = pick (line_bytes_sound b) (line_bytes (part_after (line_of b) letters).line) b

-- ---- what is told of the letters that have come, which changes nothing
unfoldable pub line_answer_on : List ℕ → Result Report Refusal
line_answer_on b = pick (line_bytes_sound b) (state_answer (line_of b)) (Err Unsound)
