-- Document 02, request 2026-04, "a state that breaks the soundness .. which every state handed out meets", in propositions: a state is
-- sound where some line leads to it. `line_sound` is the test of it, field by field.
use Rattle.std.specs.Prelude.{ℕ, ◌≡◌, List}
use Rattle.p4_note_parts.specs.State.{begun}
use Rattle.p4_note_parts.specs.Parts.{part_taken}
use Rattle.p4_note_parts.specs.declared.Line.{Line}

-- the state after the letters of some line
abbrev pub Reached : Line → Type 0
Reached s = (line : List ℕ) × (s ≡ part_taken begun line)
