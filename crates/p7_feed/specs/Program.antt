-- Document 01, "Examples to hold it to": what the program `wordline` prints for the whole of its input.
use Rattle.std.specs.Prelude.{ℕ, List, [], ◌∷◌, ◌++◌, eqb, Result, Ok, Err}
use Rattle.p0_choice.specs.Choice.{pick}
use Rattle.p0_choice.specs.Text.{line_end}
use Rattle.p2_input_method.specs.declared.InputMethod.{InputMethod}
use Rattle.p7_line.specs.Line.{refused_line, line_out}
use Rattle.p7_line.specs.Method.{begun_by}
use Rattle.p0_refusals.specs.declared.Refusal.{Refusal}

-- "a line ends at U+000A"; "An unfinished last line counts if it has a byte." `line` is what was read of the line at hand.
unfoldable pub lines_from : List ℕ → List ℕ → List (List ℕ)
lines_from [] [] = []
lines_from (a ∷ line) [] = (a ∷ line) ∷ []
lines_from line (b ∷ input) = pick (eqb b line_end) (line ∷ lines_from [] input) (lines_from (line ++ (b ∷ [])) input)

-- "then one line of keys per fresh composition"
unfoldable pub all_lines : InputMethod → List (List ℕ) → List ℕ
all_lines m [] = []
all_lines m (line ∷ lines) = line_out m line ++ all_lines m lines

-- "A refused method line prints its refusal and ends the run."
unfoldable pub after_method : Result InputMethod Refusal → List (List ℕ) → List ℕ
after_method (Ok m) lines = all_lines m lines
after_method (Err r) lines = refused_line r

-- "reads standard input: a method line, then .."; "A program given no byte at all answers 9", as an empty method line does
unfoldable pub program : List (List ℕ) → List ℕ
program [] = after_method (begun_by []) []
program (line ∷ lines) = after_method (begun_by line) lines

unfoldable pub wordline : List ℕ → List ℕ
wordline input = program (lines_from [] input)
