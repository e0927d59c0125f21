-- How the code holds things: no sentence of document 01 stands here, and no promise to a host leads here.
-- The run over bytes as they come: what is held of the line at hand, and what each byte prints.
use Rattle.std.specs.Prelude.{ℕ, ◌+◌, ◌*◌, List, [], ◌∷◌, ◌++◌, eqb, ltb, length, take, set, Result, Ok, Err}
use Rattle.p0_choice.specs.Choice.{pick}
use Rattle.p0_choice.specs.Text.{line_end}
use Rattle.p7_line.specs.Line.{most, refused_line, line_out}
use Rattle.p7_line.specs.Mirror.{line_room}
use Rattle.p7_line.specs.Method.{begun_by}
use Rattle.p0_refusals.specs.declared.Refusal.{Refusal}
use Rattle.p2_input_method.specs.declared.InputMethod.{InputMethod}
use Rattle.p7_feed.specs.declared.Carry.{Carry}
use Rattle.p7_feed.specs.declared.Phase.{Phase}
use Rattle.p7_feed.specs.declared.Phase.TheVariants.{Start, Keys, Ended}

pub record State : Type 0 where
  pub held : List ℕ
  pub phase : Phase

abbrev pub state : List ℕ → Phase → State
state l p = record { held = l; phase = p }

-- what is held stands at the start of the line's buffer
abbrev pub state_of : Carry → State
state_of c = state (take c.len c.line) c.phase

-- the most bytes of a part, and room for what they print: a line each
abbrev pub part_most : ℕ
part_most = 512

abbrev pub out_room : ℕ
out_room = part_most * line_room

-- one byte over the limit is held, by which the line is refused, and no more
unfoldable pub hold : List ℕ → ℕ → List ℕ
hold l b = pick (ltb (length l) most) (l ++ (b ∷ [])) l

-- the phase after a line, and what the line prints
unfoldable pub begun_phase : Result InputMethod Refusal → Phase
begun_phase (Ok m) = Keys m
begun_phase (Err r) = Ended

unfoldable pub begun_out : Result InputMethod Refusal → List ℕ
begun_out (Ok m) = []
begun_out (Err r) = refused_line r

unfoldable pub end_phase : Phase → List ℕ → Phase
end_phase Start l = begun_phase (begun_by l)
end_phase (Keys m) l = Keys m
end_phase Ended l = Ended

unfoldable pub end_out : Phase → List ℕ → List ℕ
end_out Start l = begun_out (begun_by l)
end_out (Keys m) l = line_out m l
end_out Ended l = []

-- a byte
unfoldable pub step_to : State → ℕ → State
step_to s b = pick (eqb b line_end) (state [] (end_phase s.phase s.held)) (state (hold s.held b) s.phase)

unfoldable pub step_out : State → ℕ → List ℕ
step_out s b = pick (eqb b line_end) (end_out s.phase s.held) []

-- a part of the input
unfoldable pub run_to : State → List ℕ → State
run_to s [] = s
run_to s (b ∷ bs) = run_to (step_to s b) bs

unfoldable pub run_out : State → List ℕ → List ℕ
run_out s [] = []
run_out s (b ∷ bs) = step_out s b ++ run_out (step_to s b) bs

-- any number of parts, one after another
unfoldable pub parts_to : State → List (List ℕ) → State
parts_to s [] = s
parts_to s (part ∷ parts) = parts_to (run_to s part) parts

unfoldable pub parts_out : State → List (List ℕ) → List ℕ
parts_out s [] = []
parts_out s (part ∷ parts) = run_out s part ++ parts_out (run_to s part) parts

-- the line's buffer after a part, where the first len bytes of it are held before: each byte of a line is laid into it
unfoldable pub line_after : List ℕ → ℕ → List ℕ → List ℕ
line_after line len [] = line
line_after line len (b ∷ bs) =
    pick (eqb b line_end) (line_after line 0 bs)
    (pick (ltb len most) (line_after (set line len b) (len + 1) bs) (line_after line len bs))

-- what goes on to the next part
unfoldable pub fed : Carry → List ℕ → Carry
fed c part = record {
  line = line_after c.line c.len part;
  len = length (run_to (state_of c) part).held;
  phase = (run_to (state_of c) part).phase;
}

-- the end of the input: an unfinished line counts if it has a byte, and the method line always
unfoldable pub finish_keys : Phase → List ℕ → List ℕ
finish_keys p [] = []
finish_keys p (b ∷ l) = end_out p (b ∷ l)

unfoldable pub finish_of : Phase → List ℕ → List ℕ
finish_of Start l = end_out Start l
finish_of (Keys m) l = finish_keys (Keys m) l
finish_of Ended l = []

unfoldable pub finish_out : State → List ℕ
finish_out s = finish_of s.phase s.held
