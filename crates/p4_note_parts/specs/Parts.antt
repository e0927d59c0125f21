-- Document 02, request 2026-04, "A second form takes the line cut anywhere and answers the same as the whole line does": what a letter
-- does to the state, what a part does, and what the state answers.
use Rattle.p0_refusals.specs.declared.Refusal.{Refusal}
use Rattle.std.specs.Prelude.{ℕ, suc, ◌-◌, Bool, true, false, List, [], ◌∷◌, eqb, ltb, leb, take, set, Err, Ok, Result}
use Rattle.p0_choice.specs.Choice.{pick}
use Rattle.p0_refusals.specs.declared.Refusal.TheVariants.{Unsound}
use Rattle.p4_spelling.specs.Verdict.{verdict, longest_length}
use Rattle.p4_note_line.specs.Line.{taking, whether}
use Rattle.p4_note_line.specs.declared.Report.{Report}
use Rattle.p4_note_parts.specs.declared.Line.{Line}
use Rattle.p4_note_parts.specs.declared.LineAfter.{LineAfter}
use Rattle.p4_note_parts.specs.State.{Standing, blank_letters, line_sound}

-- ---- the open word
-- whether it is judged yes: "The longest has 8 letters"
unfoldable pub open_accepted : ℕ → List ℕ → Bool
open_accepted run letters = pick (leb run longest_length) (verdict (take run letters)) false

-- a word more: so many have come before it, so many of them judged no, the first at `first`; it begins at `at`
abbrev pub word_more : ℕ → ℕ → ℕ → ℕ → Bool → Report
word_more words noes first at true = record { words = suc words; noes = noes; first = first }
word_more words noes first at false = record { words = suc words; noes = suc noes; first = pick (eqb noes 0) at first }

-- what is counted with the open word, if one stands open
unfoldable pub counted_all : Line → Report
counted_all s =
    pick (eqb s.run 0)
    (record { words = s.words; noes = s.noes; first = s.first })
    (word_more s.words s.noes s.first (s.length - s.run) (open_accepted s.run s.letters))

-- ---- a letter more
-- a gap ends the open word
unfoldable pub gap_taken : Line → Line
gap_taken s =
    record {
      letters = blank_letters longest_length;
      length = suc s.length;
      run = 0;
      words = (counted_all s).words;
      noes = (counted_all s).noes;
      first = (counted_all s).first;
      standing = Ok tt;
    }

-- a word's letter is kept while there is room
unfoldable pub letter_taken : Line → ℕ → Line
letter_taken s x =
    record {
      letters = pick (ltb s.run longest_length) (set s.letters s.run x) s.letters;
      length = suc s.length;
      run = suc s.run;
      words = s.words;
      noes = s.noes;
      first = s.first;
      standing = Ok tt;
    }

-- "The line's state .. records that refusal", and nothing else of the letter
unfoldable pub ended : Line → Standing → Line
ended s why =
    record {
      letters = s.letters;
      length = s.length;
      run = s.run;
      words = s.words;
      noes = s.noes;
      first = s.first;
      standing = why;
    }

-- "after either, later calls repeat it until a new line is begun"
abbrev pub while_going : {A : Type 0} → Standing → A → A → A
while_going (Ok u) next old = next
while_going (Err r) next old = old

unfoldable pub taken : Line → ℕ → Line
taken s x =
    while_going s.standing
    (whether (taking s.length s.run x) (gap_taken s) (letter_taken s x) (λ r. ended s (Err r)))
    s

-- ---- a part, and the answer
unfoldable pub part_taken : Line → List ℕ → Line
part_taken s [] = s
part_taken s (x ∷ xs) = part_taken (taken s x) xs

abbrev pub standing_answer : Standing → Result ℕ Refusal
standing_answer (Ok u) = Ok 0
standing_answer (Err r) = Err r

-- "10 first, for a state that breaks the soundness", "and refusal 10 leaves the state too as it was"
unfoldable pub part_after : Line → List ℕ → LineAfter
part_after s xs =
    pick (line_sound s)
    (record { line = part_taken s xs; answer = standing_answer (part_taken s xs).standing })
    (record { line = s; answer = Err Unsound })

-- what is told of the letters that have come; with none judged no "the line's length"
unfoldable pub told : Line → Report
told s =
    record {
      words = (counted_all s).words;
      noes = (counted_all s).noes;
      first = pick (eqb (counted_all s).noes 0) s.length (counted_all s).first;
    }

abbrev pub standing_checked : Standing → Report → Result Report Refusal
standing_checked (Ok u) counts = Ok counts
standing_checked (Err r) counts = Err r

unfoldable pub state_answer : Line → Result Report Refusal
state_answer s = pick (line_sound s) (standing_checked s.standing (told s)) (Err Unsound)
