-- Document 02, request 2026-04: a note line, its words, what is told of it, and its refusals.
use Rattle.p0_refusals.specs.declared.Refusal.{Refusal}
use Rattle.std.specs.Prelude.{ℕ, suc, Bool, true, false, List, [], ◌∷◌, ltb, length, Err, Ok, Result}
use Rattle.p0_choice.specs.Choice.{pick}
use Rattle.p0_refusals.specs.Limits.{letter_limit}
use Rattle.p0_refusals.specs.Refusals.{number_of}
use Rattle.p0_refusals.specs.declared.Refusal.TheVariants as Refusals
use Rattle.p1_letters.specs.Alphabet.{in_alphabet, is_separator}
use Rattle.p4_rows.specs.Rows.{Word}
use Rattle.p4_spelling.specs.Verdict.{verdict}
use Rattle.p4_note_line.specs.declared.Report.{Report}
use Rattle.p4_note_line.specs.declared.Taken.{Taken}
use Rattle.p4_note_line.specs.declared.Taken.TheVariants.{Gap, Letter}

-- "a line over 4,096"
abbrev pub line_limit : ℕ
line_limit = 4096

-- ---- the words. "Gaps are white space and the six syllable-ending marks of 01": the separators

-- what stands before the next gap
unfoldable pub until_gap : List ℕ → Word
until_gap [] = []
until_gap (x ∷ xs) = pick (is_separator x) [] (x ∷ until_gap xs)

-- a word of a line, and "the position, in letters from 0, of [its] first letter"
pub record Placed : Type 0 where
  pub start : ℕ
  pub letters : Word

-- "A line is words and gaps by turns": a word begins at each letter that is no gap's and that no word's letter stands before, and goes
-- on to the next gap. `inside`: a word's letter stands before; `at`: so many letters do
unfoldable pub line_words_from : Bool → ℕ → List ℕ → List Placed
line_words_from inside at [] = []
line_words_from inside at (x ∷ xs) =
    pick (is_separator x) (line_words_from false (suc at) xs)
    (pick inside (line_words_from true (suc at) xs) (record { start = at; letters = until_gap (x ∷ xs) } ∷ line_words_from true (suc at) xs))

unfoldable pub line_words : List ℕ → List Placed
line_words line = line_words_from false 0 line

-- ---- what is told of a line
-- "words judged no"
unfoldable pub judged_no : List Placed → List Placed
judged_no [] = []
judged_no (p ∷ ps) = pick (verdict p.letters) (judged_no ps) (p ∷ judged_no ps)

-- "of the first letter of the first of those, or the line's length if there is none"
unfoldable pub first_start : ℕ → List Placed → ℕ
first_start n [] = n
first_start n (p ∷ ps) = p.start

-- "The answer is the number of words and of words judged no, and the position .. of the first of those"
unfoldable pub line_report : List ℕ → Report
line_report line =
    record {
      words = length (line_words line);
      noes = length (judged_no (line_words line));
      first = first_start (length line) (judged_no (line_words line));
    }

-- ---- the refusals
-- What a letter is that `at` letters stand before, the last `run` of them of one word. "6 at the 65th letter of a word or the 4,097th of
-- the line, 1 at a foreign letter, .. 1 if both at one place"
unfoldable pub taking : ℕ → ℕ → ℕ → Result Taken Refusal
taking at run x =
    pick (in_alphabet x)
    (pick (ltb at line_limit) (pick (is_separator x) (Ok Gap) (pick (ltb run letter_limit) (Ok Letter) (Err Refusals.Long))) (Err Refusals.Long))
    (Err Refusals.Foreign)

abbrev pub whether : {A : Type 0} → Result Taken Refusal → A → A → (Refusal → A) → A
whether (Ok Gap) gap letter refused = gap
whether (Ok Letter) gap letter refused = letter
whether (Err r) gap letter refused = refused r

-- "whichever stands first": what is said of the letters that follow; the line's length where none is refused
unfoldable pub fault_from : ℕ → ℕ → List ℕ → Result ℕ Refusal
fault_from at run [] = Ok at
fault_from at run (x ∷ xs) = whether (taking at run x) (fault_from (suc at) 0 xs) (fault_from (suc at) (suc run) xs) Err

unfoldable pub line_fault : List ℕ → Result ℕ Refusal
line_fault line = fault_from 0 0 line

-- ---- the answer
abbrev pub unless_fault : Result ℕ Refusal → Report → Result Report Refusal
unless_fault (Ok n) counts = Ok counts
unless_fault (Err r) counts = Err r

unfoldable pub line_answer : List ℕ → Result Report Refusal
line_answer line = unless_fault (line_fault line) (line_report line)

-- document 01's number of the answer's refusal; 0 where it is none
abbrev pub checked_number : Result Report Refusal → ℕ
checked_number (Ok counts) = 0
checked_number (Err r) = number_of r
