-- How the code holds things: no sentence of document 01 stands here, and no promise to a host leads here.
use Rattle.std.specs.Prelude.{ℕ, suc, ◌≡◌, ◌+◌, ◌≤◌, ◌<◌, Bool, true, false, List, [], ◌∷◌, eqb, length, get_or}
use Rattle.p0_choice.specs.Choice.{pick}
use Rattle.p1_letters.specs.Alphabet.{is_separator}
use Rattle.p4_spelling.specs.Verdict.{verdict}
use Rattle.p4_note_line.specs.declared.Report.{Report}
use Rattle.p4_note_line.specs.Line.{Placed, line_limit, line_words_from}

-- how many gap letters the line starts with
unfoldable pub gap_run : List ℕ → ℕ
gap_run [] = 0
gap_run (x ∷ xs) = pick (is_separator x) (suc (gap_run xs)) 0

-- what is told of the words so far, with a word more, which begins at `at`; while none is judged no, the first place is the line's length
abbrev pub one_more : Report → ℕ → Bool → Report
one_more c at true = record { words = c.words + 1; noes = c.noes; first = c.first }
one_more c at false = record { words = c.words + 1; noes = c.noes + 1; first = pick (eqb c.noes 0) at c.first }

-- with these words more, in their order
unfoldable pub reported : Report → List Placed → Report
reported c [] = c
reported c (p ∷ ps) = reported (one_more c p.start (verdict p.letters)) ps

-- with the words of the letters that stand after `at` others, where a gap stands or a word begins
unfoldable pub counted_from : Report → ℕ → List ℕ → Report
counted_from c at xs = reported c (line_words_from false at xs)

-- ---- what the readers ask
-- a line within the limit, and no more words than letters before
pub record CanCount (at : ℕ) (rest : List ℕ) (before : Report) : Type 0 where
  pub short : at + length rest ≤ line_limit
  pub few : before.words ≤ at
  pub fewer : before.noes ≤ before.words

-- a letter of a word first
pub record BeginsWord (rest : List ℕ) : Type 0 where
  pub some : 0 < length rest
  pub letter : is_separator (get_or rest 0 0) ≡ false
