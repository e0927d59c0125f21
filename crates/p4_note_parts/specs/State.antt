-- Document 02, request 2026-04, "A second form takes the line cut anywhere": the state that stands for what has come of a line.
use Rattle.std.specs.Prelude.{Err, Ok, ℕ, zero, suc, ◌+◌, ◌*◌, ◌%◌, Bool, true, false, List, [], ◌∷◌, Result, eqb, leb}
use Rattle.p0_choice.specs.Choice.{pick}
use Rattle.p0_refusals.specs.declared.Refusal.{Refusal}
use Rattle.p0_refusals.specs.declared.Refusal.TheVariants.{Foreign, Long}
use Rattle.p0_refusals.specs.Limits.{letter_limit}
use Rattle.p1_letters.specs.Alphabet.{in_alphabet, is_separator}
use Rattle.p4_spelling.specs.Verdict.{longest_length}
use Rattle.p4_note_line.specs.Line.{line_limit}
use Rattle.p4_note_parts.specs.declared.Line.{Line}

-- whether it goes on, or which refusal has ended it
abbrev pub Standing : Type 0
Standing = Result (Unit {0}) Refusal

-- the letters that are kept of a word that stands open: a longer one is judged no, whatever they are
abbrev pub blank_letters : ℕ → List ℕ
blank_letters zero = []
blank_letters (suc n) = 0 ∷ blank_letters n

-- a new line, of which nothing has come
unfoldable pub begun : Line
begun = record { letters = blank_letters longest_length; length = 0; run = 0; words = 0; noes = 0; first = 0; standing = Ok tt }

-- ---- soundness. docs/BYTES.md has it in words.
-- a letter that a word can have
unfoldable pub in_word : ℕ → Bool
in_word x = pick (in_alphabet x) (pick (is_separator x) false true) false

-- The first letters of the open word are letters that a word can have; past them stands 0.
unfoldable pub letters_fit : ℕ → List ℕ → Bool
letters_fit run [] = true
letters_fit zero (x ∷ xs) = pick (eqb x 0) (letters_fit zero xs) false
letters_fit (suc run) (x ∷ xs) = pick (in_word x) (letters_fit run xs) false

-- Each word that has ended took a letter and a gap at least, all before the open word. Those judged no are some of them, and stand
-- from the first one's place on; before that place only whole pairs of letters serve. With none of them the place is 0.
unfoldable pub counts_fit : Line → Bool
counts_fit s =
    pick (eqb s.noes 0)
    (pick (eqb s.first 0) (leb (2 * s.words + s.run) s.length) false)
    (pick (leb s.noes s.words)
    (pick (leb (s.first + 2 * s.noes + s.run) s.length) (leb (2 * s.words + s.run + s.first % 2) s.length) false)
    false)

-- 6 ends a line at the 65th letter of a word or the 4,097th of the line, 1 anywhere, and no other refusal does
abbrev pub end_fits : Standing → ℕ → ℕ → Bool
end_fits (Ok u) length run = true
end_fits (Err Foreign) length run = true
end_fits (Err Long) length run = pick (eqb run letter_limit) true (eqb length line_limit)
end_fits (Err _) length run = false

unfoldable pub line_sound : Line → Bool
line_sound s =
    pick (leb s.length line_limit)
    (pick (leb s.run letter_limit)
    (pick (counts_fit s) (pick (end_fits s.standing s.length s.run) (letters_fit s.run s.letters) false) false)
    false)
    false
