-- The words of a line counted one by one, as the state counts them, give what is told of the whole line.
use Prim.Native.Nat.{ℕ, suc, ◌+◌}
use mathlib.Core.Path.{◌≡◌, ◌∙◌}
use mathlib.Core.Bool.{Bool, true, false}
use mathlib.Core.List.{List, [], ◌∷◌}
use native.Mathlib.Nat.{add-zero, add-suc, suc-add, zero-add}
use lib.Dec.{eqb, eqb-suc-zero}
use lib.ListN.{length}
use Rattle.p0_choice.specs.Choice.{pick}
use Rattle.p4_spelling.specs.Verdict.{verdict}
use Rattle.p4_note_line.specs.Line.{Placed, judged_no, first_start, line_words, line_report}
use Rattle.p4_note_line.specs.declared.Report.{Report}
use Rattle.p4_note_parts.specs.Parts.{word_more}

-- the counts with these words more, in their order
abbrev pub tally : Report → List Placed → Report
tally c [] = c
tally c (p ∷ ps) = tally (word_more c.words c.noes c.first p.start (verdict p.letters)) ps

-- what the counts tell of a line of n letters: n where no word is judged no
abbrev pub closed : ℕ → Report → Report
closed n c = record { words = c.words; noes = c.noes; first = pick (eqb c.noes 0) n c.first }

-- what they tell of it with k words more, of which ns are judged no
abbrev closed_with : ℕ → Report → ℕ → List Placed → Report
closed_with n c k ns =
    record { words = c.words + k; noes = c.noes + length ns; first = pick (eqb c.noes 0) (first_start n ns) c.first }

-- a word counted is the first of the words more
word_more_lem : (n : ℕ) (c : Report) (k : ℕ) (ns : List Placed) (p : Placed) (v : Bool)
    → closed_with n (word_more c.words c.noes c.first p.start v) k ns ≡ closed_with n c (suc k) (pick v ns (p ∷ ns))
unfolding first_start
word_more_lem n c k ns p true = simp (suc-add, add-suc)
word_more_lem n c k ns p false = simp (suc-add, add-suc, eqb-suc-zero)

-- the words more are so many, and so many of them judged no
tallied : (n : ℕ) (c : Report) (ps : List Placed) → closed n (tally c ps) ≡ closed_with n c (length ps) (judged_no ps)
unfolding judged_no first_start
tallied n c [] = simp add-zero
tallied n c (p ∷ ps) =
    tallied n (word_more c.words c.noes c.first p.start (verdict p.letters)) ps
    ∙ word_more_lem n c (length ps) (judged_no ps) p (verdict p.letters)

-- the words of a line, counted from nothing on, give what is told of it
pub tally_line : (xs : List ℕ) → closed (length xs) (tally (record { words = 0; noes = 0; first = 0 }) (line_words xs)) ≡ line_report xs
unfolding line_report
tally_line xs = tallied (length xs) (record { words = 0; noes = 0; first = 0 }) (line_words xs) ∙ simp zero-add
