-- The state after a line's letters tells of the line what the whole line's answer tells.
use Rattle.std.specs.Prelude.{Err, Ok, Result}
use Prim.Native.Nat.{ℕ, suc, ◌+◌, ◌-◌, ◌≤◌, ◌<◌}
use mathlib.Core.Path.{◌≡◌, refl, ap, ◌∙◌}
use mathlib.Core.Bool.{Bool, true, false}
use mathlib.Core.List.{List, [], ◌∷◌, ◌++◌, append-nil}
use native.Mathlib.Omega.{arith}
use native.Mathlib.Nat.{add-zero, add-suc, suc-add, zero-add}
use lib.Dec.{leb, ltb, eqb-suc-zero}
use lib.ListN.{length, take, set, length-append, length-set}
use lib.Seq.{take-suc-set, append_snoc}
use borrow.Author.Tests.{leb-true, leb-false, lt-ltb}
use Rattle.p0_choice.specs.Choice.{pick}
use Rattle.p0_choice.proofs.Choices.{pick_both}
use Rattle.p0_refusals.specs.declared.Refusal.{Refusal}
use Rattle.p0_refusals.specs.declared.Refusal.TheVariants as Refusals
use Rattle.p1_letters.specs.Alphabet.{is_separator}
use Rattle.p4_rows.specs.Rows.{Word}
use Rattle.p4_spelling.specs.Verdict.{verdict, longest_length}
use Rattle.p4_spelling.proofs.Folding.{too_long}
use Rattle.p4_note_line.specs.Line.{Placed, until_gap, line_words_from, line_words, fault_from, line_fault, unless_fault, line_answer, whether}
use Rattle.p4_note_line.specs.declared.Report.{Report}
use Rattle.p4_note_line.specs.declared.Taken.{Taken}
use Rattle.p4_note_parts.specs.State.{Standing, begun}
use Rattle.p4_note_parts.specs.Parts.{open_accepted, counted_all, gap_taken, letter_taken, ended, part_taken, told}
use Rattle.p4_note_parts.specs.Parts.{standing_checked, state_answer}
use Rattle.p4_note_parts.specs.declared.Line.{Line}
use Rattle.p4_note_parts.proofs.Soundness.{before, begun_sound, part_sound}
use Rattle.p4_note_parts.proofs.Tally.{tally, closed, tally_line}
use Rattle.p4_note_parts.proofs.Taking.{taking_cases, going_taken, ended_stays}

-- ---- a line that goes on, with the open word w
record Open (s : Line) (w : Word) : Type 0 where
  going : s.standing ≡ Ok tt
  long : s.run ≡ length w
  within : s.run ≤ s.length
  eight : length s.letters ≡ longest_length
  kept : length w ≤ longest_length → take (length w) s.letters ≡ w

-- the open word's verdict needs no more than the letters that are kept
accepted : (s : Line) (w : Word) → Open s w → open_accepted s.run s.letters ≡ verdict w
unfolding open_accepted
accepted s w o = rw o.long (go (leb (length w) longest_length) refl)
  where
    go : (b : Bool) → leb (length w) longest_length ≡ b → pick b (verdict (take (length w) s.letters)) false ≡ verdict w
    go true e = ap verdict (o.kept (leb-true (length w) longest_length e))
    go false e = too_long w (leb-false (length w) longest_length e)

-- a new line has none
begun_open : Open begun []
unfolding begun
begun_open = record { going = refl; long = refl; within = omega arith; eight = refl; kept = λ h. refl }

-- a gap ends it
gap_open : (s : Line) → Open (gap_taken s) []
unfolding gap_taken
gap_open s = record { going = refl; long = refl; within = omega arith; eight = refl; kept = λ h. refl }

-- a letter makes it longer
one_longer : (w : Word) (x : ℕ) → length (w ++ (x ∷ [])) ≡ suc (length w)
one_longer w x = simp length-append (omega arith)

letter_open : (s : Line) (w : Word) (x : ℕ) → Open s w → Open (letter_taken s x) (w ++ (x ∷ []))
unfolding letter_taken
letter_open s w x o = record {
  going = refl;
  long = rw (one_longer w x) (ap suc o.long);
  within = omega (arith, o.within);
  eight = pick_both (λ (l : List ℕ). length l ≡ longest_length) (ltb s.run longest_length) (set s.letters s.run x) s.letters
      (λ _. length-set s.letters s.run x ∙ o.eight) (λ _. o.eight);
  kept = λ h. let l : length w < longest_length = omega (arith, one_longer w x) in
      rw (o.long, one_longer w x, lt-ltb (length w) longest_length l)
      (take-suc-set s.letters (length w) x (omega (arith, o.eight)) ∙ rw (o.kept (omega arith)));
}

-- ---- the words of the line from here on
-- whether a word's letter stands before
abbrev inside : Word → Bool
inside [] = false
inside (y ∷ w) = true

-- the open word, if there is one, with these letters more, and the words after it
abbrev opened : Word → ℕ → Word → List Placed → List Placed
opened [] at more after = after
opened (y ∷ w) at more after = record { start = at - length (y ∷ w); letters = (y ∷ w) ++ more } ∷ after

-- the open word goes on to the next gap
abbrev words_on : Word → ℕ → List ℕ → List Placed
words_on w at xs = opened w at (until_gap xs) (line_words_from (inside w) at xs)

-- the open word is counted where no letter more comes to it
counted_open : (s : Line) (w : Word) (after : List Placed) → Open s w
    → tally (counted_all s) after ≡ tally (before s) (opened w s.length [] after)
unfolding counted_all
counted_open s [] after o = rw o.long
counted_open s (y ∷ w) after o = rw (accepted s (y ∷ w) o, o.long, append-nil w, eqb-suc-zero)

-- at a gap it ends, and none stands open
gap_words : (w : Word) (at x : ℕ) (xs : List ℕ) → is_separator x ≡ true → words_on w at (x ∷ xs) ≡ opened w at [] (words_on [] (suc at) xs)
unfolding until_gap line_words_from
gap_words w at x xs e = rw e

-- at a word's letter it goes on, or begins
letter_words : (w : Word) (at x : ℕ) (xs : List ℕ) → is_separator x ≡ false → words_on w at (x ∷ xs) ≡ words_on (w ++ (x ∷ [])) (suc at) xs
unfolding until_gap line_words_from
letter_words [] at x xs e = let n : suc at - 1 ≡ at = omega arith in rw (e, n)
letter_words (y ∷ w) at x xs e =
    let n : suc at - suc (suc (length w)) ≡ at - suc (length w) = omega arith in
    rw (e, one_longer w x, n, append_snoc w x (until_gap xs))

-- what is told of the line with the letters xs more
abbrev foretold : Line → Word → List ℕ → Report
foretold s w xs = closed (s.length + length xs) (tally (before s) (words_on w s.length xs))

-- a letter's coming changes nothing of it, a gap's or a word's
gap_foretold : (s : Line) (w : Word) (x : ℕ) (xs : List ℕ) → Open s w → is_separator x ≡ true
    → foretold (gap_taken s) [] xs ≡ foretold s w (x ∷ xs)
unfolding gap_taken
gap_foretold s w x xs o e =
    rw (gap_words w s.length x xs e, ← counted_open s w (words_on [] (suc s.length) xs) o, suc-add, add-suc)

letter_foretold : (s : Line) (w : Word) (x : ℕ) (xs : List ℕ) → is_separator x ≡ false
    → foretold (letter_taken s x) (w ++ (x ∷ [])) xs ≡ foretold s w (x ∷ xs)
unfolding letter_taken
letter_foretold s w x xs e = rw (letter_words w s.length x xs e, suc-add, add-suc)

-- ---- the answer
-- of a state that is sound
abbrev answered : Line → Result Report Refusal
answered s = standing_checked s.standing (told s)

going_told : (t : Standing) (c : Report) → t ≡ Ok tt → standing_checked t c ≡ Ok c
going_told t c e = rw e

-- of a line that goes on: the first refusal of the letters that come, or what is told of the line with them
open_line : (s : Line) (w : Word) (xs : List ℕ) → Open s w
    → answered (part_taken s xs) ≡ unless_fault (fault_from s.length s.run xs) (foretold s w xs)
unfolding part_taken told fault_from gap_taken letter_taken ended until_gap line_words_from
open_line s w [] o = rw (going_told s.standing (told s) o.going, add-zero, ← counted_open s w [] o)
open_line s w (x ∷ xs) o =
    ap (λ (l : Line). answered (part_taken l xs)) (going_taken s x o.going)
    ∙ (taking_cases
    (λ (t : Result Taken Refusal).
    answered (part_taken (whether t (gap_taken s) (letter_taken s x) (λ r. ended s (Err r))) xs)
    ≡ unless_fault
    (whether t (fault_from (suc s.length) 0 xs) (fault_from (suc s.length) (suc s.run) xs) Err)
    (foretold s w (x ∷ xs)))
    s.length s.run x
    (λ l e. rw (← gap_foretold s w x xs o e) (open_line (gap_taken s) [] xs (gap_open s)))
    (λ l k i e. rw (← letter_foretold s w x xs e) (open_line (letter_taken s x) (w ++ (x ∷ [])) xs (letter_open s w x o)))
    (rw (ended_stays (ended s (Err Refusals.Foreign)) Refusals.Foreign xs refl))
    (λ l. rw (ended_stays (ended s (Err Refusals.Long)) Refusals.Long xs refl)))

-- of a whole line
pub begun_line : (xs : List ℕ) → standing_checked (part_taken begun xs).standing (told (part_taken begun xs)) ≡ line_answer xs
unfolding line_answer line_fault line_words begun
begun_line xs = rw (open_line begun [] xs begun_open, zero-add) (ap (unless_fault (line_fault xs)) (tally_line xs))

-- the state's answer is the whole line's
pub line_answer_lem : (xs : List ℕ) → state_answer (part_taken begun xs) ≡ line_answer xs
unfolding state_answer begun
line_answer_lem xs = rw (part_sound begun xs begun_sound refl) (begun_line xs)
