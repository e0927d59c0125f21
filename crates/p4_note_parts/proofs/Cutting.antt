-- "A second form takes the line cut anywhere and answers the same as the whole line does": for every way to cut it.
use Rattle.std.specs.Prelude.{Err, Ok}
use Prim.Native.Nat.{ℕ}
use mathlib.Core.Path.{◌≡◌, refl, sym, ◌∙◌}
use mathlib.Core.Bool.{true}
use mathlib.Core.List.{List, [], ◌∷◌, ◌++◌, flatten}
use lib.ListN.{length, take}
use Rattle.p0_refusals.specs.Answers.{refusal_of}
use Rattle.p0_refusals.specs.declared.Refusal.{Refusal}
use Rattle.p4_spelling.specs.Verdict.{longest_length}
use Rattle.p4_note_line.specs.Line.{line_answer, checked_number}
use Rattle.p4_note_line.specs.declared.Report.{Report}
use Rattle.p4_note_parts.specs.State.{Standing, begun, line_sound}
use Rattle.p4_note_parts.specs.Parts.{taken, part_taken, standing_answer, standing_checked, part_after, told, state_answer}
use Rattle.p4_note_parts.specs.declared.Line.{Line}
use Rattle.p4_note_parts.proofs.Soundness.{begun_sound, part_sound, part_kept}
use Rattle.p4_note_parts.proofs.Taking.{ended_stays}
use Rattle.p4_note_parts.proofs.Whole.{begun_line, line_answer_lem}

-- two parts are one
pub part_append : (s : Line) (xs ys : List ℕ) → part_taken s (xs ++ ys) ≡ part_taken (part_taken s xs) ys
unfolding part_taken
part_append s [] ys = refl
part_append s (x ∷ xs) ys = part_append (taken s x) xs ys

-- the state after a call for each of the parts
abbrev pub parts_taken : Line → List (List ℕ) → Line
parts_taken s [] = s
parts_taken s (xs ∷ parts) = parts_taken (part_after s xs).line parts

-- a call over a sound state takes the part, and answers how the line stands then
module _ (s : Line) (h : line_sound s ≡ true) where
  pub sound_line : (xs : List ℕ) → (part_after s xs).line ≡ part_taken s xs
  unfolding part_after
  sound_line xs = rw h

  pub sound_answer : (xs : List ℕ) → (part_after s xs).answer ≡ standing_answer (part_taken s xs).standing
  unfolding part_after
  sound_answer xs = rw h

-- parts, one by one, do what all their letters do
pub parts_join : (s : Line) (parts : List (List ℕ)) → line_sound s ≡ true → length s.letters ≡ longest_length
    → parts_taken s parts ≡ part_taken s (flatten parts)
unfolding flatten part_taken
parts_join s [] h k = refl
parts_join s (xs ∷ parts) h k =
    rw (sound_line s h xs, part_append s xs (flatten parts))
    (parts_join (part_taken s xs) parts (part_sound s xs h k) (part_kept s xs k))

-- "the line cut anywhere": whatever the parts, the state after them is the one that stands for their letters ..
pub begun_parts : (parts : List (List ℕ)) → parts_taken begun parts ≡ part_taken begun (flatten parts)
unfolding begun
begun_parts parts = parts_join begun parts begun_sound refl

-- .. it is sound ..
pub parts_sound : (parts : List (List ℕ)) → line_sound (parts_taken begun parts) ≡ true
unfolding begun
parts_sound parts = rw (begun_parts parts) (part_sound begun (flatten parts) begun_sound refl)

-- .. the next part answers as the letters up to its end do ..
same_number : (t : Standing) (c : Report) → refusal_of (standing_answer t) ≡ checked_number (standing_checked t c)
same_number (Ok u) c = refl
same_number (Err r) c = refl

pub part_number : (parts : List (List ℕ)) (xs : List ℕ)
    → refusal_of (part_after (parts_taken begun parts) xs).answer ≡ checked_number (line_answer (flatten parts ++ xs))
part_number parts xs =
    rw (
      sound_answer (parts_taken begun parts) (parts_sound parts) xs,
      begun_parts parts,
      ← part_append begun (flatten parts) xs,
      ← begun_line (flatten parts ++ xs),
    )
    (same_number (part_taken begun (flatten parts ++ xs)).standing (told (part_taken begun (flatten parts ++ xs))))

-- .. and the answer is the whole line's
pub cut_anywhere : (parts : List (List ℕ)) → state_answer (parts_taken begun parts) ≡ line_answer (flatten parts)
cut_anywhere parts = rw (begun_parts parts) (line_answer_lem (flatten parts))

-- asked after any number of the parts, the state answers of the letters that have come so far
pub asked_between : (n : ℕ) (parts : List (List ℕ)) → state_answer (parts_taken begun (take n parts)) ≡ line_answer (flatten (take n parts))
asked_between n parts = cut_anywhere (take n parts)

-- a line that a refusal has ended stays as it is, and every part and every question has that refusal
pub repeats : (s : Line) (r : Refusal) (xs : List ℕ) → line_sound s ≡ true → standing_answer s.standing ≡ Err r
    → (part_after s xs ≡ record { line = s; answer = Err r }) × (state_answer s ≡ Err r)
unfolding part_after state_answer
repeats s r xs h e = (rw (h, ended_stays s r xs e, e), rw h (refused s.standing (told s) e))
  where
    refused : (t : Standing) (c : Report) → standing_answer t ≡ Err r → standing_checked t c ≡ Err r
    refused (Ok u) c q = cc
    refused (Err w) c q = cc

-- "after either, later calls repeat it": a refused part leaves such a line
pub repeats_after : (s : Line) (r : Refusal) (xs ys : List ℕ) → line_sound s ≡ true → length s.letters ≡ longest_length
    → (part_after s xs).answer ≡ Err r
    → (part_after (part_after s xs).line ys ≡ record { line = (part_after s xs).line; answer = Err r })
    × (state_answer (part_after s xs).line ≡ Err r)
repeats_after s r xs ys h k e =
    rw (sound_line s h xs) (repeats (part_taken s xs) r ys (part_sound s xs h k) (sym (sound_answer s h xs) ∙ e))
