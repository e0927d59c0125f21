-- A letter more, by what it is; and a line that a refusal has ended.
use Rattle.std.specs.Prelude.{Err, Ok, Result}
use Prim.Native.Nat.{ℕ, ◌<◌, ◌≤◌}
use mathlib.Core.Path.{◌≡◌, refl, subst, sym}
use mathlib.Core.Bool.{true, false}
use mathlib.Core.List.{List, [], ◌∷◌}
use mathlib.Core.Logic.{◌⊎◌, inl, inr, ⊎_elim}
use Rattle.p0_refusals.specs.Limits.{letter_limit}
use Rattle.p0_refusals.specs.declared.Refusal.{Refusal}
use Rattle.p0_refusals.specs.declared.Refusal.TheVariants.{Foreign, Long}
use Rattle.p1_letters.specs.Alphabet.{is_separator}
use Rattle.p4_note_line.specs.Line.{line_limit, taking, whether}
use Rattle.p4_note_line.specs.declared.Taken.{Taken}
use Rattle.p4_note_line.specs.declared.Taken.TheVariants as Takes
use Rattle.p4_note_line.proofs.Taking.{Tells, tells}
use Rattle.p4_note_parts.specs.State.{Standing, in_word}
use Rattle.p4_note_parts.specs.Parts.{gap_taken, letter_taken, ended, while_going, taken, part_taken, standing_answer}
use Rattle.p4_note_parts.specs.declared.Line.{Line}

-- what a letter is, and why: a fact of each kind of letter is one of every letter
pub taking_cases : (P : Result Taken Refusal → Type 0) (at run x : ℕ) → (at < line_limit → is_separator x ≡ true → P (Ok Takes.Gap))
    → (at < line_limit → run < letter_limit → in_word x ≡ true → is_separator x ≡ false → P (Ok Takes.Letter))
    → P (Err Foreign)
    → ((line_limit ≤ at) ⊎ (letter_limit ≤ run) → P (Err Long))
    → P (taking at run x)
unfolding in_word
taking_cases P at run x gap letter foreign long = go (taking at run x) (tells at run x (taking at run x) refl)
  where
    go : (t : Result Taken Refusal) → Tells t at run x → P t
    go (Ok Takes.Gap) h = gap h.1 h.2
    go (Ok Takes.Letter) h = letter h.1 h.3 (rw (h.0, h.2) refl) h.2
    go (Err r) (inl h) = subst (λ u. P (Err u)) (sym h.0) foreign
    go (Err r) (inr h) = subst (λ u. P (Err u)) (sym h.0) (long (⊎_elim (λ l. inl l) (λ k. inr k.1) h.2))

-- a line that goes on takes the letter
pub going_taken : (s : Line) (x : ℕ) → s.standing ≡ Ok tt
    → taken s x ≡ whether (taking s.length s.run x) (gap_taken s) (letter_taken s x) (λ r. ended s (Err r))
unfolding taken
going_taken s x e = rw e

-- one that a refusal has ended takes none
pub ended_stays : (s : Line) (r : Refusal) (xs : List ℕ) → standing_answer s.standing ≡ Err r → part_taken s xs ≡ s
unfolding part_taken taken
ended_stays s r [] e = refl
ended_stays s r (x ∷ xs) e =
    rw (stays s.standing (whether (taking s.length s.run x) (gap_taken s) (letter_taken s x) (λ r. ended s (Err r))) e)
    (ended_stays s r xs e)
  where
    stays : (t : Standing) (next : Line) → standing_answer t ≡ Err r → while_going t next s ≡ s
    stays (Ok u) next q = cc
    stays (Err w) next q = refl
