-- A part, letter by letter: what is left of it decides.
use Rattle.std.specs.Prelude.{Err, Ok, Result}
use Prim.Native.Nat.{ℕ, ◌+◌, ◌<◌, ◌≤◌}
use mathlib.Core.Path.{◌≡◌, refl, sym, ◌∙◌}
use mathlib.Core.Bool.{true}
use mathlib.Core.List.{List}
use native.Mathlib.Numerals.{add-one}
use native.Mathlib.Omega.{arith}
use lib.ListN.{length, get_or, drop, drop_of_length-le}
use lib.Seq.{drop-cons}
use Rattle.p0_refusals.specs.declared.Refusal.{Refusal}
use Rattle.p4_spelling.specs.Verdict.{longest_length}
use Rattle.p4_note_line.specs.Line.{taking, whether}
use Rattle.p4_note_line.specs.declared.Taken.{Taken}
use Rattle.p4_note_line.specs.declared.Taken.TheVariants as Takes
use Rattle.p4_note_parts.specs.declared.Line.{Line}
use Rattle.p4_note_parts.specs.State.{line_sound}
use Rattle.p4_note_parts.specs.Parts.{gap_taken, letter_taken, ended, taken, part_taken}
use Rattle.p4_note_parts.proofs.Soundness.{taken_sound, letters_kept}
use Rattle.p4_note_parts.proofs.Taking.{going_taken, ended_stays}

-- what holds before the letter at i: the line goes on from s, which the letters before have made of s₀
pub record On (part : List ℕ) (s₀ s : Line) (i : ℕ) : Type 0 where
  pub within : i ≤ length part
  pub sound : line_sound s ≡ true
  pub going : s.standing ≡ Ok tt
  pub room : length s.letters ≡ longest_length
  pub rest : part_taken s₀ part ≡ part_taken s (drop i part)

-- no letter stands before the first
pub on_start : (part : List ℕ) (s : Line) → line_sound s ≡ true → s.standing ≡ Ok tt → length s.letters ≡ longest_length → On part s s 0
on_start part s h g k = record { within = omega arith; sound = h; going = g; room = k; rest = refl }

module _ (part : List ℕ) (s₀ s : Line) (i : ℕ) (o : On part s₀ s i) where
  -- no letter is left
  pub on_end : length part ≤ i → s ≡ part_taken s₀ part
  unfolding part_taken
  on_end l = sym (o.rest ∙ rw (drop_of_length-le part l))

  -- the letter at i is t to the line
  module _ (t : Result Taken Refusal) (h : i < length part) (e : t ≡ taking s.length s.run (get_or part i 0)) where
    next : taken s (get_or part i 0) ≡ whether t (gap_taken s) (letter_taken s (get_or part i 0)) (λ r. ended s (Err r))
    next = rw e (going_taken s (get_or part i 0) o.going)

    past : part_taken s₀ part ≡ part_taken (taken s (get_or part i 0)) (drop (i + 1) part)
    unfolding part_taken
    past = o.rest ∙ rw (drop-cons part i 0, add-one)

    on : (u : Line) → u ≡ taken s (get_or part i 0) → u.standing ≡ Ok tt → On part s₀ u (i + 1)
    on u q g =
        record {
          within = omega arith;
          sound = rw q (taken_sound s (get_or part i 0) o.sound o.room);
          going = g;
          room = rw q (letters_kept s (get_or part i 0) o.room);
          rest = rw q past;
        }

    -- the line goes on after a gap, and after a word's letter
    pub on_gap : (u : Line) → t ≡ Ok Takes.Gap → u ≡ gap_taken s → On part s₀ u (i + 1)
    unfolding gap_taken
    on_gap u q f = on u (f ∙ sym (next ∙ rw q)) (rw f)

    pub on_letter : (u : Line) → t ≡ Ok Takes.Letter → u ≡ letter_taken s (get_or part i 0) → On part s₀ u (i + 1)
    unfolding letter_taken
    on_letter u q f = on u (f ∙ sym (next ∙ rw q)) (rw f)

    -- one that is refused is the last
    pub on_refused : (u : Line) (r : Refusal) → t ≡ Err r → u ≡ ended s (Err r) → u ≡ part_taken s₀ part
    unfolding ended
    on_refused u r q f = f ∙ sym (past ∙ rw (next, q) (ended_stays (ended s (Err r)) r (drop (i + 1) part) refl))
