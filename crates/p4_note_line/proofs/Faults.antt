-- The refusals of a line, a letter at a time.
use Rattle.std.specs.Prelude.{Err, Ok, Result}
use Rattle.p0_refusals.specs.declared.Refusal.{Refusal}
use Prim.Native.Nat.{ℕ, suc, ◌+◌, ◌≤◌, ◌<◌}
use mathlib.Core.Path.{◌≡◌, refl, sym, ap, ◌∙◌}
use mathlib.Core.List.{List}
use native.Mathlib.Numerals.{add-one}
use lib.ListN.{length, drop, get_or, drop_of_length-le}
use lib.Seq.{drop-cons}
use Rattle.p4_note_line.specs.declared.Taken.{Taken}
use Rattle.p4_note_line.specs.declared.Taken.TheVariants.{Gap, Letter}
use Rattle.p4_note_line.specs.Line.{taking, whether, fault_from}

-- f is what is said of the line, whose first i letters are fine; t is what the next letter is
module _ (line : List ℕ) (f : Result ℕ Refusal) (i run : ℕ) (t : Result Taken Refusal) (q : f ≡ fault_from i run (drop i line))
    (l : i < length line) (e : t ≡ taking i run (get_or line i 0)) where
  turn : f ≡ whether t (fault_from (suc i) 0 (drop (suc i) line)) (fault_from (suc i) (suc run) (drop (suc i) line)) Err
  unfolding fault_from
  turn = q ∙ ap (fault_from i run) (drop-cons line i 0 l) ∙ rw e refl

  pub fault_gap : t ≡ Ok Gap → f ≡ fault_from (i + 1) 0 (drop (i + 1) line)
  fault_gap g = rw (add-one i) (rw g at turn)

  pub fault_letter : t ≡ Ok Letter → f ≡ fault_from (i + 1) (run + 1) (drop (i + 1) line)
  fault_letter g = rw (add-one i) (rw (add-one run) (rw g at turn))

  pub fault_here : (r : Refusal) → t ≡ Err r → Err r ≡ f
  fault_here r g = sym (rw g at turn)

pub fault_none : (line : List ℕ) (f : Result ℕ Refusal) (run n : ℕ) → f ≡ fault_from n run (drop n line) → length line ≤ n → Ok n ≡ f
unfolding fault_from
fault_none line f run n q h = sym (q ∙ ap (fault_from n run) (drop_of_length-le line h))
