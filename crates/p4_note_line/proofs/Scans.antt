-- Where a gap and a word end.
use Prim.Native.Nat.{ℕ, suc, ◌+◌, ◌≤◌}
use mathlib.Core.Path.{◌≡◌, refl}
use mathlib.Core.Bool.{Bool, true, false, not, cond}
use mathlib.Core.List.{List, [], ◌∷◌}
use native.Mathlib.Omega.{arith}
use lib.ListN.{length}
use Rattle.std.specs.Prelude.{Option, unwrap_or, position}
use Rattle.std.specs.List.{position_or_len}
use Rattle.std.proofs.lemmas.List.Recursion.{is_position_or_len}
use Rattle.p0_choice.specs.Choice.{pick}
use Rattle.p1_letters.specs.Alphabet.{is_separator}
use Rattle.p4_spelling.proofs.Scans.{first_or_all}
use Rattle.p4_note_line.specs.Line.{until_gap}
use Rattle.p4_note_line.specs.Mirror.{gap_run}

pub gap_le : (xs : List ℕ) → gap_run xs ≤ length xs
unfolding gap_run
gap_le [] = omega arith
gap_le (x ∷ xs) = go (is_separator x) (gap_le xs)
  where
    go : (b : Bool) → gap_run xs ≤ length xs → pick b (suc (gap_run xs)) 0 ≤ suc (length xs)
    go true h = omega arith
    go false h = omega arith

pub word_le : (xs : List ℕ) → length (until_gap xs) ≤ length xs
unfolding until_gap
word_le [] = omega arith
word_le (x ∷ xs) = go (is_separator x) (word_le xs)
  where
    go : (b : Bool) → length (until_gap xs) ≤ length xs → length (pick b [] (x ∷ until_gap xs)) ≤ suc (length xs)
    go true h = omega arith
    go false h = omega arith

-- each is the first place where a scan ends
gap_first : (xs : List ℕ) → gap_run xs ≡ position_or_len (λ x. not (is_separator x)) xs
unfolding gap_run
gap_first xs = is_position_or_len gap_run (λ x. not (is_separator x)) refl (λ x ys. turned (is_separator x) (gap_run ys)) xs
  where
    turned : (b : Bool) (n : ℕ) → pick b (suc n) 0 ≡ cond (not b) 0 (1 + n)
    turned true n = omega arith
    turned false n = refl

word_first : (xs : List ℕ) → length (until_gap xs) ≡ position_or_len is_separator xs
unfolding until_gap
word_first xs = is_position_or_len (λ ys. length (until_gap ys)) is_separator refl (λ x ys. turned x (until_gap ys) (is_separator x)) xs
  where
    turned : (x : ℕ) (w : List ℕ) (b : Bool) → length (pick b [] (x ∷ w)) ≡ cond b 0 (1 + length w)
    turned x w true = refl
    turned x w false = omega arith

module _ (xs : List ℕ) (r : Option ℕ) where
  pub gap_is : r ≡ position (λ x. not (is_separator x)) xs → unwrap_or r (length xs) ≡ gap_run xs
  gap_is e = rw (e, ← gap_first xs) (first_or_all (gap_run xs) (length xs) (gap_le xs))

  pub word_is : r ≡ position is_separator xs → unwrap_or r (length xs) ≡ length (until_gap xs)
  word_is e = rw (e, ← word_first xs) (first_or_all (length (until_gap xs)) (length xs) (word_le xs))
