-- What is to be undone, as the code finds it.
use Rattle.std.specs.Prelude.{None, Some}
use Prim.Native.Nat.{ℕ, ◌+◌, ◌-◌, ◌<◌, ◌≤◌}
use mathlib.Core.Path.{◌≡◌, refl, ap, ◌∙◌}
use mathlib.Core.Bool.{Bool, true, false}
use mathlib.Core.List.{List}
use native.Mathlib.Omega.{arith}
use native.Mathlib.Numerals.{add-one}
use lib.ListN.{length, get_or, drop, drop_of_length-le}
use lib.Seq.{drop-cons}
use Rattle.p0_choice.specs.Choice.{pick}
use Rattle.p2_input_method.specs.declared.MarkRule.{MarkRule}
use Rattle.p3_cells.specs.Place.{place_or}
use Rattle.p3_cells.specs.declared.Cell.{Cell}
use Rattle.p3_undo.specs.Mirror.{bearing, sign_cells}
use Rattle.p3_undo.specs.Undo.{last_with, rule_at, by_rules}
use Rattle.p3_undo.specs.declared.Undoing.TheVariants.{Mark}
use Rattle.p3_undo.proofs.Signs.{row_at}

-- ---- the last cell that passes a test
pub with_none : (p : Cell → Bool) (row : List ℕ) (i : ℕ) → i ≤ 0 → last_with p (sign_cells row) i ≡ None
unfolding last_with
with_none p row i l = let z : i ≡ 0 = omega arith in rw z refl

pub with_turn : (p : Cell → Bool) (row : List ℕ) (i : ℕ)
    → last_with p (sign_cells row) (i + 1) ≡ pick (p (bearing (get_or row i 0))) (Some i) (last_with p (sign_cells row) i)
unfolding last_with
with_turn p row i = rw (add-one i, row_at row i) refl

-- a loop from the end: b is the test of the cell before place i
module _ (p : Cell → Bool) (row : List ℕ) (i : ℕ) (h : 0 < i) (b : Bool) (e : b ≡ p (bearing (get_or row (i - 1) 0)))
    (w : last_with p (sign_cells row) (length row) ≡ last_with p (sign_cells row) i) where
  turned : last_with p (sign_cells row) i ≡ pick b (Some (i - 1)) (last_with p (sign_cells row) (i - 1))
  turned = let d : i ≡ i - 1 + 1 = omega arith in ap (last_with p (sign_cells row)) d ∙ rw e (with_turn p row (i - 1))

  pub with_here : b ≡ true → Some (i - 1) ≡ last_with p (sign_cells row) (length row)
  with_here t = rw (w ∙ turned, t) refl

  pub with_on : b ≡ false → last_with p (sign_cells row) (length row) ≡ last_with p (sign_cells row) (i - 1)
  with_on t = rw (w ∙ turned, t) refl

-- ---- the rules
-- the rules from one on: at the end none is left, and before it the first has a cell, or those from the next on are tried
module _ (cs : List Cell) (raw : List ℕ) (t : ℕ) (rs : List MarkRule) (i : ℕ) where
  pub rules_end : length rs ≤ i → by_rules cs raw t (drop i rs) ≡ None
  unfolding by_rules
  rules_end l = rw (drop_of_length-le rs l) refl

  module _ (d : MarkRule) (l : i < length rs) where
    rules_turn : by_rules cs raw t (drop i rs)
        ≡ place_or (rule_at cs raw t (get_or rs i d)) (λ (j : ℕ). Some (Mark j (get_or rs i d))) (by_rules cs raw t (drop (i + 1) rs))
    unfolding by_rules
    rules_turn = rw (add-one i, drop-cons rs i d l) refl

    pub rules_found : (j : ℕ) → rule_at cs raw t (get_or rs i d) ≡ Some j → by_rules cs raw t (drop i rs) ≡ Some (Mark j (get_or rs i d))
    rules_found j h = rules_turn ∙ rw h refl

    pub rules_on : rule_at cs raw t (get_or rs i d) ≡ None → by_rules cs raw t (drop i rs) ≡ by_rules cs raw t (drop (i + 1) rs)
    rules_on h = rules_turn ∙ rw h refl
