-- The mark step's scan, as the code goes through it; that cells and the row of their bases have its place in common; and
-- where that place can be.
use Rattle.std.specs.Prelude.{None, Some, is_some}
use Prim.Native.Nat.{ℕ, zero, suc, ◌+◌, ◌-◌, ◌<◌, ◌≤◌}
use mathlib.Core.Path.{◌≡◌, refl, sym, ◌∙◌}
use mathlib.Core.Bool.{Bool, true, false, not}
use mathlib.Core.List.{List, [], ◌∷◌}
use mathlib.Core.Logic.{◌⊎◌, inl, inr}
use native.Mathlib.Omega.{arith}
use lib.Dec.{eqb}
use lib.ListN.{length, get_or}
use borrow.Author.Tests.{eqb-false, not-true}
use Rattle.p0_choice.specs.Choice.{pick, among}
use Rattle.p0_choice.proofs.Numbers.{below_or_not}
use Rattle.p1_letters.specs.Alphabet.{ascii_lower}
use Rattle.p0_choice.specs.Text.{word}
use Rattle.p2_input_method.specs.Rules.{mark_rule, mark_rules, mark_in, mark_for}
use Rattle.p2_input_method.specs.declared.InputMethod.TheVariants.{Telex, Vni}
use Rattle.p2_input_method.specs.declared.MarkRule.{MarkRule}
use Rattle.p2_input_method.specs.declared.InputMethod.{InputMethod}
use Rattle.p3_cells.specs.declared.Cell.{Cell}
use Rattle.p3_cells.specs.Row.{bases}
use Rattle.p3_cells.specs.Mirror.{row_cells}
use Rattle.p3_cells.proofs.Row.{row_length}
use Rattle.p3_marks.specs.Uo.{base_at}
use Rattle.p3_marks.specs.Mark.{mark_back, mark_place}
use Rattle.p2_input_method.specs.Mirror.{mark_found}
use Rattle.p3_marks.specs.Mirror.{is_mark_key}
use Rattle.p3_marks.specs.Mirror.{mark_keys}
use Rattle.p3_marks.proofs.Base.{row_base, same_base, same_length}

-- ---- the scan
pub mark_first : (m : InputMethod) (row : List ℕ) (k : ℕ)
    → mark_place m (row_cells row) k ≡ mark_back m (row_cells row) k (length row + 5 - length row) (length row)
unfolding mark_place
mark_first m row k = let d : length row + 5 - length row ≡ 5 = omega arith in rw (row_length row, d) refl

turn : (m : InputMethod) (cs : List Cell) (k n i : ℕ)
    → mark_back m cs k (suc n) (suc i) ≡ pick (eqb (mark_for m (base_at cs i) k) 0) (mark_back m cs k n i) (Some i)
unfolding mark_back
turn m cs k n i = refl

few : (m : InputMethod) (cs : List Cell) (k left i : ℕ) → (left ≡ 0) ⊎ (i ≡ 0) → mark_back m cs k left i ≡ None
unfolding mark_back
few m cs k zero i h = refl
few m cs k (suc n) zero h = refl
few m cs k (suc n) (suc j) (inl h) = absurd (omega arith)
few m cs k (suc n) (suc j) (inr h) = absurd (omega arith)

-- a place of the last five
pub mark_turn : (m : InputMethod) (row : List ℕ) (k i : ℕ) → length row ≤ i + 5
    → mark_back m (row_cells row) k (i + 1 + 5 - length row) (i + 1)
    ≡ pick (is_some (mark_found m (ascii_lower (get_or row i 0)) k)) (Some i) (mark_back m (row_cells row) k (i + 5 - length row) i)
unfolding mark_found
mark_turn m row k i l =
    let a : i + 1 + 5 - length row ≡ suc (i + 5 - length row) = omega arith in
    let b : i + 1 ≡ suc i = omega arith in
    rw (a, b, turn m (row_cells row) k (i + 5 - length row) i, row_base row i) (go (eqb (mark_for m (ascii_lower (get_or row i 0)) k) 0))
  where
    go : (t : Bool) → pick t (mark_back m (row_cells row) k (i + 5 - length row) i) (Some i)
        ≡ pick (is_some (pick t None (Some (mark_for m (ascii_lower (get_or row i 0)) k)))) (Some i) (mark_back m (row_cells row) k (i + 5 - length row) i)
    go true = refl
    go false = refl

-- none of them is left
pub mark_end : (m : InputMethod) (row : List ℕ) (k i : ℕ) → i ≤ length row - 5 → mark_back m (row_cells row) k (i + 5 - length row) i ≡ None
mark_end m row k i h = go (below_or_not i 1)
  where
    go : (i < 1) ⊎ (1 ≤ i) → mark_back m (row_cells row) k (i + 5 - length row) i ≡ None
    go (inl l) = few m (row_cells row) k (i + 5 - length row) i (inr (omega arith))
    go (inr l) = few m (row_cells row) k (i + 5 - length row) i (inl (omega arith))

-- ---- the keys, as code points: a d e o w and 6 to 9
pub telex_keys : mark_keys (mark_rules Telex) ≡ 119 ∷ 97 ∷ 101 ∷ 111 ∷ 119 ∷ 119 ∷ 100 ∷ []
unfolding mark_keys mark_rules mark_rule word
telex_keys = refl

pub vni_keys : mark_keys (mark_rules Vni) ≡ 54 ∷ 54 ∷ 54 ∷ 55 ∷ 55 ∷ 56 ∷ 57 ∷ []
unfolding mark_keys mark_rules mark_rule word
vni_keys = refl

-- ---- a key that is in no rule marks nothing
none_in : (rs : List MarkRule) (b k : ℕ) → among k (mark_keys rs) ≡ false → mark_in rs b k ≡ 0
unfolding mark_in mark_keys
none_in [] b k e = refl
none_in (r ∷ rs) b k e = go (eqb b r.first) (eqb k r.key) e (λ (f : among k (mark_keys rs) ≡ false). none_in rs b k f)
  where
    go : (a t : Bool) → pick t true (among k (mark_keys rs)) ≡ false → (among k (mark_keys rs) ≡ false → mark_in rs b k ≡ 0)
        → pick a (pick t r.result (mark_in rs b k)) (mark_in rs b k) ≡ 0
    go a true e f = let z : ◌≡◌ {A = ℕ} 0 1 = cc in absurd (omega arith)
    go true false e f = f e
    go false false e f = f e

none_back : (m : InputMethod) (cs : List Cell) (k : ℕ) → is_mark_key m k ≡ false → (n i : ℕ) → mark_back m cs k n i ≡ None
unfolding is_mark_key mark_back mark_for
none_back m cs k e zero i = refl
none_back m cs k e (suc n) zero = refl
none_back m cs k e (suc n) (suc i) = rw (none_in (mark_rules m) (base_at cs i) k e) (none_back m cs k e n i)

pub mark_no_key : (m : InputMethod) (cs : List Cell) (k : ℕ) (v : Bool) → v ≡ is_mark_key m k → not v ≡ true → None ≡ mark_place m cs k
unfolding mark_place
mark_no_key m cs k v e t = sym (none_back m cs k (sym e ∙ not-true v t) 5 (length cs))

-- ---- the place: one of a cell whose base is in a rule with the key
pub record Marks (m : InputMethod) (cs : List Cell) (k i j : ℕ) : Type 0 where
  pub below : j < i
  pub rule : mark_for m (base_at cs j) k ≡ 0 → ⊥

back_marks : (m : InputMethod) (cs : List Cell) (k n i j : ℕ) → mark_back m cs k n i ≡ Some j → Marks m cs k i j
unfolding mark_back
back_marks m cs k zero i j e = let z : ◌≡◌ {A = ℕ} 0 1 = cc in absurd (omega arith)
back_marks m cs k (suc n) zero j e = let z : ◌≡◌ {A = ℕ} 0 1 = cc in absurd (omega arith)
back_marks m cs k (suc n) (suc i) j e =
    go (eqb (mark_for m (base_at cs i) k) 0) refl e (λ (f : mark_back m cs k n i ≡ Some j). back_marks m cs k n i j f)
  where
    go : (t : Bool) → eqb (mark_for m (base_at cs i) k) 0 ≡ t → pick t (mark_back m cs k n i) (Some i) ≡ Some j
        → (mark_back m cs k n i ≡ Some j → Marks m cs k i j) → Marks m cs k (suc i) j
    go true f e g = let r = g e in let l = r.below in record { below = omega arith; rule = r.rule }
    go false f e g = let d : i ≡ j = cc in record { below = omega arith; rule = rw d at (eqb-false (mark_for m (base_at cs i) k) 0 f) }

pub place_marks : (m : InputMethod) (cs : List Cell) (k j : ℕ) → mark_place m cs k ≡ Some j → Marks m cs k (length cs) j
unfolding mark_place
place_marks m cs k j e = back_marks m cs k 5 (length cs) j e

-- ---- cells and the row of their bases
back_same : (m : InputMethod) (cs : List Cell) (k n i : ℕ) → mark_back m (row_cells (bases cs)) k n i ≡ mark_back m cs k n i
unfolding mark_back
back_same m cs k zero i = refl
back_same m cs k (suc n) zero = refl
back_same m cs k (suc n) (suc i) = rw (same_base cs i, back_same m cs k n i) refl

pub mark_same : (m : InputMethod) (cs : List Cell) (k : ℕ) → mark_place m (row_cells (bases cs)) k ≡ mark_place m cs k
unfolding mark_place
mark_same m cs k = rw (same_length cs) (back_same m cs k 5 (length cs))
