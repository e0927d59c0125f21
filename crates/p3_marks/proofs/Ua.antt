-- The ua step's place, as the code comes to it; that cells and the row of their bases have it in common; and where it can be.
use Rattle.std.specs.Prelude.{None, Some}
use Prim.Native.Nat.{ℕ, zero, suc, ◌-◌, ◌<◌, ◌≤◌}
use mathlib.Core.Path.{◌≡◌, refl}
use mathlib.Core.Bool.{Bool, true, false}
use mathlib.Core.List.{List}
use native.Mathlib.Omega.{arith}
use lib.Dec.{eqb, ltb}
use lib.ListN.{length, get_or}
use borrow.Author.Tests.{lt-ltb, ltb-false}
use Rattle.p0_choice.specs.Choice.{pick}
use Rattle.p1_letters.specs.Alphabet.{ascii_lower}
use Rattle.p3_cells.specs.declared.Cell.{Cell}
use Rattle.p3_cells.specs.Row.{bases}
use Rattle.p3_cells.specs.Mirror.{row_cells}
use Rattle.p3_cells.proofs.Row.{row_length}
use Rattle.p3_marks.specs.Uo.{base_at}
use Rattle.p3_marks.specs.Ua.{after_q, ua_place}
use Rattle.p3_marks.proofs.Base.{row_base, same_base, same_length}

after_q_lem : (row : List ℕ) (i : ℕ) → 2 ≤ i
    → after_q (row_cells row) (i - 2) ≡ pick (ltb 2 i) (eqb (ascii_lower (get_or row (i - 3) 0)) 113) false
unfolding after_q
after_q_lem row zero h = absurd (omega arith)
after_q_lem row (suc zero) h = absurd (omega arith)
after_q_lem row (suc (suc zero)) h = refl
after_q_lem row (suc (suc (suc i))) h =
    let a : suc (suc (suc i)) - 2 ≡ suc i = omega arith in
    let b : suc (suc (suc i)) - 3 ≡ i = omega arith in
    rw (a, b, lt-ltb 2 (suc (suc (suc i))) (omega arith), row_base row i) refl

-- what the code reads, in its order
pub ua_turn : (row : List ℕ) → ua_place (row_cells row)
    ≡ pick (ltb (length row) 2) None
    (pick (eqb (ascii_lower (get_or row (length row - 2) 0)) 117)
    (pick (eqb (ascii_lower (get_or row (length row - 1) 0)) 97)
    (pick (pick (ltb 2 (length row)) (eqb (ascii_lower (get_or row (length row - 3) 0)) 113) false) None (Some (length row - 2))) None) None)
unfolding ua_place
ua_turn row = rw (row_length row, row_base row (length row - 2), row_base row (length row - 1)) (go (ltb (length row) 2) refl)
  where
    go : (b : Bool) → ltb (length row) 2 ≡ b → pick b None
        (pick (eqb (ascii_lower (get_or row (length row - 2) 0)) 117)
        (pick (eqb (ascii_lower (get_or row (length row - 1) 0)) 97)
        (pick (after_q (row_cells row) (length row - 2)) None (Some (length row - 2))) None) None)
        ≡ pick b None
        (pick (eqb (ascii_lower (get_or row (length row - 2) 0)) 117)
        (pick (eqb (ascii_lower (get_or row (length row - 1) 0)) 97)
        (pick (pick (ltb 2 (length row)) (eqb (ascii_lower (get_or row (length row - 3) 0)) 113) false) None (Some (length row - 2))) None) None)
    go true e = refl
    go false e = rw (after_q_lem row (length row) (ltb-false (length row) 2 e)) refl

-- ---- the place: one of a cell
pub ua_below : (cs : List Cell) (j : ℕ) → ua_place cs ≡ Some j → j < length cs
unfolding ua_place
ua_below cs j e =
    go (ltb (length cs) 2) (eqb (base_at cs (length cs - 2)) 117) (eqb (base_at cs (length cs - 1)) 97) (after_q cs (length cs - 2)) refl e
  where
    go : (s a b q : Bool) → ltb (length cs) 2 ≡ s
        → pick s None (pick a (pick b (pick q None (Some (length cs - 2))) None) None) ≡ Some j → j < length cs
    go true a b q f e = let z : ◌≡◌ {A = ℕ} 0 1 = cc in absurd (omega arith)
    go false true true true f e = let z : ◌≡◌ {A = ℕ} 0 1 = cc in absurd (omega arith)
    go false true true false f e = let d : length cs - 2 ≡ j = cc in let l = ltb-false (length cs) 2 f in omega arith
    go false true false q f e = let z : ◌≡◌ {A = ℕ} 0 1 = cc in absurd (omega arith)
    go false false b q f e = let z : ◌≡◌ {A = ℕ} 0 1 = cc in absurd (omega arith)

-- ---- cells and the row of their bases
after_same : (cs : List Cell) (i : ℕ) → after_q (row_cells (bases cs)) i ≡ after_q cs i
unfolding after_q
after_same cs zero = refl
after_same cs (suc i) = rw (same_base cs i) refl

pub ua_same : (cs : List Cell) → ua_place (row_cells (bases cs)) ≡ ua_place cs
unfolding ua_place
ua_same cs = rw (same_length cs, same_base cs (length cs - 2), same_base cs (length cs - 1), after_same cs (length cs - 2)) refl
