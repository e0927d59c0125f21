-- What a branch of the code shows picks the side: one law for each way that a test can go, for the two sides of an
-- equation `r ≡ pick t a b`. `search picks` closes a return by the tests on the way to it, `search calls` also where
-- a test is a callee's answer.
use mathlib.Core.Path.{◌≡◌, refl, sym, ◌∙◌}
use mathlib.Core.Bool.{Bool, true, false, not}
use Prim.Native.Nat.{ℕ, ◌<◌, ◌≤◌}
use lib.Dec.{ltb, leb, eqb}
use borrow.Author.Tests.{lt-ltb, le-ltb, le-leb, lt-leb, eq-eqb, ne_eqb, not-true, not-false}
use Rattle.p0_choice.specs.Choice.{pick}

pub pick_true : {A : Type 0} (t : Bool) (r a b : A) → t ≡ true → r ≡ a → r ≡ pick t a b
pick_true t r a b e h = rw e h

pub pick_false : {A : Type 0} (t : Bool) (r a b : A) → t ≡ false → r ≡ b → r ≡ pick t a b
pick_false t r a b e h = rw e h

pub pick_lt : {A : Type 0} (x n : ℕ) (r a b : A) → x < n → r ≡ a → r ≡ pick (ltb x n) a b
pick_lt x n r a b l h = pick_true _ r a b (lt-ltb x n l) h

pub pick_not_lt : {A : Type 0} (x n : ℕ) (r a b : A) → n ≤ x → r ≡ b → r ≡ pick (ltb x n) a b
pick_not_lt x n r a b l h = pick_false _ r a b (le-ltb x n l) h

pub pick_le : {A : Type 0} (x n : ℕ) (r a b : A) → x ≤ n → r ≡ a → r ≡ pick (leb x n) a b
pick_le x n r a b l h = pick_true _ r a b (le-leb x n l) h

pub pick_not_le : {A : Type 0} (x n : ℕ) (r a b : A) → n < x → r ≡ b → r ≡ pick (leb x n) a b
pick_not_le x n r a b l h = pick_false _ r a b (lt-leb x n l) h

pub pick_eq : {A : Type 0} (x n : ℕ) (r a b : A) → x ≡ n → r ≡ a → r ≡ pick (eqb x n) a b
pick_eq x n r a b l h = pick_true _ r a b (eq-eqb x n l) h

pub pick_ne : {A : Type 0} (x n : ℕ) (r a b : A) → (x ≡ n → ⊥) → r ≡ b → r ≡ pick (eqb x n) a b
pick_ne x n r a b l h = pick_false _ r a b (ne_eqb x n l) h

pub ruleset picks = (refl, pick_lt, pick_not_lt, pick_le, pick_not_le, pick_eq, pick_ne, pick_true, pick_false)

-- the test is a callee's answer s, of which its contract says what it is
pub call_true : {A : Type 0} (s t : Bool) (r a b : A) → s ≡ t → s ≡ true → r ≡ a → r ≡ pick t a b
call_true s t r a b e h q = pick_true t r a b (sym e ∙ h) q

pub call_false : {A : Type 0} (s t : Bool) (r a b : A) → s ≡ t → s ≡ false → r ≡ b → r ≡ pick t a b
call_false s t r a b e h q = pick_false t r a b (sym e ∙ h) q

pub call_not : {A : Type 0} (s t : Bool) (r a b : A) → s ≡ t → not s ≡ true → r ≡ b → r ≡ pick t a b
call_not s t r a b e h q = pick_false t r a b (sym e ∙ not-true s h) q

pub call_not_not : {A : Type 0} (s t : Bool) (r a b : A) → s ≡ t → not s ≡ false → r ≡ a → r ≡ pick t a b
call_not_not s t r a b e h q = pick_true t r a b (sym e ∙ not-false s h) q

pub ruleset calls = (picks, call_true, call_false, call_not, call_not_not)

-- a fact of both sides is one of the choice; each side may use how the test went
pub pick_both : {A : Type 0} (P : A → Type 0) (t : Bool) (a b : A) → (t ≡ true → P a) → (t ≡ false → P b) → P (pick t a b)
pick_both P true a b f g = f refl
pick_both P false a b f g = g refl
