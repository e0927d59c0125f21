-- Tests of two things, and of each of a list, taken apart and put together.
use Prim.Native.Nat.{ℕ, zero, suc, ◌+◌, ◌<◌, ◌≤◌}
use mathlib.Core.Path.{◌≡◌, refl}
use mathlib.Core.Bool.{Bool, true, false}
use mathlib.Core.List.{List, [], ◌∷◌, ◌++◌}
use mathlib.Core.Logic.{◌⊎◌, inl, inr}
use native.Mathlib.Omega.{arith}
use lib.Dec.{T}
use lib.ListN.{length, get_or, take, set}
use Rattle.p0_choice.specs.Choice.{pick, each, from}

pub both_are : (a b : Bool) → pick a b false ≡ true → (a ≡ true) × (b ≡ true)
both_are true b e = (refl, e)
both_are false b e = let z : ◌≡◌ {A = ℕ} 0 1 = cc in absurd (omega arith)

pub are_both : (a b : Bool) → a ≡ true → b ≡ true → pick a b false ≡ true
are_both a b p q = rw (p, q) refl

pub either_is : (a b : Bool) → pick a true b ≡ true → (a ≡ true) ⊎ (b ≡ true)
either_is true b e = inl refl
either_is false b e = inr e

pub is_either : (a b : Bool) → b ≡ true → pick a true b ≡ true
is_either true b e = refl
is_either false b e = e

pub holds : (b : Bool) → b ≡ true → T b
holds b e = rw e tt

-- ---- each of n numbers from i on
pub each_from : (p : ℕ → Bool) (n i : ℕ) → ((j : ℕ) → i ≤ j → j < i + n → p j ≡ true) → each p (from n i) ≡ true
each_from p zero i f = refl
each_from p (suc n) i f = rw (f i (omega arith) (omega arith)) (each_from p n (suc i) (λ j l h. f j (omega arith) (omega arith)))

-- ---- each of a list, by its places, and after a change
module _ {A : Type 0} (p : A → Bool) where
  pub each_at : (d : A) (xs : List A) → each p xs ≡ true → (i : ℕ) → i < length xs → p (get_or xs i d) ≡ true
  each_at d [] e i h = absurd (omega arith)
  each_at d (x ∷ xs) e zero h = (both_are (p x) (each p xs) e).0
  each_at d (x ∷ xs) e (suc i) h = each_at d xs (both_are (p x) (each p xs) e).1 i (omega arith)

  pub at_each : (d : A) (xs : List A) → ((i : ℕ) → i < length xs → p (get_or xs i d) ≡ true) → each p xs ≡ true
  at_each d [] f = refl
  at_each d (x ∷ xs) f = are_both (p x) (each p xs) (f 0 (omega arith)) (at_each d xs (λ i h. f (suc i) (omega arith)))

  pub each_set : (xs : List A) (i : ℕ) (x : A) → each p xs ≡ true → p x ≡ true → each p (set xs i x) ≡ true
  each_set [] i x e h = refl
  each_set (y ∷ ys) zero x e h = are_both (p x) (each p ys) h (both_are (p y) (each p ys) e).1
  each_set (y ∷ ys) (suc i) x e h =
      let q = both_are (p y) (each p ys) e in are_both (p y) (each p (set ys i x)) q.0 (each_set ys i x q.1 h)

  pub each_append : (xs : List A) (x : A) → each p xs ≡ true → p x ≡ true → each p (xs ++ (x ∷ [])) ≡ true
  each_append [] x e h = are_both (p x) true h refl
  each_append (y ∷ ys) x e h =
      let q = both_are (p y) (each p ys) e in are_both (p y) (each p (ys ++ (x ∷ []))) q.0 (each_append ys x q.1 h)

  pub each_take : (n : ℕ) (xs : List A) → each p xs ≡ true → each p (take n xs) ≡ true
  each_take zero xs e = refl
  each_take (suc n) [] e = refl
  each_take (suc n) (y ∷ ys) e =
      let q = both_are (p y) (each p ys) e in are_both (p y) (each p (take n ys)) q.0 (each_take n ys q.1)
