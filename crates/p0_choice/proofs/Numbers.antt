-- Two numbers, compared.
use Prim.Native.Nat.{ℕ, ◌≤◌, ◌<◌}
use mathlib.Core.Path.{◌≡◌, refl}
use mathlib.Core.Logic.{◌⊎◌, inl, inr}
use mathlib.Core.Bool.{Bool, true, false}
use native.Mathlib.Omega.{arith}
use lib.Dec.{eqb, ltb}
use borrow.Author.Tests.{ltb-true, ltb-false, eqb-true, eqb-false}

-- a number is below another, or not; below, equal or above
pub below_or_not : (m n : ℕ) → (m < n) ⊎ (n ≤ m)
below_or_not m n = go (ltb m n) refl
  where
    go : (b : Bool) → ltb m n ≡ b → (m < n) ⊎ (n ≤ m)
    go true e = inl (ltb-true m n e)
    go false e = inr (ltb-false m n e)

pub three_ways : (m n : ℕ) → (m < n) ⊎ ((m ≡ n) ⊎ (n < m))
three_ways m n = go (eqb m n) refl (below_or_not m n)
  where
    go : (b : Bool) → eqb m n ≡ b → (m < n) ⊎ (n ≤ m) → (m < n) ⊎ ((m ≡ n) ⊎ (n < m))
    go true e h = inr (inl (eqb-true m n e))
    go false e (inl h) = inl h
    go false e (inr h) = inr (inr (let d : (m ≡ n → ⊥) = eqb-false m n e in omega arith))
