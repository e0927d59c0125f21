-- `last_end` is the end of the last occurrence: the pattern stands there, and nowhere later.
use Prim.Native.Nat.{ℕ, zero, suc, ◌<◌, ◌≤◌}
use mathlib.Core.Path.{◌≡◌, refl}
use mathlib.Core.Bool.{Bool, true, false}
use mathlib.Core.List.{List}
use mathlib.Core.Logic.{⊎_elim}
use native.Mathlib.Omega.{arith}
use native.Mathlib.Nat.{eq-or-lt_of_le}
use Rattle.p0_choice.specs.Choice.{pick}
use Rattle.p3_undo.specs.Raw.{pair_at, last_end}

-- no place from i on, with both letters among the first n, has the pattern
abbrev pub NoneFrom : List ℕ → ℕ → ℕ → ℕ → ℕ → Type 0
NoneFrom raw a t i n = (j : ℕ) → i ≤ j → suc j < n → pair_at raw a t j ≡ false

-- e is 0 and the pattern stands nowhere, or it ends at e and stands nowhere later
abbrev pub LastAt : List ℕ → ℕ → ℕ → ℕ → ℕ → Type 0
LastAt raw a t n zero = NoneFrom raw a t 0 n
LastAt raw a t n (suc zero) = ⊥
LastAt raw a t n (suc (suc r)) = (suc r < n) × (pair_at raw a t r ≡ true) × NoneFrom raw a t (suc r) n

module _ (raw : List ℕ) (a t : ℕ) where
  none_more : (i n : ℕ) → pair_at raw a t n ≡ false → NoneFrom raw a t i (suc n) → NoneFrom raw a t i (suc (suc n))
  none_more i n e f j l h =
      ⊎_elim (λ (q : j ≡ n). rw q e) (λ (q : j < n). f j l (omega arith)) (eq-or-lt_of_le (omega arith))

  last_more : (n e : ℕ) → pair_at raw a t n ≡ false → LastAt raw a t (suc n) e → LastAt raw a t (suc (suc n)) e
  last_more n zero p f = none_more 0 n p f
  last_more n (suc zero) p f = f
  last_more n (suc (suc r)) p f = (omega (arith, f.0), f.1, none_more (suc r) n p f.2)

  pub last_end_is : (n : ℕ) → LastAt raw a t n (last_end raw a t n)
  unfolding last_end
  last_end_is zero = λ j l h. absurd (omega arith)
  last_end_is (suc zero) = λ j l h. absurd (omega arith)
  last_end_is (suc (suc i)) = go (pair_at raw a t i) refl (last_end_is (suc i))
    where
      go : (b : Bool) → pair_at raw a t i ≡ b → LastAt raw a t (suc i) (last_end raw a t (suc i))
          → LastAt raw a t (suc (suc i)) (pick b (suc (suc i)) (last_end raw a t (suc i)))
      go true p f = (omega arith, p, λ j l h. absurd (omega arith))
      go false p f = last_more i (last_end raw a t (suc i)) p f
