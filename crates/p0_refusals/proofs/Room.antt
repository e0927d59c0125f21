-- With room for all that a call can have to write, it never refuses by 3.
use Rattle.std.specs.Prelude.{Err}
use Prim.Native.Nat.{ℕ, ◌≤◌}
use mathlib.Core.Path.{◌≡◌}
use native.Mathlib.Omega.{arith}
use lib.ListN.{length}
use borrow.Author.Tests.{le-ltb}
use Rattle.p0_refusals.specs.declared.Refusal.TheVariants.{Short}
use Rattle.p0_refusals.specs.Answers.{Outcome, writes, refuses, answer}

-- what is written has at most m letters or bytes, and no other refusal is 3
abbrev pub Fits : ℕ → Outcome → Type 0
Fits m (writes xs) = length xs ≤ m
Fits m (refuses r) = r ≡ Short → ⊥

pub enough : (u : Outcome) (m n : ℕ) → Fits m u → m ≤ n → answer u n ≡ Err Short → ⊥
unfolding answer
enough (writes xs) m n f l e =
    let h = rw (le-ltb n (length xs) (omega arith)) at e in let z : ◌≡◌ {A = ℕ} 0 1 = cc in omega arith
enough (refuses r) m n f l e = f (cc)
