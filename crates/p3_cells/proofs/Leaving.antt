-- What a call leaves, given what it has to write; and what holds of the composition that it leaves.
use Rattle.std.specs.Prelude.{Err, Ok, Result}
use Prim.Native.Nat.{ℕ, ◌<◌, ◌≤◌}
use mathlib.Core.Path.{◌≡◌, refl}
use mathlib.Core.List.{List, []}
use native.Mathlib.Omega.{arith}
use lib.ListN.{length}
use Rattle.p0_refusals.specs.Answers.{Outcome, writes, refuses, answer}
use Rattle.p0_refusals.specs.declared.Refusal.{Refusal}
use Rattle.p0_refusals.specs.declared.Refusal.TheVariants.{Short}
use Rattle.p0_refusals.proofs.Answers.{refuses_answer, short_answer, writes_answer}
use Rattle.p3_cells.specs.declared.Composition.{Composition}
use Rattle.p3_cells.specs.declared.After.{After}
use Rattle.p3_cells.specs.Leaving.{leaving, refusing}

-- the composition is c before, and d where the call is done; n places are lent
module _ (w : Outcome) (c d : Composition) (n : ℕ) where
  pub leaving_refused : (r : Refusal) (k : After) → w ≡ refuses r → k ≡ refusing c r → k ≡ leaving (answer w n) c d
  unfolding leaving
  leaving_refused r k q e = rw (← refuses_answer w r q n) e

  pub leaving_short : (xs : List ℕ) (k : After) → w ≡ writes xs → n < length xs → k ≡ refusing c Short → k ≡ leaving (answer w n) c d
  unfolding leaving
  leaving_short xs k q h e = rw (← short_answer w xs q n h) e

  pub leaving_done : (xs : List ℕ) (e : Composition) (k : ℕ) → w ≡ writes xs → length xs ≤ n → k ≡ length xs → e ≡ d
      → record { comp = e; answer = Ok k } ≡ leaving (answer w n) c d
  unfolding leaving
  leaving_done xs e k q h l f = rw (← writes_answer w xs q n k h l, f) refl

  -- a call that writes nothing
  pub leaving_nothing : (e : Composition) → w ≡ writes [] → e ≡ d → record { comp = e; answer = Ok 0 } ≡ leaving (answer w n) c d
  leaving_nothing e q f = leaving_done [] e 0 q (omega arith) refl f

pub ruleset leaves = (leaving_refused, leaving_short, leaving_done, leaving_nothing)

-- where a call is done, what it makes is what it leaves
pub done_leaves : (a : Result ℕ Refusal) (c d : Composition) (k : ℕ) → (leaving a c d).answer ≡ Ok k → (leaving a c d).comp ≡ d
unfolding leaving
done_leaves a c d k e = rw e refl

-- what holds of the composition before, and of that of a call that is done, holds after
pub leaving_keeps : (P : Composition → Type 0) (a : Result ℕ Refusal) (c d : Composition) → P c → ((n : ℕ) → a ≡ Ok n → P d)
    → P (leaving a c d).comp
unfolding leaving
leaving_keeps P (Ok n) c d old new = new n refl
leaving_keeps P (Err r) c d old new = old
