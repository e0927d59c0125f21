-- A loop over the keys: what is still to come makes of the state at hand what all keys make of the first.
use Prim.Native.Nat.{ℕ, ◌+◌, ◌≤◌, ◌<◌}
use mathlib.Core.Path.{◌≡◌, refl, sym, ◌∙◌}
use mathlib.Core.List.{List, []}
use native.Mathlib.Omega.{arith}
use native.Mathlib.Numerals.{add-one}
use lib.ListN.{length, drop, get_or}
use lib.Seq.{drop-cons, drop-length}
use Rattle.p7_bench.specs.Run.{after_keys}

pub record Run {A : Type 0} (f : A → ℕ → A) (start : A) (keys : List ℕ) (a : A) (i : ℕ) : Type 0 where
  pub within : i ≤ length keys
  pub is : after_keys f a (drop i keys) ≡ after_keys f start keys

module _ {A : Type 0} (f : A → ℕ → A) (start : A) (keys : List ℕ) where
  pub run_start : Run f start keys start 0
  run_start = record { within = omega arith; is = refl }

  pub run_more : (a b : A) (i : ℕ) → i < length keys → b ≡ f a (get_or keys i 0) → Run f start keys a i → Run f start keys b (i + 1)
  unfolding after_keys
  run_more a b i h e r = record {
    within = omega arith;
    is = rw (e, add-one) (sym (rw (drop-cons keys i 0 h) refl) ∙ r.is);
  }

  pub run_end : (a : A) (i : ℕ) → length keys ≤ i → Run f start keys a i → a ≡ after_keys f start keys
  unfolding after_keys
  run_end a i h r =
      let e : i ≡ length keys = omega (arith, r.within) in
      let d : drop i keys ≡ [] = rw e (drop-length keys) in
      rw d at r.is
