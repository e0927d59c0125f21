-- The arms of a `match` on a number, and the last one, which knows that those before it did not fit.
use mathlib.Core.Path.{◌≡◌, refl, sym, ap, ◌∙◌}
use mathlib.Core.Bool.{Bool, true, false}
use Prim.Native.Nat.{ℕ}

-- an arm of one key: what is right at the key, by computation, is right
pub arm : {A : Type 0} (f : ℕ → A) (r : A) (x k : ℕ) → x ≡ k → r ≡ f k → r ≡ f x
arm f r x k h q = q ∙ ap f (sym h)

-- what fits where the test of the others does not
pub not_yes : (a b : Bool) → (a ≡ true → b ≡ true) → b ≡ false → a ≡ false
not_yes true b f e = sym (f refl) ∙ e
not_yes false b f e = refl
