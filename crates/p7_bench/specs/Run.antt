-- A note is typed one key after the other.
use Rattle.std.specs.Prelude.{ℕ, List, [], ◌∷◌}

-- what the keys make of a state, each by the step f
unfoldable pub after_keys : {A : Type 0} → (A → ℕ → A) → A → List ℕ → A
after_keys f a [] = a
after_keys f a (k ∷ ks) = after_keys f (f a k) ks
