-- "Dictionary order: code points compared from the left, a word before its extensions."
use Rattle.std.specs.Prelude.{ℕ, ◌<◌, ◌≡◌, ◌⊎◌, List, [], ◌∷◌}

abbrev pub Before : List ℕ → List ℕ → Type 0
Before u [] = ⊥
Before [] (y ∷ w) = Unit {0}
Before (x ∷ u) (y ∷ w) = (x < y) ⊎ ((x ≡ y) × Before u w)

abbrev pub AtMost : List ℕ → List ℕ → Type 0
AtMost u w = Before u w ⊎ (u ≡ w)
