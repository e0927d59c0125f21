-- Two words are the same letter by letter, as `==` compares them.
use Rattle.std.specs.Cmp.Lexicographic.{pointwise}
use Prim.Native.Nat.{ℕ}
use mathlib.Core.Path.{◌≡◌, refl}
use mathlib.Core.Bool.{Bool, true, false, ◌&&◌}
use mathlib.Core.List.{List, [], ◌∷◌}
use lib.Dec.{eqb}
use Rattle.p0_choice.specs.Choice.{pick}
use Rattle.p0_choice.proofs.Choices.{calls}
use Rattle.p4_rows.specs.Lookup.{same_word}

pub same_is : (a b : List ℕ) → pointwise eqb a b ≡ same_word a b
unfolding same_word
same_is [] [] = refl
same_is [] (y ∷ b) = refl
same_is (x ∷ a) [] = refl
same_is (x ∷ a) (y ∷ b) = go (eqb x y) (same_is a b)
  where
    go : (t : Bool) → pointwise eqb a b ≡ same_word a b → (t && pointwise eqb a b) ≡ pick t (same_word a b) false
    go true e = e
    go false e = refl

pub ruleset namings = (same_is, calls)
