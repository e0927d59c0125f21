-- The end of the input: what the line at hand prints.
use Prim.Native.Nat.{ℕ}
use mathlib.Core.Path.{◌≡◌, refl}
use mathlib.Core.List.{List, [], ◌∷◌}
use native.Mathlib.Omega.{arith}
use lib.ListN.{length}
use Rattle.p7_feed.specs.declared.Phase.{Phase}
use Rattle.p7_feed.specs.declared.Phase.TheVariants.{Start, Keys, Ended}
use Rattle.p7_feed.specs.Mirror.{end_out, finish_keys, finish_of}

-- an empty line prints nothing, but as the method line ..
pub finish_none : (p : Phase) (held : List ℕ) → length held ≡ 0 → (p ≡ Start → ⊥) → finish_of p held ≡ []
unfolding finish_of finish_keys
finish_none Start held z s = absurd (s refl)
finish_none (Keys m) [] z s = refl
finish_none (Keys m) (b ∷ l) z s = absurd (omega arith)
finish_none Ended held z s = refl

-- .. and any other what it prints where it ends
pub finish_some : (p : Phase) (held : List ℕ) → (length held ≡ 0 → p ≡ Start) → finish_of p held ≡ end_out p held
unfolding finish_of finish_keys end_out
finish_some Start held z = refl
finish_some (Keys m) [] z = let e : Keys m ≡ Start = z refl in let q : ◌≡◌ {A = ℕ} 0 1 = cc in absurd (omega arith)
finish_some (Keys m) (b ∷ l) z = refl
finish_some Ended held z = refl
