-- What stands in a lent place after a composition was asked.
use Prim.Native.Nat.{ℕ}
use mathlib.Core.Path.{◌≡◌, refl}
use mathlib.Core.Bool.{Bool, true, false}
use mathlib.Core.List.{List}
use Rattle.p0_choice.specs.Choice.{pick}
use Rattle.p6_bytes.specs.Bytes.{bytes_sound}
use Rattle.p6_host.specs.CompositionCalls.{sound_out}

pub asked : (b : List ℕ) (n m old : ℕ) → (bytes_sound b ≡ false → n ≡ old) → (bytes_sound b ≡ true → n ≡ m) → n ≡ sound_out b m old
unfolding sound_out
asked b n m old f g = go (bytes_sound b) f g
  where
    go : (t : Bool) → (t ≡ false → n ≡ old) → (t ≡ true → n ≡ m) → n ≡ pick t m old
    go true f g = g refl
    go false f g = f refl
