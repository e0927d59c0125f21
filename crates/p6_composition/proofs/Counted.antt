-- The count of a composition is how many letters its text has: with so much room the text is written, and with less it is
-- refused by 3.
use Rattle.std.specs.Prelude.{Err, Ok}
use Prim.Native.Nat.{ℕ, ◌≤◌, ◌<◌}
use mathlib.Core.Path.{◌≡◌, refl, sym}
use mathlib.Core.Bool.{true}
use mathlib.Core.List.{List}
use Rattle.p0_refusals.specs.declared.Refusal.TheVariants.{Short}
use Rattle.p3_calls.proofs.Output.{text_short, text_done}
use Rattle.p6_bytes.specs.Bytes.{composition_of, bytes_sound}
use Rattle.p6_bytes.proofs.Sound.{sound_composition}
use Rattle.p6_composition.specs.Calls.{text_on}

module _ (b : List ℕ) (s : bytes_sound b ≡ true) (n : ℕ) where
  pub text_refused : n < (composition_of b).count → text_on b n ≡ Err Short
  unfolding text_on
  text_refused l = rw s (sym (text_short (composition_of b) true (sym (sound_composition b s)) refl n l))

  pub text_counted : (composition_of b).count ≤ n → text_on b n ≡ Ok (composition_of b).count
  unfolding text_on
  text_counted l = rw s (sym (text_done (composition_of b) true (sym (sound_composition b s)) refl n (composition_of b).count l refl))
