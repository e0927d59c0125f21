-- The numbers that sound bytes spell: each setting, and the count, is one byte, so that no cell is read for them.
use Prim.Native.Nat.{ℕ}
use mathlib.Core.Path.{◌≡◌, sym, ◌∙◌}
use mathlib.Core.Bool.{true}
use mathlib.Core.List.{List}
use Rattle.p6_bytes.specs.Bytes.{method_byte, mode_byte, flag_byte, composition_of, bytes_sound}
use Rattle.p6_zeros.specs.Zeros.{byte_at}
use Rattle.p6_bytes.proofs.Sound.{sound_method, sound_mode, sound_capitals}
use Rattle.p6_bytes.proofs.Round.{method_forth, mode_forth, flag_forth}

module _ (b : List ℕ) (s : bytes_sound b ≡ true) (n : ℕ) where
  pub method_field : n ≡ byte_at b 0 → n ≡ method_byte (composition_of b).settings.method
  unfolding composition_of
  method_field e = e ∙ sym (method_forth (byte_at b 0) (sound_method b s))

  pub mode_field : n ≡ byte_at b 1 → n ≡ mode_byte (composition_of b).settings.mode
  unfolding composition_of
  mode_field e = e ∙ sym (mode_forth (byte_at b 1) (sound_mode b s))

  pub capitals_number_field : n ≡ byte_at b 3 → n ≡ flag_byte (composition_of b).settings.capitals
  unfolding composition_of
  capitals_number_field e = e ∙ sym (flag_forth (byte_at b 3) (sound_capitals b s))
