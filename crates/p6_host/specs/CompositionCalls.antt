-- "10: composition not sound", of bytes that may be any.
use Rattle.std.specs.Prelude.{ℕ, List}
use Rattle.p0_choice.specs.Choice.{pick}
use Rattle.p0_refusals.specs.Refusals.{number_of}
use Rattle.p0_refusals.specs.declared.Refusal.TheVariants.{Unsound}
use Rattle.p6_bytes.specs.Bytes.{bytes_sound}

unfoldable pub sound_code : List ℕ → ℕ
sound_code b = pick (bytes_sound b) 0 (number_of Unsound)

-- what then stands in the lent place: the number that is asked of the composition, or what stood there
unfoldable pub sound_out : List ℕ → ℕ → ℕ → ℕ
sound_out b n old = pick (bytes_sound b) n old
