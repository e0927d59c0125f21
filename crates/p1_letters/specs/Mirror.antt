-- How the code holds things: no sentence of document 01 stands here, and no promise to a host leads here.
use Rattle.std.specs.Prelude.{ℕ, ◌/◌, ◌%◌, ◌^◌, Bool, List, Option, None, Some, eqb, get_or}
use Rattle.p0_choice.specs.Choice.{pick}
use Rattle.p1_letters.specs.Tones.{tone_column}

-- the column that a tone key asks for
unfoldable pub column_asked : ℕ → Option ℕ
column_asked t = pick (eqb (tone_column t) 0) None (Some (tone_column t))

-- the bit of a code point in blocks of 32, each a number; past them 0
unfoldable pub in_blocks : List ℕ → ℕ → Bool
in_blocks blocks x = eqb (get_or blocks (x / 32) 0 / 2 ^ (x % 32) % 2) 1
