-- How the code holds things: no sentence of document 01 stands here, and no promise to a host leads here.
use Rattle.std.specs.Prelude.{ℕ, ◌+◌, ◌*◌, ◌-◌, Bool, List, length}
use Rattle.p0_choice.specs.Choice.{each, from}
use Rattle.p6_zeros.specs.Zeros.{byte_at, is_zero}

-- the n bytes from a place on are 0
unfoldable pub zero_in : List ℕ → ℕ → ℕ → Bool
zero_in b n i = each (is_zero b) (from n i)

-- each byte from a place on is 0
unfoldable pub zero_from : List ℕ → ℕ → Bool
zero_from b i = zero_in b (length b - i) i

-- eight bytes as one number, low byte first
unfoldable pub long_at : List ℕ → ℕ → ℕ
long_at b at =
    byte_at b at + byte_at b (at + 1) * 256 + byte_at b (at + 2) * 65536 + byte_at b (at + 3) * 16777216 + byte_at b (at + 4) * 4294967296
    + byte_at b (at + 5) * 1099511627776 + byte_at b (at + 6) * 281474976710656 + byte_at b (at + 7) * 72057594037927936
