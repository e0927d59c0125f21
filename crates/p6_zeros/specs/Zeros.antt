-- Document 01, "Port order": "the composition as bytes in an order that docs/ states". Here a byte of them, and zeros.
use Rattle.std.specs.Prelude.{ℕ, Bool, List, eqb, get_or, replicate}

abbrev pub zeros : ℕ → List ℕ
zeros n = replicate {A = ℕ} n 0

abbrev pub byte_at : List ℕ → ℕ → ℕ
byte_at b i = get_or b i 0

unfoldable pub is_zero : List ℕ → ℕ → Bool
is_zero b i = eqb (byte_at b i) 0
