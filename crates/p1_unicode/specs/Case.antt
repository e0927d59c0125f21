-- The simple case mappings of the Unicode Standard, by the pairs of Ucd: a code point of no pair maps to itself.
use Rattle.std.specs.Prelude.{ℕ, true, false, List, [], ◌∷◌, eqb}
use Rattle.p1_unicode.specs.Ucd.{Pair, case_pairs}

unfoldable pub small_in : List Pair → ℕ → ℕ
small_in [] x = x
small_in (p ∷ ps) x = elim (eqb x p.capital) [ true ↦ p.small | false ↦ small_in ps x ]

unfoldable pub capital_in : List Pair → ℕ → ℕ
capital_in [] x = x
capital_in (p ∷ ps) x = elim (eqb x p.small) [ true ↦ p.capital | false ↦ capital_in ps x ]

-- Simple_Lowercase_Mapping
unfoldable pub simple_lower : ℕ → ℕ
simple_lower x = small_in case_pairs x

-- Simple_Uppercase_Mapping
unfoldable pub simple_upper : ℕ → ℕ
simple_upper x = capital_in case_pairs x
