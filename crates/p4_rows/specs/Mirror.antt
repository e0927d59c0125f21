-- How the code holds things: no sentence of document 01 stands here, and no promise to a host leads here.
-- What the code stands on: a part's letters as one number, the rows as such numbers, and a matrix as yes and no.
use Rattle.std.specs.Prelude.{ℕ, suc, ◌+◌, ◌*◌, Bool, false, List, [], ◌∷◌, map, ltb, get_or}
use Rattle.std.specs.List.{list_any}
use Rattle.p0_choice.specs.Choice.{pick, among}
use Rattle.p4_rows.specs.Rows.{Word, onset_rows, vowel_rows, coda_rows}

-- a letter beyond U+FFFF
abbrev pub is_high : ℕ → Bool
is_high x = ltb 0xffff x

-- four hexadecimal digits a letter, then the number of letters; 0 for no letter and for over three
abbrev pub packed : Word → ℕ
packed [] = 0
packed (a ∷ []) = a * 0x10 + 1
packed (a ∷ b ∷ []) = (a * 0x10000 + b) * 0x10 + 2
packed (a ∷ b ∷ c ∷ []) = ((a * 0x10000 + b) * 0x10000 + c) * 0x10 + 3
packed (a ∷ b ∷ c ∷ d ∷ w) = 0

-- so, and 0 too with a letter beyond U+FFFF
unfoldable pub key_of : Word → ℕ
key_of w = pick (list_any is_high w) 0 (packed w)

unfoldable pub key_rows : List (List Word) → List (List ℕ)
key_rows rows = map (λ (r : List Word). map key_of r) rows

unfoldable pub onset_keys : List (List ℕ)
onset_keys = key_rows onset_rows

unfoldable pub vowel_keys : List (List ℕ)
vowel_keys = key_rows vowel_rows

unfoldable pub coda_keys : List (List ℕ)
coda_keys = key_rows coda_rows

-- the numbers of the rows that have the key, where the first row's is i
unfoldable pub rows_on_from : ℕ → List (List ℕ) → ℕ → List ℕ
rows_on_from i [] k = []
rows_on_from i (r ∷ rs) k = pick (among k r) (i ∷ rows_on_from (suc i) rs k) (rows_on_from (suc i) rs k)

unfoldable pub rows_on : List (List ℕ) → ℕ → List ℕ
rows_on rows k = rows_on_from 0 rows k

-- the matrix as yes and no: what it has for row i and column j; no where it has not both
abbrev pub entry : List (List Bool) → ℕ → ℕ → Bool
entry m i j = get_or (get_or m i []) j false

-- some row of is goes with some row of js
abbrev pub any_entry : List (List Bool) → List ℕ → List ℕ → Bool
any_entry m is js = list_any (λ i. list_any (entry m i) js) is
