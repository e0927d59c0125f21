-- The rows that a part of a word stands in, and which rows go together (document 01, "Cut and verdict").
use Rattle.std.specs.Prelude.{ℕ, suc, Bool, true, false, List, [], ◌∷◌, eqb, get_or}
use Rattle.p0_choice.specs.Choice.{pick, among}
use Rattle.p4_rows.specs.Rows.{Word}

-- the two words are one
unfoldable pub same_word : Word → Word → Bool
same_word [] [] = true
same_word [] (y ∷ ys) = false
same_word (x ∷ xs) [] = false
same_word (x ∷ xs) (y ∷ ys) = pick (eqb x y) (same_word xs ys) false

-- the word is one of the list
unfoldable pub in_list : Word → List Word → Bool
in_list w [] = false
in_list w (r ∷ rs) = pick (same_word w r) true (in_list w rs)

-- the numbers of the rows that have the word, where the first row's is i
unfoldable pub rows_from : ℕ → List (List Word) → Word → List ℕ
rows_from i [] w = []
rows_from i (r ∷ rs) w = pick (in_list w r) (i ∷ rows_from (suc i) rs w) (rows_from (suc i) rs w)

-- "Rows count from 0"
unfoldable pub rows_of : List (List Word) → Word → List ℕ
rows_of rows w = rows_from 0 rows w

abbrev pub is_empty : {A : Type 0} → List A → Bool
is_empty [] = true
is_empty (x ∷ xs) = false

-- a part is listed if it stands in some row
unfoldable pub in_rows : List (List Word) → Word → Bool
in_rows rows w = pick (is_empty (rows_of rows w)) false true

-- "two matrices of row numbers say which rows go together": row i with row j, with one of the rows js, one of is with one of js
unfoldable pub allows : List (List ℕ) → ℕ → ℕ → Bool
allows m i j = among j (get_or m i [])

unfoldable pub allows_any : List (List ℕ) → ℕ → List ℕ → Bool
allows_any m i [] = false
allows_any m i (j ∷ js) = pick (allows m i j) true (allows_any m i js)

unfoldable pub go_together : List (List ℕ) → List ℕ → List ℕ → Bool
go_together m [] js = false
go_together m (i ∷ is) js = pick (allows_any m i js) true (go_together m is js)
