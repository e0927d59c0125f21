-- A listed part is one of all the parts of the rows; row numbers are below the number of rows.
use Prim.Native.Nat.{ℕ, suc}
use mathlib.Core.Path.{◌≡◌, refl}
use mathlib.Core.Bool.{Bool, true, false}
use mathlib.Core.List.{List, [], ◌∷◌, ◌++◌}
use lib.Dec.{T}
use Rattle.p0_choice.specs.Choice.{pick}
use Rattle.p4_rows.specs.Rows.{Word}
use Rattle.p4_rows.specs.Lookup.{same_word, in_list, rows_from, rows_of, is_empty, in_rows}
use Rattle.p4_rows.proofs.Words.{in_left, in_right, either_second}

-- all the parts of the rows, and the empty one
unfoldable pub row_words : List (List Word) → List Word
row_words [] = []
row_words (r ∷ rs) = r ++ row_words rs

unfoldable pub parts : List (List Word) → List Word
parts rows = [] ∷ row_words rows

row_in : (i : ℕ) (rows : List (List Word)) (w : Word) → T (pick (is_empty (rows_from i rows w)) false true) → T (in_list w (row_words rows))
unfolding rows_from row_words
row_in i [] w t = absurd t
row_in i (r ∷ rs) w t = go (in_list w r) refl t (λ q. row_in (suc i) rs w q)
  where
    go : (b : Bool) → in_list w r ≡ b → T (pick (is_empty (pick b (i ∷ rows_from (suc i) rs w) (rows_from (suc i) rs w))) false true)
        → (T (pick (is_empty (rows_from (suc i) rs w)) false true) → T (in_list w (row_words rs))) → T (in_list w (r ++ row_words rs))
    go true e q f = in_left w r (row_words rs) (rw e tt)
    go false e q f = in_right w r (row_words rs) (f q)

pub listed_in : (rows : List (List Word)) (w : Word) → T (in_rows rows w) → T (in_list w (parts rows))
unfolding in_rows rows_of parts in_list
listed_in rows w t = either_second (same_word w []) (in_list w (row_words rows)) (row_in 0 rows w t)

pub empty_in : (rows : List (List Word)) → T (in_list [] (parts rows))
unfolding parts in_list same_word
empty_in rows = tt
