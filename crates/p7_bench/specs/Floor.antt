-- The floor: a row of letters, at most as many as a composition has cells, and the text that they are copied to.
use Rattle.std.specs.Prelude.{ℕ, List, [], ◌∷◌, ◌++◌, eqb, ltb, length, drop, take}
use Rattle.p0_choice.specs.Choice.{pick}
use Rattle.p0_choice.specs.Text.{line_end}
use Rattle.p3_cells.specs.Cells.{limit}

pub record Sheet : Type 0 where
  pub row : List ℕ
  pub text : List ℕ

-- written from the start of the text, which stays as it was where they do not fit
unfoldable pub copied : List ℕ → List ℕ → List ℕ
copied row text = pick (ltb (length text) (length row)) text (row ++ drop (length row) text)

-- the place of the next letter, where so many are in the row
unfoldable pub free_place : ℕ → ℕ
free_place n = pick (ltb n limit) n 0

-- the row with the next letter
unfoldable pub longer : List ℕ → ℕ → List ℕ
longer row k = take (free_place (length row)) row ++ (k ∷ [])

-- a line end starts afresh
unfoldable pub lay : Sheet → ℕ → Sheet
lay s k =
    pick (eqb k line_end) (record { row = []; text = s.text })
    (record { row = longer s.row k; text = copied (longer s.row k) s.text })

unfoldable pub blank_sheet : List ℕ → Sheet
blank_sheet text = record { row = []; text = text }
