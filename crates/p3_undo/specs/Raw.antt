-- Document 01, undo: what it asks of the raw string, here "the lowered raw string".
use Rattle.std.specs.Prelude.{ℕ, zero, suc, ◌-◌, Bool, true, false, not, List, [], ◌∷◌, map, eqb, length, get_or, drop}
use Rattle.p0_choice.specs.Choice.{pick, among}
use Rattle.p0_choice.specs.Text.{word}
use Rattle.p1_letters.specs.Alphabet.{ascii_lower}

unfoldable pub raw_lowered : List ℕ → List ℕ
raw_lowered raw = map ascii_lower raw

-- "the raw string ends in t, either case"
unfoldable pub ends_in : List ℕ → ℕ → Bool
ends_in raw t = pick (eqb (length raw) 0) false (eqb (get_or raw (length raw - 1) 0) t)

-- the pattern a, t stands at place i
unfoldable pub pair_at : List ℕ → ℕ → ℕ → ℕ → Bool
pair_at raw a t i = pick (eqb (get_or raw i 0) a) (eqb (get_or raw (suc i) 0) t) false

-- where the last a, t among the first n letters ends; 0 for none
unfoldable pub last_end : List ℕ → ℕ → ℕ → ℕ → ℕ
last_end raw a t zero = 0
last_end raw a t (suc zero) = 0
last_end raw a t (suc (suc i)) = pick (pair_at raw a t i) (suc (suc i)) (last_end raw a t (suc i))

-- one "of a e i o u y"
unfoldable pub any_plain : List ℕ → Bool
any_plain [] = false
any_plain (x ∷ xs) = pick (among x (word "aeiouy")) true (any_plain xs)

-- "whose last occurrence in the lowered raw string has none of a e i o u y after it"
unfoldable pub active : List ℕ → ℕ → ℕ → Bool
active raw a t =
    pick (eqb (last_end raw a t (length raw)) 0) false (not (any_plain (drop (last_end raw a t (length raw)) raw)))
