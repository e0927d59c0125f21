-- Document 01, "A key, step by step", *uo*.
use Rattle.std.specs.Prelude.{ℕ, zero, suc, Bool, false, List, eqb, length, get_or, set, None, Option, Some}
use Prim.Native.Char.{code}
use Rattle.p0_choice.specs.Choice.{pick}
use Rattle.p1_letters.specs.Alphabet.{ascii_lower}
use Rattle.p1_letters.specs.Vowels.{is_vowel}
use Rattle.p3_cells.specs.Cells.{blank}
use Rattle.p3_cells.specs.declared.Cell.{Cell}

-- "every base .. read, in ASCII lower case"
unfoldable pub base_at : List Cell → ℕ → ℕ
base_at cs i = ascii_lower (get_or cs i blank).base

-- "From the last cell back, at most 5 cells and never the first cell, by base: an o after a u makes the pair .. Any other
-- vowel ends the step." With i cells at hand, of which the last is looked at, n more may be; the place is the u's.
unfoldable pub uo_back : List Cell → ℕ → ℕ → Option ℕ
uo_back cs zero i = None
uo_back cs (suc n) zero = None
uo_back cs (suc n) (suc zero) = None
uo_back cs (suc n) (suc (suc i)) =
    pick (eqb (base_at cs (suc i)) (code "o")) (pick (eqb (base_at cs i) (code "u")) (Some i) None)
    (pick (is_vowel (base_at cs (suc i))) None (uo_back cs n (suc i)))

unfoldable pub uo_place : List Cell → Option ℕ
uo_place cs = uo_back cs 5 (length cs)

-- "ư takes the o's tone and the u's flag; ơ has no tone and no flag; the u's tone is lost."
unfoldable pub horn_u : Cell → Cell → Cell
horn_u u o = record { base = code "ư"; mark = code "ư"; tone = o.tone; upper = u.upper }

-- request 2026-01, with capitals on: "in the uo step ơ keeps the o's own flag"
unfoldable pub horn_o : Bool → Cell → Cell
horn_o capitals o = record { base = code "ơ"; mark = code "ơ"; tone = 0; upper = pick capitals o.upper false }

-- each of the two is made of the cells that stood
unfoldable pub uo_made : Bool → List Cell → ℕ → List Cell
uo_made capitals cs i =
    set (set cs (suc i) (horn_o capitals (get_or cs (suc i) blank))) i (horn_u (get_or cs i blank) (get_or cs (suc i) blank))
