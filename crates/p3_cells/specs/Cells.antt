-- Document 01, "The alphabet and the numbers", second paragraph: the composition, and when it is sound.
use Rattle.std.specs.Prelude.{ℕ, zero, suc, ◌-◌, Bool, true, false, List, [], ◌∷◌, ◌++◌, eqb, ltb, leb, length, get_or, take}
use Rattle.p0_choice.specs.Choice.{pick, among, each, from}
use Rattle.p0_choice.specs.Text.{word}
use Rattle.p1_letters.specs.Alphabet.{in_alphabet, is_capital}
use Rattle.p3_cells.specs.declared.Cell.{Cell}
use Rattle.p3_cells.specs.declared.Composition.{Composition}
use Rattle.p3_cells.specs.declared.Settings.{Settings}

-- "A composition holds at most 32 cells"; request 2026-05: "Raise the limit to 96"
abbrev pub limit : ℕ
limit = 96

-- "blank (base 0, no mark, no tone, flag off)"
abbrev pub blank : Cell
blank = record { base = 0; mark = 0; tone = 0; upper = false }

unfoldable pub is_blank : Cell → Bool
is_blank x = pick (eqb x.base 0) (pick (eqb x.mark 0) (pick (eqb x.tone 0) (pick x.upper false true) false) false) false

-- "one of ă â ê ô ơ ư đ"
unfoldable pub marks : List ℕ
marks = word "ăâêôơưđ"

-- "one of f s r x j 1 2 3 4 5"
unfoldable pub tones : List ℕ
tones = word "fsrxj12345"

-- "base in the alphabet; mark absent, or equal to the base and one of [the marks]; tone absent or one of [the tones]"
unfoldable pub mark_fits : Cell → Bool
mark_fits x = pick (eqb x.mark 0) true (pick (eqb x.mark x.base) (among x.mark marks) false)

unfoldable pub tone_fits : Cell → Bool
tone_fits x = pick (eqb x.tone 0) true (among x.tone tones)

unfoldable pub is_cell : Cell → Bool
is_cell x = pick (in_alphabet x.base) (pick (mark_fits x) (tone_fits x) false) false

-- the cell at a place below the count is as above; "every cell past the count blank"
unfoldable pub fits_at : List Cell → ℕ → ℕ → Bool
fits_at cells n i = pick (ltb i n) (is_cell (get_or cells i blank)) (is_blank (get_or cells i blank))

-- "Sound: count at most" the limit, and every cell fits; "holds at most" so many: the array has a place for each, and no more
unfoldable pub is_sound : Composition → Bool
is_sound c =
    pick (eqb (length c.cells) limit) (pick (leb c.count limit) (each (fits_at c.cells c.count) (from limit 0)) false)
    false

-- *Append* "the letter as typed, flag on if capital": the cell of a letter
unfoldable pub typed : ℕ → Cell
typed ch = record { base = ch; mark = 0; tone = 0; upper = is_capital ch }

-- ---- the cells in use; a composition of settings and cells, "every cell past the count blank"; one that holds others instead
unfoldable pub used : Composition → List Cell
used c = take c.count c.cells

abbrev pub blanks : ℕ → List Cell
blanks zero = []
blanks (suc n) = blank ∷ blanks n

unfoldable pub composed : Settings → List Cell → Composition
composed s xs = record { cells = xs ++ blanks (limit - length xs); settings = s; count = length xs }

abbrev pub holding : Composition → List Cell → Composition
holding c xs = composed c.settings xs
