-- Document 01, "A key, step by step", *Tone*: which cell takes the tone.
use Rattle.std.specs.Prelude.{ℕ, ◌+◌, ◌-◌, Bool, true, false, List, [], ◌∷◌, eqb, ltb, length, get_or, drop}
use Rattle.p0_choice.specs.Choice.{pick}
use Rattle.p0_choice.specs.Text.{words}
use Rattle.p1_letters.specs.Alphabet.{is_separator, ascii_lower}
use Rattle.p1_letters.specs.Vowels.{is_vowel}
use Rattle.p3_cells.specs.Cells.{blank}
use Rattle.p3_cells.specs.Text.{letter_of}
use Rattle.p3_cells.specs.declared.Cell.{Cell}

-- "k the key, and every base and letter read, in ASCII lower case"
unfoldable pub low_letter : Cell → ℕ
low_letter x = ascii_lower (letter_of x)

unfoldable pub low_base : Cell → ℕ
low_base x = ascii_lower x.base

-- "any cell's letter in the whole composition (mark, else base) is a composer vowel"
unfoldable pub any_vowel : List Cell → Bool
any_vowel [] = false
any_vowel (x ∷ xs) = pick (is_vowel (letter_of x)) true (any_vowel xs)

-- "white space or . , ! ? ; : cell"
unfoldable pub separates : Cell → Bool
separates x = is_separator (letter_of x)

unfoldable pub any_separates : List Cell → Bool
any_separates [] = false
any_separates (x ∷ xs) = pick (separates x) true (any_separates xs)

-- "The last syllable is what follows the last [such] cell."
unfoldable pub last_syllable : List Cell → List Cell
last_syllable [] = []
last_syllable (x ∷ xs) = pick (any_separates xs) (last_syllable xs) (pick (separates x) xs (x ∷ xs))

-- where it starts
unfoldable pub syllable_start : List Cell → ℕ
syllable_start cs = length cs - length (last_syllable cs)

-- the places of its vowels, the first cell at hand being at place i
unfoldable pub vowel_places : ℕ → List Cell → List ℕ
vowel_places i [] = []
vowel_places i (x ∷ xs) = pick (is_vowel (letter_of x)) (i ∷ vowel_places (i + 1) xs) (vowel_places (i + 1) xs)

-- two letters that are one of these words
unfoldable pub pair_in : List (List ℕ) → ℕ → ℕ → Bool
pair_in [] a b = false
pair_in (w ∷ ws) a b = pick (eqb a (get_or w 0 0)) (pick (eqb b (get_or w 1 0)) true (pair_in ws a b)) (pair_in ws a b)

-- "the bases read q u or g i"
unfoldable pub gliding_pair : ℕ → ℕ → Bool
gliding_pair a b = pair_in (words "qu gi") a b

unfoldable pub glides : List Cell → Bool
glides s = gliding_pair (low_base (get_or s 0 blank)) (low_base (get_or s 1 blank))

-- "With two or more, where the first stands second in the syllable, and the bases read q u or g i, drop that first."
unfoldable pub kept : ℕ → List Cell → List ℕ → List ℕ
kept start s vs =
    pick (ltb (length vs) 2) vs (pick (eqb (get_or vs 0 0) (start + 1)) (pick (glides s) (drop 1 vs) vs) vs)

-- "oa oe uy iê yê uô ươ io uâ uê uơ"
unfoldable pub rising_pair : ℕ → ℕ → Bool
rising_pair a b = pair_in (words "oa oe uy iê yê uô ươ io uâ uê uơ") a b

unfoldable pub rises : Cell → Cell → Bool
rises x y = rising_pair (low_letter x) (low_letter y)

-- "One left: it. Else, if the last two are [these]: the last. Else the second of three or more, the first of two."
unfoldable pub chosen : List Cell → List ℕ → ℕ
chosen cs vs =
    pick (eqb (length vs) 1) (get_or vs 0 0)
    (pick (rises (get_or cs (get_or vs (length vs - 2) 0) blank) (get_or cs (get_or vs (length vs - 1) 0) blank)) (get_or vs (length vs - 1) 0)
    (pick (ltb (length vs) 3) (get_or vs 0 0) (get_or vs 1 0)))

-- "With no vowel in it, the composition's last cell takes the tone."
unfoldable pub place_of : List Cell → ℕ → List Cell → List ℕ → ℕ
place_of cs start s [] = length cs - 1
place_of cs start s (v ∷ vs) = chosen cs (kept start s (v ∷ vs))

-- the cell of the composition that takes the tone
unfoldable pub tone_place : List Cell → ℕ
tone_place cs = place_of cs (syllable_start cs) (last_syllable cs) (vowel_places (syllable_start cs) (last_syllable cs))
