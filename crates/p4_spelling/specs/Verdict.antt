-- Document 01, "Cut and verdict": which words are Vietnamese syllables.
use Rattle.std.specs.Prelude.{ℕ, Bool, true, false, List, [], ◌∷◌, map}
use Rattle.p0_choice.specs.Choice.{pick, among}
use Rattle.p0_choice.specs.Text.{word}
use Rattle.p1_letters.specs.Alphabet.{lower}
use Rattle.p1_letters.specs.Tones.{tone_off}
use Rattle.p4_rows.specs.Rows.{Word, onset_rows, vowel_rows, coda_rows, onset_to_vowels, vowels_to_coda}
use Rattle.p4_rows.specs.Lookup.{rows_of, in_rows, is_empty, go_together}
use Rattle.p4_spelling.specs.Cut.{onset_of, vowels_of, coda_of}

-- "f j w z"
unfoldable pub has_foreign : Word → Bool
has_foreign [] = false
has_foreign (x ∷ xs) = pick (among x (word "fjwz")) true (has_foreign xs)

-- "each part present must be listed"
unfoldable pub in_rows_if_any : List (List Word) → Word → Bool
in_rows_if_any rows part = pick (is_empty part) true (in_rows rows part)

-- the onset, with the rows that the vowels stand in: "The search over onset rows and vowel rows ends at the first pair
-- allowed." "No onset .. : that search passes."
unfoldable pub onset_fits : Word → List ℕ → Bool
onset_fits onset rows = pick (is_empty onset) true (go_together onset_to_vowels (rows_of onset_rows onset) rows)

-- "The coda has its own search over all vowel rows." "No .. coda: that search passes."
unfoldable pub coda_fits : List ℕ → Word → Bool
coda_fits rows coda = pick (is_empty coda) true (go_together vowels_to_coda rows (rows_of coda_rows coda))

-- "Otherwise each part present must be listed, and two matrices of row numbers say which rows go together."
unfoldable pub parts_fit : Word → Word → Word → Bool
parts_fit onset vowels coda =
    pick (in_rows_if_any onset_rows onset)
    (pick (in_rows vowel_rows vowels)
    (pick (in_rows_if_any coda_rows coda)
    (pick (onset_fits onset (rows_of vowel_rows vowels)) (coda_fits (rows_of vowel_rows vowels) coda) false)
    false)
    false)
    false

-- "No vowels: yes exactly if the onset is listed. Otherwise .."
unfoldable pub fits : Word → Bool
fits w =
    pick (is_empty (vowels_of w)) (in_rows onset_rows (onset_of w)) (parts_fit (onset_of w) (vowels_of w) (coda_of w))

unfoldable pub lowered : Word → Word
lowered w = map lower w

unfoldable pub toneless : Word → Word
toneless w = map tone_off w

-- "Verdict: lower-case; refuse f j w z; take tones off; cut."
unfoldable pub verdict : Word → Bool
verdict w = pick (has_foreign (lowered w)) false (fits (toneless (lowered w)))

-- "The longest has 8 letters."
abbrev pub longest_length : ℕ
longest_length = 8
