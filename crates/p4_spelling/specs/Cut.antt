-- Document 01, "Cut and verdict": a word cut into onset, vowels and coda. "No case folding here."
use Rattle.std.specs.Prelude.{ℕ, suc, ◌+◌, Bool, false, [], ◌∷◌, take, drop}
use Rattle.p0_choice.specs.Choice.{pick}
use Rattle.p0_choice.specs.Text.{words}
use Rattle.p1_letters.specs.Vowels.{is_spelling_vowel}
use Rattle.p4_rows.specs.Rows.{Word}
use Rattle.p4_rows.specs.Lookup.{in_list}

-- how many letters stand before the first speller vowel; all of them where there is none
unfoldable pub before_vowel : Word → ℕ
before_vowel [] = 0
before_vowel (x ∷ xs) = pick (is_spelling_vowel x) 0 (suc (before_vowel xs))

-- how many speller vowels the word starts with
unfoldable pub vowel_run : Word → ℕ
vowel_run [] = 0
vowel_run (x ∷ xs) = pick (is_spelling_vowel x) (suc (vowel_run xs)) 0

-- q u or g i
unfoldable pub is_glue : ℕ → ℕ → Bool
is_glue x y = in_list (x ∷ y ∷ []) (words "qu gi")

-- "the word starts q u or g i with that vowel second and another vowel third"
unfoldable pub starts_glued : Word → Bool
starts_glued [] = false
starts_glued (x ∷ []) = false
starts_glued (x ∷ y ∷ []) = false
starts_glued (x ∷ y ∷ z ∷ w) = pick (is_glue x y) (is_spelling_vowel z) false

-- "the onset ends at the first speller vowel; if the word starts .. it ends after two letters"; "No vowel: all is onset."
unfoldable pub onset_end : Word → ℕ
onset_end w = pick (starts_glued w) 2 (before_vowel w)

-- "Vowels run on while speller vowels follow"
unfoldable pub vowels_end : Word → ℕ
vowels_end w = onset_end w + vowel_run (drop (onset_end w) w)

unfoldable pub onset_of : Word → Word
onset_of w = take (onset_end w) w

unfoldable pub vowels_of : Word → Word
vowels_of w = take (vowel_run (drop (onset_end w) w)) (drop (onset_end w) w)

-- "the rest is coda"
unfoldable pub coda_of : Word → Word
coda_of w = drop (vowels_end w) w
