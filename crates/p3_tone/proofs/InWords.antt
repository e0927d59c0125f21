-- Which cell takes the tone, in document 01's words: a vowel of the last syllable if it has one, else the composition's last
-- cell; and it is decided by the bases alone.
use Prim.Native.Nat.{ℕ, zero, suc, ◌+◌, ◌-◌, ◌<◌, ◌≤◌}
use mathlib.Core.Path.{◌≡◌, refl, sym, ap, ◌∙◌}
use mathlib.Core.Bool.{Bool, true, false}
use mathlib.Core.List.{List, [], ◌∷◌}
use native.Mathlib.Omega.{arith}
use lib.ListN.{length, get_or}
use lib.Seq.{get_or-drop}
use Rattle.p0_choice.specs.Choice.{pick, each}
use Rattle.p0_choice.proofs.Choices.{pick_true}
use Rattle.p1_letters.specs.Vowels.{is_vowel}
use Rattle.p3_cells.specs.Cells.{blank, is_cell}
use Rattle.p3_cells.specs.Text.{letter_of}
use Rattle.p3_cells.specs.declared.Cell.{Cell}
use Rattle.p3_cells.specs.Row.{bases}
use Rattle.p3_cells.specs.Mirror.{row_cells}
use Rattle.p3_tone.specs.TonePlace.{last_syllable, syllable_start, vowel_places, place_of, tone_place}
use Rattle.p3_tone.proofs.Bound.{vowels_are, place_is}
use Rattle.p3_tone.proofs.Same.{tone_place_same}
use Rattle.p3_tone.proofs.Syllable.{last_drop, last_length}

-- ---- where a vowel stands, there is a place
vowels_first : (i : ℕ) (x : Cell) (xs : List Cell) → is_vowel (letter_of x) ≡ true → i ∷ vowel_places (i + 1) xs ≡ vowel_places i (x ∷ xs)
unfolding vowel_places
vowels_first i x xs e = pick_true (is_vowel (letter_of x)) _ _ _ e refl

vowels_some : (i : ℕ) (xs : List Cell) (j : ℕ) → j < length xs → is_vowel (letter_of (get_or xs j blank)) ≡ true → 0 < length (vowel_places i xs)
unfolding vowel_places
vowels_some i [] j h e = absurd (omega arith)
vowels_some i (x ∷ xs) zero h e = let d = ap length (vowels_first i x xs e) in omega arith
vowels_some i (x ∷ xs) (suc j) h e = go (is_vowel (letter_of x)) (vowels_some (i + 1) xs j (omega arith) e)
  where
    go : (b : Bool) → 0 < length (vowel_places (i + 1) xs) → 0 < length (pick b (i ∷ vowel_places (i + 1) xs) (vowel_places (i + 1) xs))
    go true g = omega arith
    go false g = g

-- ---- a vowel of the last syllable, which is what the composition ends in
pub record SyllableVowel (cs : List Cell) (i : ℕ) : Type 0 where
  pub from : length cs ≤ i + length (last_syllable cs)
  pub below : i < length cs
  pub vowel : is_vowel (letter_of (get_or cs i blank)) ≡ true

syllable_end : (cs : List Cell) → syllable_start cs + length (last_syllable cs) ≡ length cs
unfolding syllable_start
syllable_end cs = let n = last_length cs in omega arith

syllable_at : (cs : List Cell) (j : ℕ) → get_or (last_syllable cs) j blank ≡ get_or cs (syllable_start cs + j) blank
syllable_at cs j = ap (λ (s : List Cell). get_or s j blank) (last_drop cs) ∙ get_or-drop (syllable_start cs) cs j blank

in_syllable : (cs : List Cell) (j : ℕ) → j < length (last_syllable cs) → is_vowel (letter_of (get_or (last_syllable cs) j blank)) ≡ true
    → SyllableVowel cs (syllable_start cs + j)
in_syllable cs j l v =
    let n = syllable_end cs in record { from = omega arith; below = omega arith; vowel = rw (syllable_at cs j) at v }

pub places_are : (cs : List Cell) (k : ℕ) → k < length (vowel_places (syllable_start cs) (last_syllable cs))
    → SyllableVowel cs (get_or (vowel_places (syllable_start cs) (last_syllable cs)) k 0)
places_are cs = vowels_are (SyllableVowel cs) (syllable_start cs) (last_syllable cs) (in_syllable cs)

-- ---- "With no vowel in it, the composition's last cell takes the tone."
pub tone_last : (cs : List Cell) → ((i : ℕ) → SyllableVowel cs i → ⊥) → tone_place cs ≡ length cs - 1
unfolding tone_place place_of
tone_last cs f = go (vowel_places (syllable_start cs) (last_syllable cs)) (places_are cs)
  where
    go : (vs : List ℕ) → ((k : ℕ) → k < length vs → SyllableVowel cs (get_or vs k 0))
        → place_of cs (syllable_start cs) (last_syllable cs) vs ≡ length cs - 1
    go [] g = refl
    go (v ∷ vs) g = absurd (f v (g 0 (omega arith)))

-- ---- with one in it, a vowel of it does
pub tone_vowel : (cs : List Cell) (i : ℕ) → SyllableVowel cs i → SyllableVowel cs (tone_place cs)
unfolding tone_place
tone_vowel cs i s =
    let n = syllable_end cs in
    let l = s.from in
    let b = s.below in
    let d : syllable_start cs + (i - syllable_start cs) ≡ i = omega arith in
    let v : is_vowel (letter_of (get_or (last_syllable cs) (i - syllable_start cs) blank)) ≡ true =
    rw (syllable_at cs (i - syllable_start cs), d) s.vowel in
    place_is (SyllableVowel cs) cs (last_syllable cs) (syllable_start cs) (vowel_places (syllable_start cs) (last_syllable cs))
    (vowels_some (syllable_start cs) (last_syllable cs) (i - syllable_start cs) (omega arith) v) (places_are cs)

-- ---- cells with the same bases take it at the same place
pub tone_by_bases : (cs ds : List Cell) → each is_cell cs ≡ true → each is_cell ds ≡ true → bases cs ≡ bases ds → tone_place cs ≡ tone_place ds
tone_by_bases cs ds p q e = sym (tone_place_same cs p) ∙ ap (λ (b : List ℕ). tone_place (row_cells b)) e ∙ tone_place_same ds q
