-- Cells in use and the row of their bases have their vowel and their tone place in common: what the code finds in the row
-- is what document 01 says of the cells.
use Prim.Native.Nat.{ℕ, ◌+◌, ◌-◌}
use mathlib.Core.Path.{◌≡◌, refl, ◌∙◌}
use mathlib.Core.Bool.{Bool, true, false}
use mathlib.Core.List.{List, [], ◌∷◌}
use lib.ListN.{length, get_or}
use Rattle.p0_choice.specs.Choice.{pick, each}
use Rattle.p3_cells.specs.Cells.{blank, is_cell}
use Rattle.p3_cells.specs.Text.{letter_of}
use Rattle.p3_cells.specs.declared.Cell.{Cell}
use Rattle.p3_cells.specs.Row.{bases}
use Rattle.p3_cells.specs.Mirror.{row_cells}
use Rattle.p3_cells.specs.Mirror.{bare}
use Rattle.p3_cells.proofs.Row.{row_length, row_at, row_letter, bases_length, bases_at, Plain, plain_at_lem, plain_cells}
use Rattle.p3_tone.specs.TonePlace.{low_letter, low_base, any_vowel, separates, any_separates, last_syllable, syllable_start, vowel_places}
use Rattle.p3_tone.specs.TonePlace.{glides, kept, rises, chosen, place_of, tone_place}

any_plain_lem : (cs : List Cell) → Plain cs → any_vowel (row_cells (bases cs)) ≡ any_vowel cs
unfolding any_vowel row_cells bases letter_of
any_plain_lem [] p = refl
any_plain_lem (x ∷ xs) p = rw (p.0, any_plain_lem xs p.1) refl

-- ---- the last syllable
separates_plain : (x : Cell) → letter_of x ≡ x.base → separates (bare x.base) ≡ separates x
unfolding separates letter_of
separates_plain x e = rw e refl

any_separates_lem : (cs : List Cell) → Plain cs → any_separates (row_cells (bases cs)) ≡ any_separates cs
unfolding any_separates row_cells bases
any_separates_lem [] p = refl
any_separates_lem (x ∷ xs) p = rw (separates_plain x p.0, any_separates_lem xs p.1) refl

last_plain : (cs : List Cell) → Plain cs → last_syllable (row_cells (bases cs)) ≡ row_cells (bases (last_syllable cs))
unfolding last_syllable row_cells bases
last_plain [] p = refl
last_plain (x ∷ xs) p = rw (separates_plain x p.0, any_separates_lem xs p.1, last_plain xs p.1) (go (any_separates xs) (separates x))
  where
    go : (a b : Bool) → pick a (row_cells (bases (last_syllable xs))) (pick b (row_cells (bases xs)) (bare x.base ∷ row_cells (bases xs)))
        ≡ row_cells (bases (pick a (last_syllable xs) (pick b xs (x ∷ xs))))
    go true b = refl
    go false true = refl
    go false false = refl

plain_last : (cs : List Cell) → Plain cs → Plain (last_syllable cs)
unfolding last_syllable
plain_last [] p = tt
plain_last (x ∷ xs) p = go (any_separates xs) (separates x) (plain_last xs p.1)
  where
    go : (a b : Bool) → Plain (last_syllable xs) → Plain (pick a (last_syllable xs) (pick b xs (x ∷ xs)))
    go true b q = q
    go false true q = p.1
    go false false q = p

same_length : (cs : List Cell) → length (row_cells (bases cs)) ≡ length cs
same_length cs = row_length (bases cs) ∙ bases_length cs

start_plain : (cs : List Cell) → Plain cs → syllable_start (row_cells (bases cs)) ≡ syllable_start cs
unfolding syllable_start
start_plain cs p = rw (last_plain cs p, same_length cs, same_length (last_syllable cs)) refl

-- ---- its vowels, and which one
vowels_plain : (i : ℕ) (cs : List Cell) → Plain cs → vowel_places i (row_cells (bases cs)) ≡ vowel_places i cs
unfolding vowel_places row_cells bases letter_of
vowels_plain i [] p = refl
vowels_plain i (x ∷ xs) p = rw (p.0, vowels_plain (i + 1) xs p.1) refl

low_base_plain : (cs : List Cell) (i : ℕ) → low_base (get_or (row_cells (bases cs)) i blank) ≡ low_base (get_or cs i blank)
unfolding low_base
low_base_plain cs i = rw (row_at (bases cs) i, bases_at cs i) refl

low_letter_plain : (cs : List Cell) → Plain cs → (i : ℕ) → low_letter (get_or (row_cells (bases cs)) i blank) ≡ low_letter (get_or cs i blank)
unfolding low_letter
low_letter_plain cs p i = rw (row_letter (bases cs) i, bases_at cs i, plain_at_lem cs p i) refl

kept_plain : (start : ℕ) (s : List Cell) (vs : List ℕ) → kept start (row_cells (bases s)) vs ≡ kept start s vs
unfolding kept glides
kept_plain start s vs = rw (low_base_plain s 0, low_base_plain s 1) refl

chosen_plain : (cs : List Cell) → Plain cs → (vs : List ℕ) → chosen (row_cells (bases cs)) vs ≡ chosen cs vs
unfolding chosen rises
chosen_plain cs p vs =
    rw (low_letter_plain cs p (get_or vs (length vs - 2) 0), low_letter_plain cs p (get_or vs (length vs - 1) 0)) refl

place_plain : (cs : List Cell) → Plain cs → (start : ℕ) (s : List Cell) (vs : List ℕ)
    → place_of (row_cells (bases cs)) start (row_cells (bases s)) vs ≡ place_of cs start s vs
unfolding place_of
place_plain cs p start s [] = rw (same_length cs) refl
place_plain cs p start s (v ∷ vs) = rw (kept_plain start s (v ∷ vs), chosen_plain cs p (kept start s (v ∷ vs))) refl

module _ (cs : List Cell) (e : each is_cell cs ≡ true) where
  pub any_same : any_vowel (row_cells (bases cs)) ≡ any_vowel cs
  any_same = any_plain_lem cs (plain_cells cs e)

  pub tone_place_same : tone_place (row_cells (bases cs)) ≡ tone_place cs
  unfolding tone_place
  tone_place_same =
      let p = plain_cells cs e in
      rw (last_plain cs p, start_plain cs p, vowels_plain (syllable_start cs) (last_syllable cs) (plain_last cs p))
      (place_plain cs p (syllable_start cs) (last_syllable cs) (vowel_places (syllable_start cs) (last_syllable cs)))
