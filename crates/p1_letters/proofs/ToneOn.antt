-- What tone on leaves as it is: every letter under what is no tone key, and all but the composer's vowels.
use Prim.Native.Nat.{ℕ}
use mathlib.Core.Path.{◌≡◌, refl, sym, ap, ◌∙◌}
use mathlib.Core.Bool.{Bool, true, false}
use mathlib.Core.List.{List, [], ◌∷◌}
use lib.Dec.{T, eqb}
use lib.ListN.{get_or}
use borrow.Author.Tests.{eqb-true}
use Rattle.p0_choice.specs.Choice.{among, each}
use Rattle.p0_choice.specs.Text.{word}
use Rattle.p0_choice.proofs.Tables.{pick_first, pick_second, each_among}
use Rattle.p0_choice.proofs.Arms.{not_yes}
use Rattle.p1_letters.specs.Alphabet.{ascii_lower}
use Rattle.p1_letters.specs.Tones.{tone_rows, tone_column, row_of, tone_on}
use Rattle.p1_letters.specs.Vowels.{vowels, is_vowel}
use Rattle.p1_letters.proofs.Tones.{from_none, on_none}

-- the ten tone keys
unfoldable pub keys : List ℕ
keys = word "sfrxj12345"

-- ---- what is no tone key
module _ (x t : ℕ) (e : among t keys ≡ false) where
  not_one : (ks : List ℕ) → T (each (λ (k : ℕ). among k keys) ks) → among t ks ≡ false
  not_one ks s = not_yes (among t ks) (among t keys) (λ (q : among t ks ≡ true). each_among (λ (k : ℕ). among k keys) ks s t q) e

  pub no_column : 0 ≡ tone_column t
  unfolding tone_column keys word
  no_column =
      rw (not_one (word "1s") tt, not_one (word "2f") tt, not_one (word "3r") tt, not_one (word "4x") tt, not_one (word "5j") tt) refl

  pub no_key : tone_on x t ≡ x
  unfolding tone_on
  no_key = sym (from_none x t (row_of tone_rows (ascii_lower x)) no_column)

-- a cell without a tone has 0 there
pub no_tone : (x : ℕ) → tone_on x 0 ≡ x
unfolding keys word
no_tone x = no_key x 0 refl

-- ---- what is no vowel
-- a letter that fails a test which the vowel of every row passes has no row
row_none : (p : ℕ → Bool) (rows : List (List ℕ)) (x : ℕ) → p x ≡ false → T (each (λ (r : List ℕ). p (get_or r 0 0)) rows) → [] ≡ row_of rows x
unfolding row_of
row_none p [] x m t = refl
row_none p (r ∷ rows) x m t =
    let v = get_or r 0 0 in
    let yes : eqb x v ≡ true → p x ≡ true = λ q. ap p (eqb-true x v q) ∙ pick_first (p v) _ t in
    rw (not_yes (eqb x v) (p x) yes m) (row_none p rows x m (pick_second (p v) _ t))

-- "A tone on anything but a composer vowel leaves the letter."
pub tone_leaves : (x t : ℕ) → is_vowel x ≡ false → tone_on x t ≡ x
unfolding is_vowel vowels tone_rows word
tone_leaves x t e = sym (on_none x (ascii_lower x) t refl (row_none (λ (k : ℕ). among k vowels) tone_rows (ascii_lower x) e tt))
