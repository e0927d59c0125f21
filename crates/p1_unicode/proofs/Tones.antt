-- A toned letter is canonically equal to its vowel with the tone's mark, it is the only letter of the alphabet that is,
-- and tone off undoes tone on.
use Prim.Native.Nat.{ℕ}
use mathlib.Core.Path.{◌≡◌, sym, ◌∙◌}
use mathlib.Core.Bool.{Bool, true}
use mathlib.Core.List.{[], ◌∷◌}
use lib.Dec.{eqb}
use borrow.Author.Tests.{eqb-true}
use Rattle.p0_choice.specs.Choice.{among, each}
use Rattle.p0_choice.specs.Text.{word}
use Rattle.p0_choice.proofs.Tables.{each_among}
use Rattle.p1_letters.specs.Alphabet.{small_by32, small_by1, small_high, small_next, is_small, is_ascii_capital, is_capital, in_alphabet, ascii_lower}
use Rattle.p1_letters.specs.Tones.{tone_rows, tone_column, row_of, tone_from, tone_on, off_in, tone_off}
use Rattle.p1_letters.specs.Vowels.{vowels, is_vowel}
use Rattle.p1_letters.proofs.Vowels.{every_vowel}
use Rattle.p1_letters.proofs.ToneOn.{keys}
use Rattle.p1_unicode.specs.Ucd.{case_pairs, decompositions, classes}
use Rattle.p1_unicode.specs.Case.{capital_in, simple_upper}
use Rattle.p1_unicode.specs.Canonical.{decomposition_in, decomposition_of, apart, class_in, class_of, reorderable, exchanged, run}
use Rattle.p1_unicode.specs.Canonical.{ordered, canonical, CanonicallyEqual, tone_mark}
use Rattle.p1_unicode.proofs.Canonical.{same_list_lem, same_list, letters_differ}

-- a test of a vowel and a tone key
on_keys : (ℕ → ℕ → Bool) → ℕ → Bool
unfolding keys word
on_keys p x = each (p x) keys

-- one that passes at each vowel and key, by computation, passes at each
each_tone : (p : ℕ → ℕ → Bool) → ((x : ℕ) → is_vowel x ≡ true → on_keys p x ≡ true) → (x t : ℕ) → is_vowel x ≡ true → among t keys ≡ true
    → p x t ≡ true
unfolding on_keys keys word
each_tone p f x t e k = each_among (p x) keys (rw (f x e) tt) t k

-- the capital of a toned letter, against its vowel's capital with the mark
capital_same : ℕ → ℕ → Bool
capital_same y u = same_list_lem (canonical (simple_upper (tone_on y u) ∷ [])) (canonical (simple_upper (ascii_lower y) ∷ tone_mark u ∷ []))

module _ (x t : ℕ) (v : is_vowel x ≡ true) (k : among t keys ≡ true) where
  pub toned_letter_lem : in_alphabet (tone_on x t) ≡ true
  unfolding on_keys keys word small_by32 small_by1 small_high small_next is_small is_ascii_capital is_capital in_alphabet ascii_lower tone_rows
      tone_column row_of tone_from tone_on vowels is_vowel
  toned_letter_lem =
      each_tone (λ (y u : ℕ). in_alphabet (tone_on y u)) (every_vowel (on_keys (λ (y u : ℕ). in_alphabet (tone_on y u))) tt) x t v k

  -- "A toned letter is canonically equal (Unicode) to its vowel with" the tone's mark
  pub toned_unicode : CanonicallyEqual (tone_on x t ∷ []) (ascii_lower x ∷ tone_mark t ∷ [])
  unfolding on_keys keys word is_ascii_capital ascii_lower tone_rows tone_column row_of tone_from tone_on vowels is_vowel decomposition_in
      decomposition_of apart decompositions class_in class_of classes reorderable exchanged run ordered canonical tone_mark same_list_lem
  toned_unicode =
      same_list _ _
      (each_tone (λ (y u : ℕ). same_list_lem (canonical (tone_on y u ∷ [])) (canonical (ascii_lower y ∷ tone_mark u ∷ [])))
      (every_vowel (on_keys (λ (y u : ℕ). same_list_lem (canonical (tone_on y u ∷ [])) (canonical (ascii_lower y ∷ tone_mark u ∷ [])))) tt) x t v k)

  -- its capital is canonically equal to the vowel's capital with the mark
  pub capital_toned_unicode : CanonicallyEqual (simple_upper (tone_on x t) ∷ []) (simple_upper (ascii_lower x) ∷ tone_mark t ∷ [])
  unfolding capital_same on_keys keys word is_ascii_capital ascii_lower tone_rows tone_column row_of tone_from tone_on vowels is_vowel
      decomposition_in decomposition_of apart decompositions class_in class_of classes reorderable exchanged run ordered canonical tone_mark
      same_list_lem capital_in simple_upper case_pairs
  capital_toned_unicode =
      same_list _ _
      (each_tone capital_same (every_vowel (on_keys capital_same) tt) x t v k)

  pub off_undoes : tone_off (tone_on x t) ≡ ascii_lower x
  unfolding on_keys keys word is_ascii_capital ascii_lower tone_rows tone_column row_of tone_from tone_on vowels is_vowel off_in tone_off
  off_undoes =
      eqb-true _ _ (each_tone (λ (y u : ℕ). eqb (tone_off (tone_on y u)) (ascii_lower y))
      (every_vowel (on_keys (λ (y u : ℕ). eqb (tone_off (tone_on y u)) (ascii_lower y))) tt) x t v k)

  -- it is the only letter of the alphabet that is
  pub toned_only : (y : ℕ) → in_alphabet y ≡ true → CanonicallyEqual (y ∷ []) (ascii_lower x ∷ tone_mark t ∷ []) → y ≡ tone_on x t
  toned_only y e h = letters_differ y (tone_on x t) e toned_letter_lem (h ∙ sym toned_unicode)
