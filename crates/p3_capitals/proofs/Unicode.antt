-- With the setting on, what the calls write is in Unicode's capitals: each letter of a text is Unicode's capital of the cell's
-- letter with its tone where the flag is on, and that letter itself where it is off.
use Prim.Native.Nat.{ℕ, ◌-◌}
use mathlib.Core.Path.{◌≡◌, refl, ap, ◌∙◌}
use mathlib.Core.Bool.{Bool, true, false}
use mathlib.Core.List.{List, [], ◌∷◌}
use lib.Dec.{eqb}
use lib.ListN.{length}
use Rattle.p0_choice.specs.Choice.{pick, among, each}
use Rattle.p0_choice.proofs.Tests.{both_are, each_take}
use Rattle.p0_refusals.specs.Answers.{writes, refuses}
use Rattle.p0_refusals.specs.declared.Refusal.TheVariants.{Foreign, Full, Empty, Unsound}
use Rattle.p1_letters.specs.Alphabet.{in_alphabet, ascii_lower}
use Rattle.p1_letters.specs.Vowels.{is_vowel}
use Rattle.p1_letters.proofs.ToneOn.{keys}
use Rattle.p1_unicode.specs.Canonical.{canonical, CanonicallyEqual, tone_mark}
use Rattle.p1_unicode.specs.Case.{simple_upper}
use Rattle.p1_unicode.proofs.Case.{upper_unicode}
use Rattle.p1_unicode.proofs.Tones.{capital_toned_unicode}
use Rattle.p3_calls.specs.Output.{text_outcome, left, removal_outcome}
use Rattle.p3_cells.specs.Cells.{is_cell, is_sound, used}
use Rattle.p3_cells.specs.Text.{letter_of, toned_letter, flagged, shown, text_of}
use Rattle.p3_cells.specs.declared.Cell.{Cell}
use Rattle.p3_cells.specs.declared.Composition.{Composition}
use Rattle.p3_cells.proofs.Holding.{used_cells}
use Rattle.p3_cells.proofs.InAlphabet.{toned_letter_lem}
use Rattle.p3_key.specs.Process.{in_mode, next_cells, written_for, is_full, key_outcome}
use Rattle.p3_step.proofs.Sound.{key_cells_kept}
use Rattle.p3_capitals.specs.Unicode.{unicode_shown, unicode_text}

-- ---- a cell
module _ (x : Cell) (e : is_cell x ≡ true) where
  pub shown_unicode : shown true x ≡ unicode_shown x
  unfolding shown flagged unicode_shown
  shown_unicode = ap (λ (l : ℕ). pick x.upper l (toned_letter x)) (upper_unicode (toned_letter x) (toned_letter_lem x e))

  -- a flagged vowel with a tone: canonically the vowel's capital with the tone's mark
  pub toned_capital : x.upper ≡ true → is_vowel (letter_of x) ≡ true → among x.tone keys ≡ true
      → CanonicallyEqual (shown true x ∷ []) (simple_upper (ascii_lower (letter_of x)) ∷ tone_mark x.tone ∷ [])
  unfolding unicode_shown toned_letter
  toned_capital u v k =
      ap (λ (l : ℕ). canonical (l ∷ [])) (shown_unicode ∙ rw u refl) ∙ capital_toned_unicode (letter_of x) x.tone v k

-- ---- a text
pub text_unicode : (xs : List Cell) → each is_cell xs ≡ true → text_of true xs ≡ unicode_text xs
unfolding text_of unicode_text
text_unicode [] e = refl
text_unicode (x ∷ xs) e =
    let h = both_are (is_cell x) (each is_cell xs) e in rw (shown_unicode x h.0, text_unicode xs h.1) refl

-- ---- the calls
module _ (c : Composition) (on : c.settings.capitals ≡ true) where
  of_used : (xs : List Cell) → each is_cell xs ≡ true → text_of c.settings.capitals xs ≡ unicode_text xs
  of_used xs e = rw on (text_unicode xs e)

  pub text_on_lem : text_outcome c ≡ pick (is_sound c) (writes (unicode_text (used c))) (refuses Unsound)
  unfolding text_outcome
  text_on_lem = go (is_sound c) refl
    where
      go : (s : Bool) → is_sound c ≡ s
          → pick s (writes (text_of c.settings.capitals (used c))) (refuses Unsound)
          ≡ pick s (writes (unicode_text (used c))) (refuses Unsound)
      go true s = ap writes (of_used (used c) (used_cells c s))
      go false s = refl

  pub removal_on_lem : removal_outcome c
      ≡ pick (is_sound c) (pick (eqb (length (used c)) 0) (refuses Empty) (writes (unicode_text (left c)))) (refuses Unsound)
  unfolding removal_outcome left
  removal_on_lem = go (is_sound c) refl
    where
      go : (s : Bool) → is_sound c ≡ s
          → pick s (pick (eqb (length (used c)) 0) (refuses Empty) (writes (text_of c.settings.capitals (left c)))) (refuses Unsound)
          ≡ pick s (pick (eqb (length (used c)) 0) (refuses Empty) (writes (unicode_text (left c)))) (refuses Unsound)
      go true s =
          ap (λ (t : List ℕ). pick (eqb (length (used c)) 0) (refuses Empty) (writes t))
          (of_used (left c) (each_take is_cell (length (used c) - 1) (used c) (used_cells c s)))
      go false s = refl

  -- the key's text; in English mode it is the one letter, under both settings
  pub key_on_lem : (key : ℕ) → key_outcome c key
      ≡ pick (is_sound c)
      (pick (in_alphabet key)
      (pick (is_full c key) (refuses Full) (writes (in_mode c.settings.mode (unicode_text (next_cells c key)) (key ∷ []))))
      (refuses Foreign))
      (refuses Unsound)
  unfolding key_outcome written_for next_cells
  key_on_lem key = go (is_sound c) (in_alphabet key) refl refl
    where
      go : (s a : Bool) → is_sound c ≡ s → in_alphabet key ≡ a
          → pick s (pick a (pick (is_full c key) (refuses Full)
          (writes (in_mode c.settings.mode (text_of c.settings.capitals (next_cells c key)) (key ∷ [])))) (refuses Foreign))
          (refuses Unsound)
          ≡ pick s (pick a (pick (is_full c key) (refuses Full)
          (writes (in_mode c.settings.mode (unicode_text (next_cells c key)) (key ∷ [])))) (refuses Foreign)) (refuses Unsound)
      go true true s a = rw (of_used (next_cells c key) (key_cells_kept c.settings (used c) (used_cells c s) key a)) refl
      go true false s a = refl
      go false a s b = refl
