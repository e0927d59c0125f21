-- Tone off takes the tone's mark off exactly the small letters whose canonical form has one, and leaves all others.
use Prim.Native.Nat.{ℕ}
use mathlib.Core.Path.{◌≡◌, refl, sym, ap, ◌∙◌}
use mathlib.Core.Bool.{true, false}
use mathlib.Core.List.{List, [], ◌∷◌}
use mathlib.Core.Logic.{◌↔◌}
use Rattle.p0_choice.specs.Choice.{pick}
use Rattle.p0_choice.specs.Text.{word}
use Rattle.p1_letters.specs.Alphabet.{small_by32, small_by1, small_high, small_next, is_small, is_ascii_capital, is_capital, in_alphabet}
use Rattle.p1_letters.specs.Tones.{tone_rows, off_in, tone_off}
use Rattle.p1_letters.proofs.Alphabet.{every_letter}
use Rattle.p1_unicode.specs.Ucd.{decompositions, classes}
use Rattle.p1_unicode.specs.Canonical.{decomposition_in, decomposition_of, apart, class_in, class_of, reorderable, exchanged, run}
use Rattle.p1_unicode.specs.Canonical.{ordered, canonical, tone_marks, without_tone}
use Rattle.p1_unicode.proofs.Canonical.{same_list_lem, same_list, letters_differ}

-- the form of a letter with its tone off: of a capital its own, of any other what is left without the mark
form_off : ℕ → List ℕ
form_off x = pick (is_capital x) (canonical (x ∷ [])) (without_tone (canonical (x ∷ [])))

module _ (x : ℕ) (e : in_alphabet x ≡ true) where
  pub off_stays : in_alphabet (tone_off x) ≡ true
  unfolding small_by32 small_by1 small_high small_next is_small is_ascii_capital is_capital in_alphabet word tone_rows off_in tone_off
  off_stays = every_letter (λ (y : ℕ). in_alphabet (tone_off y)) tt tt x e

  off_form : canonical (tone_off x ∷ []) ≡ form_off x
  unfolding form_off small_by32 small_by1 small_high small_next is_small is_ascii_capital is_capital in_alphabet word tone_rows off_in tone_off
      decomposition_in decomposition_of apart decompositions class_in class_of classes reorderable exchanged run ordered canonical tone_marks
      same_list_lem
  off_form = same_list _ _ (every_letter (λ (y : ℕ). same_list_lem (canonical (tone_off y ∷ [])) (form_off y)) tt tt x e)

  -- a capital is left, toned or not
  pub off_capital : is_capital x ≡ true → tone_off x ≡ x
  unfolding form_off
  off_capital h = letters_differ (tone_off x) x off_stays e (off_form ∙ rw h refl)

  module _ (s : is_capital x ≡ false) where
    -- of any other letter the canonical form loses the tone's mark, and nothing else ..
    pub off_unicode : canonical (tone_off x ∷ []) ≡ without_tone (canonical (x ∷ []))
    unfolding form_off
    off_unicode = off_form ∙ rw s refl

    -- .. so that it is left exactly if there is none
    pub off_exactly : tone_off x ≡ x ↔ without_tone (canonical (x ∷ [])) ≡ canonical (x ∷ [])
    off_exactly =
        (λ h. sym off_unicode ∙ ap (λ (y : ℕ). canonical (y ∷ [])) h, λ h. letters_differ (tone_off x) x off_stays e (off_unicode ∙ h))
