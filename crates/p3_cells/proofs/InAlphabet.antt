-- The text of sound cells is a word of the alphabet.
use Prim.Native.Nat.{ℕ}
use mathlib.Core.Path.{◌≡◌, refl, ap, ◌∙◌}
use mathlib.Core.Bool.{Bool, true, false}
use mathlib.Core.List.{List, [], ◌∷◌, map}
use mathlib.Core.Logic.{⊎_elim}
use Rattle.p0_choice.specs.Choice.{among, each}
use Rattle.p0_choice.specs.Text.{word}
use Rattle.p0_choice.proofs.Choices.{pick_both}
use Rattle.p0_choice.proofs.Tables.{each_among}
use Rattle.p1_letters.specs.Alphabet.{small_by32, small_by1, small_high, small_next, is_small, is_ascii_capital, is_capital, in_alphabet, all_letters}
use Rattle.p1_letters.specs.Alphabet.{ascii_lower, ascii_upper}
use Rattle.p1_letters.specs.Tones.{tone_rows, tone_column, row_of, tone_from, tone_on}
use Rattle.p1_letters.proofs.Alphabet.{every_letter}
use Rattle.p1_letters.proofs.Case.{ascii_upper_stays, upper_stays}
use Rattle.p1_letters.proofs.ToneOn.{no_tone}
use Rattle.p3_cells.specs.Cells.{is_cell, tones}
use Rattle.p3_cells.specs.Text.{letter_of, toned_letter, flagged, shown, text_of}
use Rattle.p3_cells.specs.Soundness.{SoundCell}
use Rattle.p3_cells.specs.declared.Cell.{Cell}
use Rattle.p3_cells.proofs.Soundness.{cell_is}
use Rattle.p3_cells.proofs.Made.{letter_base}
use Rattle.p0_choice.proofs.Tests.{both_are, are_both, holds}

tone_stays : (x t : ℕ) → in_alphabet x ≡ true → among t tones ≡ true → in_alphabet (tone_on x t) ≡ true
unfolding small_by32 small_by1 small_high small_next is_small is_ascii_capital is_capital in_alphabet ascii_lower tone_rows tone_column row_of tone_from
    tone_on tones word
tone_stays x t e h =
    each_among (λ (k : ℕ). in_alphabet (tone_on x k)) tones
    (holds (each (λ (k : ℕ). in_alphabet (tone_on x k)) tones)
    (every_letter (λ (y : ℕ). each (λ (k : ℕ). in_alphabet (tone_on y k)) tones) tt tt x e)) t h

flagged_letter : (k : Bool) (l : ℕ) → in_alphabet l ≡ true → in_alphabet (flagged k l) ≡ true
unfolding flagged
flagged_letter true l e = upper_stays l e
flagged_letter false l e =
    pick_both (λ (y : ℕ). in_alphabet y ≡ true) (is_capital l) l (ascii_upper l) (λ h. e) (λ h. ascii_upper_stays l e)

pub toned_letter_lem : (x : Cell) → is_cell x ≡ true → in_alphabet (toned_letter x) ≡ true
unfolding toned_letter
toned_letter_lem x e =
    let s : SoundCell x = cell_is x e in
    let b : in_alphabet (letter_of x) ≡ true = ap in_alphabet (letter_base x e) ∙ s.base in
    ⊎_elim (λ (h : x.tone ≡ 0). ap in_alphabet (ap (λ (t : ℕ). tone_on (letter_of x) t) h ∙ no_tone (letter_of x)) ∙ b)
    (λ (h : among x.tone tones ≡ true). tone_stays (letter_of x) x.tone b h) s.tone

shown_letter : (k : Bool) (x : Cell) → is_cell x ≡ true → in_alphabet (shown k x) ≡ true
unfolding shown
shown_letter k x e =
    let t = toned_letter_lem x e in
    pick_both (λ (y : ℕ). in_alphabet y ≡ true) x.upper (flagged k (toned_letter x)) (toned_letter x)
    (λ h. flagged_letter k (toned_letter x) t) (λ h. t)

pub text_letters : (k : Bool) (xs : List Cell) → each is_cell xs ≡ true → all_letters (text_of k xs) ≡ true
unfolding text_of
text_letters k [] e = refl
text_letters k (x ∷ xs) e =
    let h = both_are (is_cell x) (each is_cell xs) e in
    are_both (in_alphabet (shown k x)) (all_letters (map (shown k) xs)) (shown_letter k x h.0) (text_letters k xs h.1)
