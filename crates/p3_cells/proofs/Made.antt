-- The letter of a cell in use, and the cells that the calls make: each is a cell as soundness asks.
use Prim.Native.Nat.{ℕ, ◌<◌}
use mathlib.Core.Path.{◌≡◌, refl}
use mathlib.Core.Bool.{Bool, true, false}
use mathlib.Core.Logic.{inl, inr, ⊎_elim}
use lib.Dec.{eqb, ltb}
use borrow.Author.Tests.{ne_eqb, eq-eqb, ltb-true}
use Rattle.p0_choice.specs.Choice.{pick, among}
use Rattle.p0_choice.specs.Text.{word}
use Rattle.p0_choice.proofs.Tables.{each_among}
use Rattle.p1_letters.specs.Alphabet.{in_alphabet, is_small, small_by32, small_by1, small_next, small_high}
use Rattle.p2_input_method.specs.Rules.{tone_keys, is_tone_key, mark_rule, mark_rules, mark_for}
use Rattle.p2_input_method.specs.declared.InputMethod.{InputMethod}
use Rattle.p2_input_method.proofs.Rules.{tone_key_passes, mark_passes}
use Rattle.p3_cells.specs.Cells.{marks, tones, is_cell, typed}
use Rattle.p3_cells.specs.Text.{letter_of}
use Rattle.p3_cells.specs.declared.Cell.{Cell}
use Rattle.p3_cells.proofs.Soundness.{cell_is, is_cell_lem}

-- on a cell in use, "mark, else base" is the base
pub letter_base : (x : Cell) → is_cell x ≡ true → letter_of x ≡ x.base
unfolding letter_of
letter_base x e =
    ⊎_elim (λ (h : x.mark ≡ 0). rw (eq-eqb x.mark 0 h) refl)
    (λ (h : (x.mark ≡ x.base) × (among x.mark marks ≡ true)). go (eqb x.mark 0) h.0)
    (cell_is x e).mark
  where
    go : (b : Bool) → x.mark ≡ x.base → pick b x.base x.mark ≡ x.base
    go true h = refl
    go false h = h

-- ---- the marks and tones that the rules make
pub mark_letter : (l : ℕ) → among l marks ≡ true → in_alphabet l ≡ true
unfolding in_alphabet is_small small_by32 small_by1 small_next small_high marks word
mark_letter l e = each_among in_alphabet marks tt l e

pub tone_key_tone : (m : InputMethod) (k : ℕ) → is_tone_key m k ≡ true → among k tones ≡ true
unfolding tones tone_keys word
tone_key_tone m k e = tone_key_passes (λ (x : ℕ). among x tones) tt tt m k e

-- a tone key is a byte
pub tone_key_small : (m : InputMethod) (k : ℕ) → is_tone_key m k ≡ true → k < 256
unfolding tone_keys word
tone_key_small m k e = ltb-true k 256 (tone_key_passes (λ (x : ℕ). ltb x 256) tt tt m k e)

pub mark_for_mark : (m : InputMethod) (b k : ℕ) → (mark_for m b k ≡ 0 → ⊥) → among (mark_for m b k) marks ≡ true
unfolding marks mark_rules mark_rule word
mark_for_mark m b k h = go (mark_passes (λ (x : ℕ). pick (eqb x 0) true (among x marks)) refl tt tt m b k)
  where
    go : pick (eqb (mark_for m b k) 0) true (among (mark_for m b k) marks) ≡ true → among (mark_for m b k) marks ≡ true
    go q = rw (ne_eqb (mark_for m b k) 0 h) at q

-- ---- the cells that are made
pub typed_cell_lem : (l : ℕ) → in_alphabet l ≡ true → is_cell (typed l) ≡ true
unfolding typed
typed_cell_lem l e = is_cell_lem (typed l) (record { base = e; mark = inl refl; tone = inl refl })

-- a tone put on
pub toned_cell : (x : Cell) (t : ℕ) → is_cell x ≡ true → among t tones ≡ true
    → is_cell (record { base = x.base; mark = x.mark; tone = t; upper = x.upper }) ≡ true
toned_cell x t e h = let s = cell_is x e in is_cell_lem _ (record { base = s.base; mark = s.mark; tone = inr h })

-- a tone taken off
pub toneless_cell : (x : Cell) → is_cell x ≡ true → is_cell (record { base = x.base; mark = x.mark; tone = 0; upper = x.upper }) ≡ true
toneless_cell x e = let s = cell_is x e in is_cell_lem _ (record { base = s.base; mark = s.mark; tone = inl refl })

-- a marked letter, with the tone of a cell
pub marked_cell : (l : ℕ) (x : Cell) (u : Bool) → among l marks ≡ true → is_cell x ≡ true
    → is_cell (record { base = l; mark = l; tone = x.tone; upper = u }) ≡ true
marked_cell l x u h e = let s = cell_is x e in is_cell_lem _ (record { base = mark_letter l h; mark = inr (refl, h); tone = s.tone })

-- and with none
pub bare_marked_cell : (l : ℕ) (u : Bool) → among l marks ≡ true → is_cell (record { base = l; mark = l; tone = 0; upper = u }) ≡ true
bare_marked_cell l u h = is_cell_lem _ (record { base = mark_letter l h; mark = inr (refl, h); tone = inl refl })
