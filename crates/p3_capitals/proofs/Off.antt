-- With the setting off, every definition that request 2026-01 widens is what document 01 has: the key, the text and the removal
-- are those of the port. What the request does not widen does not look at the setting (proofs/Setting).
use Prim.Native.Nat.{ℕ}
use mathlib.Core.Path.{◌≡◌, refl, ap, ◌∙◌}
use mathlib.Core.Bool.{false}
use mathlib.Core.List.{List, [], ◌∷◌}
use lib.Dec.{eqb, ltb}
use lib.ListN.{length}
use Rattle.p0_choice.specs.Choice.{pick}
use Rattle.p0_refusals.specs.Answers.{writes, refuses}
use Rattle.p0_refusals.specs.declared.Refusal.TheVariants.{Foreign, Full, Empty, Unsound}
use Rattle.p1_letters.specs.Alphabet.{in_alphabet}
use Rattle.p3_calls.specs.Output.{left, text_outcome, removal_outcome, removed}
use Rattle.p3_cells.specs.Cells.{limit, is_sound, used}
use Rattle.p3_cells.specs.Text.{flagged, shown, text_of}
use Rattle.p3_cells.specs.declared.Cell.{Cell}
use Rattle.p3_cells.specs.declared.Composition.{Composition}
use Rattle.p3_cells.specs.declared.Settings.{Settings}
use Rattle.p3_key.specs.Process.{in_mode, next_cells, written_for, is_full, key_outcome, key_next, keyed}
use Rattle.p3_marks.specs.Uo.{horn_o, uo_made}
use Rattle.p3_step.specs.Key.{horn_or_later, key_cells}
use Rattle.p3_capitals.specs.Port.{port_horn_o, port_uo_made, port_horn_or_later, port_key_cells, port_shown, port_text, port_next_cells}
use Rattle.p3_capitals.specs.Port.{port_written_for, port_is_full, port_key_outcome, port_key_next, port_keyed, port_text_outcome}
use Rattle.p3_capitals.specs.Port.{port_removal_outcome, port_removed}

-- ---- a text, the ơ of a pair, and the cells after a key
pub text_of_off : (xs : List Cell) → text_of false xs ≡ port_text xs
unfolding text_of port_text shown flagged port_shown
text_of_off xs = refl

pub horn_off : (o : Cell) → horn_o false o ≡ port_horn_o o
unfolding horn_o port_horn_o
horn_off o = refl

pub key_cells_off : (z : Settings) (cs : List Cell) (key : ℕ) → z.capitals ≡ false → key_cells z cs key ≡ port_key_cells z cs key
unfolding key_cells horn_or_later uo_made horn_o port_key_cells port_horn_or_later port_uo_made port_horn_o
key_cells_off z cs key e = rw e refl

-- ---- the calls
module _ (c : Composition) (e : c.settings.capitals ≡ false) where
  next_off : (key : ℕ) → next_cells c key ≡ port_next_cells c key
  unfolding next_cells port_next_cells
  next_off key = key_cells_off c.settings (used c) key e

  written_off : (xs : List Cell) → text_of c.settings.capitals xs ≡ port_text xs
  written_off xs = rw e (text_of_off xs)

  pub text_off : text_outcome c ≡ port_text_outcome c
  unfolding text_outcome port_text_outcome
  text_off = ap (λ (t : List ℕ). pick (is_sound c) (writes t) (refuses Unsound)) (written_off (used c))

  pub removal_off : removal_outcome c ≡ port_removal_outcome c
  unfolding removal_outcome port_removal_outcome
  removal_off =
      ap (λ (t : List ℕ). pick (is_sound c) (pick (eqb (length (used c)) 0) (refuses Empty) (writes t)) (refuses Unsound))
      (written_off (left c))

  pub removed_off : (n : ℕ) → removed c n ≡ port_removed c n
  unfolding removed port_removed
  removed_off n = rw removal_off refl

  pub key_off : (key : ℕ) → key_outcome c key ≡ port_key_outcome c key
  unfolding key_outcome is_full written_for port_key_outcome port_is_full port_written_for
  key_off key =
      ap (λ (t : List ℕ). pick (is_sound c)
      (pick (in_alphabet key) (pick (in_mode c.settings.mode (ltb limit (length (next_cells c key))) false) (refuses Full)
      (writes (in_mode c.settings.mode t (key ∷ [])))) (refuses Foreign)) (refuses Unsound)) (written_off (next_cells c key))
      ∙ ap (λ (cs : List Cell). pick (is_sound c)
      (pick (in_alphabet key) (pick (in_mode c.settings.mode (ltb limit (length cs)) false) (refuses Full)
      (writes (in_mode c.settings.mode (port_text cs) (key ∷ [])))) (refuses Foreign)) (refuses Unsound)) (next_off key)

  -- what a key leaves, and what it answers
  pub keyed_off : (key n : ℕ) → keyed c key n ≡ port_keyed c key n
  unfolding keyed key_next port_keyed port_key_next
  keyed_off key n = rw (key_off key, next_off key) refl
