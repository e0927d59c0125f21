-- What a key leaves alone: it appends one cell, or changes one, or the two of a pair; every other cell stays.
use Rattle.std.specs.Prelude.{None, Option, Some}
use Prim.Native.Nat.{ℕ, suc, ◌<◌}
use mathlib.Core.Path.{◌≡◌, refl}
use mathlib.Core.List.{List, [], ◌∷◌, ◌++◌}
use lib.ListN.{length, set}
use Rattle.p0_choice.proofs.Choices.{pick_both}
use Rattle.p1_letters.specs.Alphabet.{ascii_lower}
use Rattle.p2_input_method.specs.Rules.{is_tone_key, is_horn_key}
use Rattle.p3_cells.specs.declared.Settings.{Settings}
use Rattle.p3_cells.specs.Cells.{typed}
use Rattle.p3_cells.specs.Place.{place_or}
use Rattle.p3_cells.specs.declared.Cell.{Cell}
use Rattle.p3_tone.specs.TonePlace.{any_vowel, tone_place}
use Rattle.p3_tone.proofs.Bound.{vowel_some, tone_below}
use Rattle.p3_marks.specs.Uo.{uo_place, uo_made}
use Rattle.p3_marks.specs.Ua.{ua_place, ua_made}
use Rattle.p3_marks.specs.Mark.{mark_place, mark_made}
use Rattle.p3_marks.proofs.Uo.{uo_below}
use Rattle.p3_marks.proofs.Ua.{ua_below}
use Rattle.p3_marks.proofs.Mark.{place_marks}
use Rattle.p3_step.specs.Key.{tone_made, appended, mark_or_later, horn_or_later, key_cells}

-- the cells ds after a key, where cs stood
pub data Framed (cs : List Cell) : List Cell → Type 0 where
  appends : (x : Cell) → Framed cs (cs ++ (x ∷ []))
  changes : (i : ℕ) (x : Cell) → i < length cs → Framed cs (set cs i x)
  changes_two : (i : ℕ) (x y : Cell) → suc i < length cs → Framed cs (set (set cs (suc i) y) i x)

place_both : {A : Type 0} (P : A → Type 0) (p : Option ℕ) (made : ℕ → A) (later : A) → ((i : ℕ) → p ≡ Some i → P (made i)) → P later
    → P (place_or p made later)
place_both P None made later f g = g
place_both P (Some i) made later f g = f i refl

module _ (z : Settings) (cs : List Cell) (key : ℕ) where
  appended_frame : Framed cs (appended cs key)
  unfolding appended
  appended_frame = appends (typed key)

  mark_frame : (k : ℕ) → Framed cs (mark_or_later z cs key k)
  unfolding mark_or_later mark_made
  mark_frame k =
      place_both (Framed cs) (mark_place z.method cs k) (mark_made z.method cs k) (appended cs key)
      (λ i e. changes i _ (place_marks z.method cs k i e).below) appended_frame

  horn_frame : (k : ℕ) → Framed cs (horn_or_later z cs key k)
  unfolding horn_or_later uo_made ua_made
  horn_frame k =
      pick_both (Framed cs) (is_horn_key z.method k) _ _
      (λ e. place_both (Framed cs) (uo_place cs) (uo_made z.capitals cs) _ (λ i u. changes_two i _ _ (uo_below cs i u))
      (place_both (Framed cs) (ua_place cs) (ua_made cs) _ (λ i u. changes i _ (ua_below cs i u)) (mark_frame k)))
      (λ e. mark_frame k)

  pub key_frame : Framed cs (key_cells z cs key)
  unfolding key_cells tone_made
  key_frame =
      pick_both (Framed cs) (is_tone_key z.method (ascii_lower key)) _ _
      (λ t. pick_both (Framed cs) (any_vowel cs) _ _ (λ v. changes (tone_place cs) _ (tone_below cs (vowel_some cs v)))
      (λ v. horn_frame (ascii_lower key)))
      (λ t. horn_frame (ascii_lower key))
