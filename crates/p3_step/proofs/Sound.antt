-- The cells after a key are as soundness asks, where those before it are and the key is a letter.
use Rattle.std.specs.Prelude.{None, Option, Some}
use Prim.Native.Nat.{ℕ, suc, ◌<◌}
use mathlib.Core.Path.{◌≡◌, refl}
use mathlib.Core.Bool.{Bool, true, false}
use mathlib.Core.List.{List, [], ◌∷◌, ◌++◌}
use lib.ListN.{length, get_or, set}
use Rattle.p0_choice.specs.Choice.{pick, among, each}
use Rattle.p0_choice.specs.Text.{word}
use Rattle.p1_letters.specs.Alphabet.{in_alphabet, ascii_lower}
use Rattle.p2_input_method.specs.Rules.{is_tone_key, is_horn_key, mark_for}
use Rattle.p3_cells.specs.declared.Settings.{Settings}
use Rattle.p3_cells.specs.Cells.{blank, typed, marks, is_cell}
use Rattle.p3_cells.specs.Place.{place_or}
use Rattle.p3_cells.specs.declared.Cell.{Cell}
use Rattle.p0_choice.proofs.Tests.{each_at, each_set, each_append}
use Rattle.p3_cells.proofs.Made.{tone_key_tone, mark_for_mark, typed_cell_lem, toned_cell, marked_cell, bare_marked_cell}
use Rattle.p3_tone.specs.TonePlace.{any_vowel, tone_place}
use Rattle.p3_tone.proofs.Bound.{vowel_some, tone_below}
use Rattle.p3_marks.specs.Uo.{base_at, uo_place, horn_u, horn_o, uo_made}
use Rattle.p3_marks.specs.Ua.{ua_place, marked, ua_made}
use Rattle.p3_marks.specs.Mark.{mark_place, mark_made}
use Rattle.p3_marks.proofs.Uo.{uo_below}
use Rattle.p3_marks.proofs.Ua.{ua_below}
use Rattle.p3_marks.proofs.Mark.{place_marks}
use Rattle.p3_step.specs.Key.{with_tone, tone_made, appended, mark_or_later, horn_or_later, key_cells}

module _ (z : Settings) (cs : List Cell) (s : each is_cell cs ≡ true) where
  -- a mark on one cell
  marked_kept : (i l : ℕ) → i < length cs → among l marks ≡ true → each is_cell (set cs i (marked (get_or cs i blank) l)) ≡ true
  unfolding marked
  marked_kept i l h e =
      each_set is_cell cs i (marked (get_or cs i blank) l) s
      (marked_cell l (get_or cs i blank) (get_or cs i blank).upper e (each_at is_cell blank cs s i h))

  horn_mark : among 0x1b0 marks ≡ true
  unfolding marks word
  horn_mark = refl

  pair_kept : (i : ℕ) → suc i < length cs → each is_cell (uo_made z.capitals cs i) ≡ true
  unfolding uo_made horn_u horn_o marks word
  pair_kept i h =
      each_set is_cell (set cs (suc i) (horn_o z.capitals (get_or cs (suc i) blank))) i (horn_u (get_or cs i blank) (get_or cs (suc i) blank))
      (each_set is_cell cs (suc i) (horn_o z.capitals (get_or cs (suc i) blank)) s (bare_marked_cell 0x1a1 _ refl))
      (marked_cell 0x1b0 (get_or cs (suc i) blank) (get_or cs i blank).upper horn_mark (each_at is_cell blank cs s (suc i) h))

  module _ (key : ℕ) (a : in_alphabet key ≡ true) where
    mark_kept : (k : ℕ) → each is_cell (mark_or_later z cs key k) ≡ true
    unfolding mark_or_later mark_made appended
    mark_kept k = go (mark_place z.method cs k) refl
      where
        go : (p : Option ℕ) → mark_place z.method cs k ≡ p
            → each is_cell (place_or p (λ i. set cs i (marked (get_or cs i blank) (mark_for z.method (base_at cs i) k)))
            (cs ++ (typed key ∷ []))) ≡ true
        go None e = each_append is_cell cs (typed key) s (typed_cell_lem key a)
        go (Some i) e = let h = place_marks z.method cs k i e in
            marked_kept i (mark_for z.method (base_at cs i) k) h.below (mark_for_mark z.method (base_at cs i) k h.rule)

    horn_kept : (k : ℕ) → each is_cell (horn_or_later z cs key k) ≡ true
    unfolding horn_or_later ua_made
    horn_kept k = go (is_horn_key z.method k) (uo_place cs) (ua_place cs) refl refl
      where
        go : (v : Bool) (p q : Option ℕ) → uo_place cs ≡ p → ua_place cs ≡ q
            → each is_cell (pick v (place_or p (uo_made z.capitals cs)
            (place_or q (λ i. set cs i (marked (get_or cs i blank) 0x1b0)) (mark_or_later z cs key k))) (mark_or_later z cs key k)) ≡ true
        go false p q e f = mark_kept k
        go true (Some i) q e f = pair_kept i (uo_below cs i e)
        go true None (Some i) e f = marked_kept i 0x1b0 (ua_below cs i f) horn_mark
        go true None None e f = mark_kept k

    pub key_cells_kept : each is_cell (key_cells z cs key) ≡ true
    unfolding key_cells tone_made with_tone
    key_cells_kept = go (is_tone_key z.method (ascii_lower key)) (any_vowel cs) refl refl
      where
        go : (u v : Bool) → is_tone_key z.method (ascii_lower key) ≡ u → any_vowel cs ≡ v
            → each is_cell (pick u (pick v (set cs (tone_place cs) (with_tone (get_or cs (tone_place cs) blank) (ascii_lower key)))
            (horn_or_later z cs key (ascii_lower key))) (horn_or_later z cs key (ascii_lower key))) ≡ true
        go true true e f =
            each_set is_cell cs (tone_place cs) (with_tone (get_or cs (tone_place cs) blank) (ascii_lower key)) s
            (toned_cell (get_or cs (tone_place cs) blank) (ascii_lower key)
            (each_at is_cell blank cs s (tone_place cs) (tone_below cs (vowel_some cs f))) (tone_key_tone z.method (ascii_lower key) e))
        go true false e f = horn_kept (ascii_lower key)
        go false v e f = horn_kept (ascii_lower key)
