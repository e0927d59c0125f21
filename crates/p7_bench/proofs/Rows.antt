-- The floor's row: its letters stand at the start of an array, and are copied to the text.
use Prim.Native.Nat.{ℕ, ◌+◌, ◌≤◌, ◌<◌}
use mathlib.Core.Path.{◌≡◌, refl, sym, ap, ◌∙◌}
use mathlib.Core.List.{List, ◌++◌}
use native.Mathlib.Omega.{arith}
use native.Mathlib.Numerals.{add-one}
use lib.Dec.{ltb}
use borrow.Author.Tests.{ltb-false}
use lib.ListN.{length, take, drop, get_or, set, length-set, length-append, length-drop}
use lib.Seq.{take-suc-set, length-take-le, take_all}
use Rattle.p0_choice.proofs.Choices.{pick_lt, pick_eq, pick_ne, pick_both}
use Rattle.p0_choice.specs.Text.{line_end}
use Rattle.p3_cells.specs.Cells.{limit}
use Rattle.p7_bench.specs.Run.{after_keys}
use Rattle.p7_bench.specs.Floor.{Sheet, copied, free_place, longer, lay, blank_sheet}
use Rattle.p7_bench.proofs.Run.{Run, run_start, run_more, run_end}

-- ---- the copy
pub copy_short : (row d : List ℕ) → length d < length row → d ≡ copied row d
unfolding copied
copy_short row d h = pick_lt (length d) (length row) _ _ _ h refl

-- ---- the row
pub record Laying (keys d text row : List ℕ) (count i : ℕ) : Type 0 where
  pub few : count ≤ limit
  pub wide : length row ≡ limit
  pub kept : length text ≡ length d
  pub run : Run lay (blank_sheet d) keys (record { row = take count row; text = text }) i

-- where the row is full, nothing of it stays
stays : (row : List ℕ) (count : ℕ) → length row ≡ limit → count ≤ limit
    → take (free_place (length (take count row))) (take count row) ≡ take (free_place count) row
unfolding free_place
stays row count e h =
    rw (length-take-le count row (omega arith))
    (pick_both (λ (n : ℕ). take n (take count row) ≡ take n row) (ltb count limit) count 0
    (λ t. take_all count (take count row) (omega (arith, length-take-le count row (omega arith)))) (λ t. refl))

copied_length : (row text : List ℕ) → length (copied row text) ≡ length text
unfolding copied
copied_length row text =
    pick_both (λ (r : List ℕ). length r ≡ length text) (ltb (length text) (length row)) text (row ++ drop (length row) text)
    (λ t. refl) (λ t. rw (length-append, length-drop) (omega (arith, ltb-false (length text) (length row) t)))

module _ (keys d : List ℕ) where
  pub lay_start : (row : List ℕ) → length row ≡ limit → Laying keys d d row 0 0
  unfolding blank_sheet
  lay_start row w = record { few = omega arith; wide = w; kept = refl; run = run_start lay (blank_sheet d) keys }

  module _ (text row : List ℕ) (count i : ℕ) (h : i < length keys) (l : Laying keys d text row count i) where
    pub lay_line : get_or keys i 0 ≡ line_end → Laying keys d text row 0 (i + 1)
    unfolding lay
    lay_line e = record {
      few = omega arith;
      wide = l.wide;
      kept = l.kept;
      run = run_more lay (blank_sheet d) keys _ _ i h (pick_eq _ _ _ _ _ e refl) l.run;
    }

    pub lay_room : (at k : ℕ) → at < limit → at + 1 ≤ length (set row at k)
    lay_room at k b = rw (length-set row at k, l.wide) (omega arith)

    pub lay_more : (at : ℕ) (text' : List ℕ) → at ≡ free_place count → at < limit → (get_or keys i 0 ≡ line_end → ⊥)
        → text' ≡ copied (take (at + 1) (set row at (get_or keys i 0))) text
        → Laying keys d text' (set row at (get_or keys i 0)) (at + 1) (i + 1)
    unfolding lay longer
    lay_more at text' f b n e =
        let r : take (at + 1) (set row at (get_or keys i 0)) ≡ longer (take count row) (get_or keys i 0) =
        rw (add-one, take-suc-set row at (get_or keys i 0) (omega (arith, l.wide)), stays row count l.wide l.few, ← f) refl in
        record {
          few = omega arith;
          wide = length-set row at _ ∙ l.wide;
          kept = ap length e ∙ copied_length _ text ∙ l.kept;
          run = run_more lay (blank_sheet d) keys _ _ i h (pick_ne _ _ _ _ _ n (rw (e, r) refl)) l.run;
        }

  module _ (text row : List ℕ) (count i : ℕ) (h : length keys ≤ i) (l : Laying keys d text row count i) where
    pub lay_count : count ≡ length (after_keys lay (blank_sheet d) keys).row
    lay_count =
        sym (length-take-le count row (omega (arith, l.few, l.wide)))
        ∙ ap (λ (p : Sheet). length p.row) (run_end lay (blank_sheet d) keys _ i h l.run)

    pub lay_text : text ≡ (after_keys lay (blank_sheet d) keys).text
    lay_text = ap (λ (p : Sheet). p.text) (run_end lay (blank_sheet d) keys _ i h l.run)
