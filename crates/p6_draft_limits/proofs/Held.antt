-- Soundness and compositions with m places: at `limit` they are the present ones, and a sound composition is its settings and its cells
-- in use, whatever m is.
use Prim.Native.Nat.{ℕ, ◌+◌, ◌-◌, ◌<◌, ◌≤◌}
use mathlib.Core.Path.{◌≡◌, refl, sym, ap, ◌∙◌}
use mathlib.Core.Bool.{Bool, true, false}
use mathlib.Core.List.{List, ◌++◌}
use native.Mathlib.Omega.{arith}
use lib.Dec.{eqb, ltb, leb}
use lib.ListN.{length, get_or, drop, length-append, length-drop, take-append-drop, get_or-append}
use lib.Seq.{take-append_seam, get_or-drop, get_or-append-add, ext_get_or}
use borrow.Author.Tests.{eqb-true, eq-eqb, leb-true, le-leb, ltb-true, ltb-false}
use Rattle.p0_choice.specs.Choice.{each, from}
use Rattle.p0_choice.proofs.Tables.{each_count}
use Rattle.p0_choice.proofs.Tests.{both_are, holds, each_from, each_at, at_each}
use Rattle.p3_cells.specs.Cells.{limit, blank, blanks, is_cell, fits_at, is_sound, used, composed}
use Rattle.p3_cells.specs.declared.Cell.{Cell}
use Rattle.p3_cells.specs.declared.Composition.{Composition}
use Rattle.p3_cells.specs.declared.Settings.{Settings}
use Rattle.p3_cells.proofs.Holding.{length_blanks, blanks_at, used_count, used_at}
use Rattle.p3_cells.proofs.Soundness.{blank_is, is_blank_lem, fits_used, fits_past}
use Rattle.p6_draft_limits.specs.Within.{sound_within, composed_within, within}

-- ---- the limit is all that differs
pub sound_now : (c : Composition) → sound_within limit c ≡ is_sound c
unfolding sound_within is_sound
sound_now c = refl

pub composed_now : (z : Settings) (xs : List Cell) → composed_within limit z xs ≡ composed z xs
unfolding composed_within composed
composed_now z xs = refl

-- ---- a composition of settings and cells
module _ (m : ℕ) (z : Settings) (xs : List Cell) where
  pub settings_within : (composed_within m z xs).settings ≡ z
  unfolding composed_within
  settings_within = refl

  pub used_within : used (composed_within m z xs) ≡ xs
  unfolding used composed_within
  used_within = take-append_seam xs (blanks (m - length xs))

  pub composed_within_lem : length xs ≤ m → each is_cell xs ≡ true → sound_within m (composed_within m z xs) ≡ true
  unfolding sound_within composed_within
  composed_within_lem h e =
      let l : length (xs ++ blanks (m - length xs)) ≡ m = rw (length-append, length_blanks) (omega arith) in
      rw (eq-eqb _ m l, le-leb (length xs) m h)
      (each_from (fits_at (xs ++ blanks (m - length xs)) (length xs)) m 0 (λ i l k. at i (ltb i (length xs)) refl))
    where
      at : (i : ℕ) (b : Bool) → ltb i (length xs) ≡ b → fits_at (xs ++ blanks (m - length xs)) (length xs) i ≡ true
      at i true q =
          let l : i < length xs = ltb-true i (length xs) q in
          fits_used (xs ++ blanks (m - length xs)) (length xs) i l
          ∙ rw (get_or-append xs (blanks (m - length xs)) blank i l) (each_at is_cell blank xs e i l)
      at i false q =
          let l : length xs ≤ i = ltb-false i (length xs) q in
          let d : i ≡ length xs + (i - length xs) = omega arith in
          let y : get_or (xs ++ blanks (m - length xs)) i blank ≡ blank =
          rw (d, get_or-append-add) (blanks_at (m - length xs) (i - length xs)) in
          fits_past (xs ++ blanks (m - length xs)) (length xs) i l ∙ rw y is_blank_lem

-- ---- what is sound
module _ (m : ℕ) (c : Composition) (s : sound_within m c ≡ true) where
  facts : (length c.cells ≡ m) × (c.count ≤ m) × ((i : ℕ) → i < m → fits_at c.cells c.count i ≡ true)
  unfolding sound_within
  facts =
      let w = both_are (eqb (length c.cells) m) _ s in
      let p = both_are (leb c.count m) (each (fits_at c.cells c.count) (from m 0)) w.1 in (
        eqb-true (length c.cells) m w.0,
        leb-true c.count m p.0,
        λ i h. each_count (fits_at c.cells c.count) m 0 (holds _ p.1) i (omega arith) (omega arith),
      )

  pub few_within : c.count ≤ m
  few_within = facts.1

  pub length_within : length (used c) ≡ c.count
  length_within = used_count c (omega (arith, facts.0, facts.1))

  pub cells_within : each is_cell (used c) ≡ true
  cells_within =
      let u = length_within in
      let f = few_within in
      at_each is_cell blank (used c) (λ i h.
      rw (used_at c i (omega arith)) (sym (fits_used c.cells c.count i (omega arith)) ∙ facts.2 i (omega arith)))

  rest : drop c.count c.cells ≡ blanks (m - c.count)
  rest =
      let l = facts.0 in
      let f = few_within in
      let n : length (drop c.count c.cells) ≡ m - c.count = rw length-drop (omega arith) in
      ext_get_or blank (drop c.count c.cells) (blanks (m - c.count)) (n ∙ sym (length_blanks (m - c.count))) (λ i h.
      rw get_or-drop (blank_is (get_or c.cells (c.count + i) blank)
      (sym (fits_past c.cells c.count (c.count + i) (omega arith)) ∙ facts.2 (c.count + i) (omega arith)))
      ∙ sym (blanks_at (m - c.count) i))

  -- the array is the cells in use, and what is past them
  parted : c.cells ≡ used c ++ blanks (m - c.count)
  unfolding used
  parted = rw (← rest) (sym (take-append-drop c.count c.cells))

  -- it is its settings and its cells in use
  pub held_within : within m c ≡ c
  unfolding composed_within
  held_within = rw (length_within, ← parted) refl

  -- with another number of places, for as many cells
  pub sound_with : (n : ℕ) → c.count ≤ n → sound_within n (within n c) ≡ true
  sound_with n h = let u = length_within in composed_within_lem n c.settings (used c) (omega arith) cells_within

  -- there and back
  pub within_back : (n : ℕ) → within m (within n c) ≡ c
  within_back n =
      ap (λ (z : Settings). composed_within m z (used (within n c))) (settings_within n c.settings (used c))
      ∙ ap (composed_within m c.settings) (used_within n c.settings (used c)) ∙ held_within
