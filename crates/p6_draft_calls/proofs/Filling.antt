-- The cells of a draft, stored one by one in a composition that has none.
use Prim.Native.Nat.{ℕ, ◌+◌, ◌*◌, ◌-◌, ◌≤◌, ◌<◌}
use mathlib.Core.Path.{◌≡◌, refl, sym, ap, ◌∙◌}
use mathlib.Core.Bool.{true}
use mathlib.Core.List.{List, [], ◌∷◌, ◌++◌, append-nil}
use native.Mathlib.Omega.{arith}
use lib.Dec.{eqb}
use lib.ListN.{length, take, drop, set, drop_of_length-le}
use mir.Syntax.{w8, w64}
use mir.Val.{Fits}
use Rattle.p2_input_method.specs.declared.InputMethod.TheVariants.{Telex}
use Rattle.p3_cells.specs.Cells.{limit, composed}
use Rattle.p3_cells.specs.Mirror.{places, with_cell, with_count, with_settings}
use Rattle.p3_cells.specs.Settings.{at_first, with_method, with_mode}
use Rattle.p3_cells.specs.declared.Cell.{Cell}
use Rattle.p3_cells.specs.declared.Composition.{Composition}
use Rattle.p3_cells.specs.declared.Settings.{Settings}
use Rattle.p3_cells.proofs.Holding.{composed_append, count_again, length_held}
use Rattle.p6_bytes.specs.Bytes.{size, bytes_of, method_of, mode_of}
use Rattle.p6_bytes.specs.Mirror.{stored}
use Rattle.p6_bytes.proofs.Round.{method_forth, mode_forth, flag_forth}
use Rattle.p6_bytes.proofs.Stored.{cell_stored, count_stored, method_stored, mode_stored, capitals_stored, begun_bytes}
use Rattle.p6_zeros.specs.Zeros.{zeros, byte_at}
use Rattle.p6_draft.specs.Mirror.{draft_head, draft_start, draft_cell_at, draft_cells_at, draft_settings, draft_count, draft_composition, is_draft}
use Rattle.p6_draft.proofs.Reading.{cells_length, cells_more}
use Rattle.p6_draft.proofs.Tests.{draft_few, draft_long}
use Rattle.p6_draft.proofs.Round.{method_read, mode_read, capitals_read}

-- ---- i of n cells are stored
unfoldable pub filled : List ℕ → ℕ → ℕ → Composition
filled b n i = with_count (composed (draft_settings b n) (draft_cells_at i b draft_head)) n

module _ (b : List ℕ) (n : ℕ) where
  pub filled_start : (z : Settings) (c : Composition) → c ≡ composed z [] → z ≡ draft_settings b n → with_count c n ≡ filled b n 0
  unfolding filled
  filled_start z c e p = ap (λ (d : Composition). with_count d n) (e ∙ ap (λ (y : Settings). composed y []) p)

  pub filled_on : (c : Composition) (i : ℕ) (x : Cell) → c ≡ filled b n i → x ≡ draft_cell_at b (draft_start i) → i < n → n ≤ limit
      → with_cell c i x ≡ filled b n (i + 1)
  unfolding filled
  filled_on c i x e p h l =
      let z = draft_settings b n in
      ap (λ (d : Composition). with_cell d i x) e
      ∙ ap (λ (d : Composition). with_count d n)
      (composed_append z (draft_cells_at i b draft_head) i x (cells_length i b draft_head) (omega arith))
      ∙ ap (λ (xs : List Cell). with_count (composed z xs) n)
      (ap (λ (y : Cell). draft_cells_at i b draft_head ++ (y ∷ [])) p ∙ sym (cells_more i b draft_head))

  pub filled_done : (i : ℕ) → n ≡ draft_count b → i ≤ n → n ≤ i → filled b n i ≡ draft_composition b
  unfolding filled draft_composition
  filled_done i p l h =
      let d : i ≡ n = omega arith in
      rw d (count_again (draft_settings b n) (draft_cells_at n b draft_head) n (cells_length n b draft_head) ∙ rw p refl)

filled_places : (b : List ℕ) (n i : ℕ) → i ≤ limit → places (filled b n i) ≡ limit
unfolding filled
filled_places b n i h = length_held (draft_settings b n) (draft_cells_at i b draft_head) (omega (arith, cells_length i b draft_head))

pub composition_is : (b : List ℕ) (n i : ℕ) (c : Composition) → c ≡ filled b n i → n ≡ draft_count b → i ≤ n → n ≤ i
    → c ≡ draft_composition b
composition_is b n i c e p l h = e ∙ filled_done b n i p l h

-- ---- in bytes
-- the count as a byte, and where the byte of capitals stands
module _ (b : List ℕ) (s : is_draft b ≡ true) (n : ℕ) (p : n ≡ draft_count b) where
  pub count_byte : Fits w8 n
  count_byte = omega (arith, draft_few b s n p)

  pub cells_wide : Fits w64 (7 * n)
  cells_wide = omega (arith, draft_few b s n p)

  pub start_wide : Fits w64 (draft_start n)
  start_wide = omega (arith, draft_few b s n p)

  pub flag_wide : Fits w64 (draft_start n + 3)
  flag_wide = omega (arith, draft_few b s n p)

  pub flag_there : draft_start n + 3 < length b
  flag_there = omega (arith, draft_long b s n p)

-- the settings and the count, over zeros
module _ (b : List ℕ) (f : (k : ℕ) → Fits w8 (byte_at b k)) (s : is_draft b ≡ true) (n : ℕ) (p : n ≡ draft_count b) where
  abbrev bare : Composition
  bare = composed (at_first Telex) []

  zeroed : (old s0 : List ℕ) → length old ≡ size → s0 ≡ take 0 old ++ (zeros (size - 0) ++ drop size old) → s0 ≡ bytes_of bare
  zeroed old s0 l e =
      let h : length old ≤ size = omega arith in
      e ∙ ap (λ (r : List ℕ). zeros size ++ r) (drop_of_length-le old h) ∙ append-nil (zeros size) ∙ begun_bytes Telex

  pub head_filled : (old s0 : List ℕ) → length old ≡ size → s0 ≡ take 0 old ++ (zeros (size - 0) ++ drop size old)
      → set (set (set (set s0 0 (byte_at b 3)) 1 (byte_at b 7)) 2 n) 3 (byte_at b (draft_start n + 3)) ≡ bytes_of (filled b n 0)
  unfolding filled draft_settings composed
  head_filled old s0 l e =
      let bytes : (k : ℕ) → byte_at b k < 256 = λ k. (f k).fits in
      let m = method_of (byte_at b 3) in
      let o = mode_of (byte_at b 7) in
      let v = byte_at b (draft_start n + 3) in
      let small : v ≤ 1 = rw p (capitals_read b bytes s) in
      let c1 = with_settings bare (with_method bare.settings m) in
      let c2 = with_settings c1 (with_mode c1.settings o) in
      ap (λ (x : List ℕ). set (set (set (set x 0 (byte_at b 3)) 1 (byte_at b 7)) 2 n) 3 v) (zeroed old s0 l e)
      ∙ ap (λ (x : List ℕ). set (set (set x 1 (byte_at b 7)) 2 n) 3 v)
      (method_stored bare m (byte_at b 3) (sym (method_forth (byte_at b 3) (method_read b bytes s))))
      ∙ ap (λ (x : List ℕ). set (set x 2 n) 3 v)
      (mode_stored c1 o (byte_at b 7) (sym (mode_forth (byte_at b 7) (mode_read b bytes s))))
      ∙ ap (λ (x : List ℕ). set x 3 v) (count_stored c2 n)
      ∙ capitals_stored (with_count c2 n) (eqb v 1) v (sym (flag_forth v small))

-- a cell more
pub cell_filled : (b old new : List ℕ) (n i : ℕ) (x : Cell) → old ≡ bytes_of (filled b n i) → new ≡ stored old i x
    → x ≡ draft_cell_at b (draft_start i) → i < n → n ≤ limit → new ≡ bytes_of (filled b n (i + 1))
cell_filled b old new n i x e f p h l =
    let w : places (filled b n i) ≡ limit = filled_places b n i (omega arith) in
    f ∙ ap (λ (y : List ℕ). stored y i x) e ∙ cell_stored (filled b n i) i x (omega arith)
    ∙ ap bytes_of (filled_on b n (filled b n i) i x refl p h l)

pub bytes_filled : (b s : List ℕ) (n i : ℕ) → s ≡ bytes_of (filled b n i) → n ≡ draft_count b → i ≤ n → n ≤ i
    → s ≡ bytes_of (draft_composition b)
bytes_filled b s n i e p l h = e ∙ ap bytes_of (filled_done b n i p l h)

-- every way through the filling of bytes
pub ruleset filling = (count_byte, cells_wide, start_wide, flag_wide, flag_there, head_filled, cell_filled, bytes_filled)
