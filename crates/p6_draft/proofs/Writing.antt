-- Writing a draft: a field, what stands before the cells, the cells one by one, what stands after them.
use Prim.Native.Nat.{ℕ, suc, ◌+◌, ◌*◌, ◌≤◌, ◌<◌}
use mathlib.Core.Path.{◌≡◌, refl, sym, ap, ◌∙◌}
use mathlib.Core.List.{List, [], ◌∷◌, ◌++◌, append_assoc, append-nil}
use native.Mathlib.Omega.{arith}
use lib.ListN.{length, length-append}
use lib.Seq.{take-suc, length-take-le}
use Rattle.p3_cells.specs.Cells.{limit, blank, used}
use Rattle.p3_cells.specs.Mirror.{cell_of, places, first_cells}
use Rattle.p3_cells.specs.declared.Cell.{Cell}
use Rattle.p3_cells.specs.declared.Composition.{Composition}
use Rattle.p6_bytes.specs.Bytes.{method_byte, mode_byte, flag_byte}
use Rattle.p6_draft.specs.Draft.{field, draft_cell, draft_cells, fields, draft_of}
use Rattle.p6_draft.specs.Mirror.{draft_head, draft_start, draft_length, put_at, field_start, head_fields}
use Rattle.p6_draft.proofs.Put.{put_none, put_more}

-- ---- one field
-- ---- what stands before the cells
pub head_put : (o b1 b2 new : List ℕ) (m k n : ℕ) → b1 ≡ put_at 0 (field 1 (m ∷ [])) o → b2 ≡ put_at 4 (field 2 (k ∷ [])) b1
    → new ≡ put_at 8 (field_start 3 (7 * n)) b2 → draft_head ≤ length o → new ≡ put_at 0 (head_fields m k n) o
unfolding head_fields field field_start
head_put o b1 b2 new m k n e f g h =
    put_more o b2 new _ (field_start 3 (7 * n)) 0 8 (put_more o b1 b2 _ (field 2 (k ∷ [])) 0 4 e refl f (omega arith)) refl g (omega arith)

-- ---- a cell
-- ---- the cells
pub cell_length : (x : Cell) → length (draft_cell x) ≡ 7
unfolding draft_cell
cell_length x = refl

pub cells_length : (xs : List Cell) → length (draft_cells xs) ≡ 7 * length xs
cells_length [] = refl
cells_length (x ∷ xs) = let h = cells_length xs in omega (arith, length-append (draft_cell x) (draft_cells xs), cell_length x)

pub cells_append : (xs : List Cell) (x : Cell) → draft_cells (xs ++ (x ∷ [])) ≡ draft_cells xs ++ draft_cell x
cells_append [] x = append-nil (draft_cell x)
cells_append (y ∷ ys) x =
    ap (λ (l : List ℕ). draft_cell y ++ l) (cells_append ys x) ∙ sym (append_assoc (draft_cell y) (draft_cells ys) (draft_cell x))

module _ (c : Composition) (o : List ℕ) where
  pub cells_start : o ≡ put_at draft_head (draft_cells (first_cells c 0)) o
  cells_start = put_none o draft_head

  pub cells_on : (b new : List ℕ) (i n : ℕ) (x : Cell) → b ≡ put_at draft_head (draft_cells (first_cells c i)) o → x ≡ cell_of c i
      → new ≡ put_at (draft_start i) (draft_cell x) b → i < n → n ≤ limit → places c ≡ limit → draft_start n ≤ length o
      → new ≡ put_at draft_head (draft_cells (first_cells c (i + 1))) o
  cells_on b new i n x e p f h l w r =
      let d : i + 1 ≡ suc i = omega arith in
      let k : length (draft_cells (first_cells c i)) ≡ 7 * i =
      omega (arith, cells_length (first_cells c i), length-take-le i c.cells (omega arith)) in
      let t : draft_cells (first_cells c (i + 1)) ≡ draft_cells (first_cells c i) ++ draft_cell x =
      ap (λ (m : ℕ). draft_cells (first_cells c m)) d
      ∙ ap draft_cells (take-suc c.cells i blank (omega arith) ∙ ap (λ (y : Cell). first_cells c i ++ (y ∷ [])) (sym p))
      ∙ cells_append (first_cells c i) x in
      rw t (put_more o b new (draft_cells (first_cells c i)) (draft_cell x) draft_head (draft_start i) e (omega arith) f
      (omega (arith, cell_length x)))

-- ---- the whole draft
pub draft_parts : (c : Composition) (n : ℕ) → length (used c) ≡ n
    → draft_of c ≡ (head_fields (method_byte c.settings.method) (mode_byte c.settings.mode) n ++ draft_cells (used c))
    ++ field 4 (flag_byte c.settings.capitals ∷ [])
unfolding draft_of fields head_fields field field_start
draft_parts c n e =
    let l : length (draft_cells (used c)) ≡ 7 * n = omega (arith, cells_length (used c)) in
    rw l refl

pub head_length : (m k n : ℕ) → length (head_fields m k n) ≡ draft_head
unfolding head_fields field field_start
head_length m k n = refl

pub draft_length_lem : (c : Composition) (n : ℕ) → length (used c) ≡ n → length (draft_of c) ≡ draft_length n
unfolding field
draft_length_lem c n e =
    let h = head_fields (method_byte c.settings.method) (mode_byte c.settings.mode) n in
    let t = field 4 (flag_byte c.settings.capitals ∷ []) in
    omega (
      arith,
      ap length (draft_parts c n e),
      length-append (h ++ draft_cells (used c)) t,
      length-append h (draft_cells (used c)),
      head_length (method_byte c.settings.method) (mode_byte c.settings.mode) n,
      cells_length (used c),
    )

module _ (c : Composition) (o b1 b2 new : List ℕ) (m k v n : ℕ) (u : length (used c) ≡ n) (p : m ≡ method_byte c.settings.method)
    (q : k ≡ mode_byte c.settings.mode) (r : v ≡ flag_byte c.settings.capitals) (e : b1 ≡ put_at 0 (head_fields m k n) o)
    (f : b2 ≡ put_at draft_head (draft_cells (used c)) b1) (g : new ≡ put_at (draft_start n) (field 4 (v ∷ [])) b2)
    (h : draft_length n ≤ length o) where
  pub draft_put : new ≡ put_at 0 (draft_of c) o
  unfolding field
  draft_put =
      let l = cells_length (used c) in
      let w = head_length m k n in
      let s : b2 ≡ put_at 0 (head_fields m k n ++ draft_cells (used c)) o =
      put_more o b1 b2 (head_fields m k n) (draft_cells (used c)) 0 draft_head e (omega arith) f (omega arith) in
      let j = length-append (head_fields m k n) (draft_cells (used c)) in
      put_more o b2 new _ (field 4 (v ∷ [])) 0 (draft_start n) s (omega arith) g (omega arith)
      ∙ rw (p, q, r) (ap (λ (x : List ℕ). put_at 0 x o) (sym (draft_parts c n u)))
