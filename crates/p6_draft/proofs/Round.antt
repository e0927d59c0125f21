-- What is written is read back, and what is read is written back: a sound composition has one draft, and a draft is that of one.
-- Bytes of specs/ may be any numbers; that a byte is below 256 is a premise.
use Prim.Native.Nat.{ℕ, zero, suc, ◌+◌, ◌*◌, ◌/◌, ◌%◌, ◌≤◌, ◌<◌}
use mathlib.Core.Path.{◌≡◌, refl, sym, ap, ◌∙◌}
use mathlib.Core.Bool.{Bool, true, false}
use mathlib.Core.List.{List, [], ◌∷◌, ◌++◌, append_assoc, map}
use mathlib.Core.Logic.{⊎_elim}
use native.Mathlib.Omega.{arith}
use lib.Dec.{eqb, ltb, leb}
use lib.ListN.{length, take, drop, length-append, length-drop, take-append-drop}
use lib.Seq.{get_or-append-add, drop-cons, drop-drop, take-add, take_all}
use borrow.Author.Tests.{eq-eqb, eqb-true, ltb-true, le-ltb, le-leb, leb-true}
use Rattle.p0_choice.specs.Choice.{pick, among, each, from}
use Rattle.p0_choice.specs.Text.{word}
use Rattle.p0_choice.proofs.Tables.{each_among, each_count}
use Rattle.p0_choice.proofs.Tests.{both_are, holds, each_from, at_each}
use Rattle.p3_cells.specs.Cells.{limit, blank, marks, is_cell, is_sound, used, composed}
use Rattle.p3_cells.specs.Soundness.{SoundCell}
use Rattle.p3_cells.specs.declared.Cell.{Cell}
use Rattle.p3_cells.specs.declared.Composition.{Composition}
use Rattle.p3_cells.proofs.Soundness.{cell_is}
use Rattle.p3_cells.proofs.Holding.{count_fits, used_length, used_cells, used_held, settings_held, composed_sound, holding_used}
use Rattle.p6_bytes.specs.Bytes.{method_byte, mode_byte, flag_byte, method_of, mode_of}
use Rattle.p6_bytes.proofs.Round.{flag_back, flag_small, method_back, mode_back, method_small, mode_small, method_forth, mode_forth}
use Rattle.p6_bytes.proofs.Round.{flag_forth}
use Rattle.p6_zeros.specs.Zeros.{byte_at}
use Rattle.p6_draft.specs.Draft.{field, mark_byte, draft_cell, draft_cells, draft_of}
use Rattle.p6_draft.specs.Mirror.{draft_head, draft_start, draft_frame, draft_length, field_start, head_fields, four_at, read_mark}
use Rattle.p6_draft.specs.Mirror.{draft_cell_at}
use Rattle.p6_draft.specs.Mirror.{draft_cells_at, draft_settings, draft_count, draft_composition, field_fits, frame_fits, draft_cell_fits}
use Rattle.p6_draft.specs.Mirror.{draft_cells_fit, is_draft}
use Rattle.p6_draft.proofs.Writing.{cell_length, cells_length as bytes_length, head_length, draft_parts, draft_length_lem}
use Rattle.p6_draft.proofs.Reading.{cells_length, cells_at_lem}
use Rattle.p6_draft.proofs.Tests.{draft_few, draft_long, draft_fields, draft_cells_lem}

-- ---- a field of one byte, both ways
module _ (b : List ℕ) (at tag : ℕ) where
  field_there : (v : ℕ) → byte_at b at ≡ tag → byte_at b (at + 1) ≡ 0 → byte_at b (at + 2) ≡ 1 → byte_at b (at + 3) ≡ v → v ≤ 1
      → field_fits b at tag ≡ true
  unfolding field_fits four_at
  field_there v p q r s h =
      let w : (byte_at b at * 16777216 + byte_at b (at + 1) * 65536 + byte_at b (at + 2) * 256 + byte_at b (at + 3)) / 2 ≡ tag * 8388608 + 128
      = omega arith in
      eq-eqb _ _ w

  module _ (bytes : (k : ℕ) → byte_at b k < 256) (t : tag < 256) (h : field_fits b at tag ≡ true) where
    whole : (byte_at b at * 16777216 + byte_at b (at + 1) * 65536 + byte_at b (at + 2) * 256 + byte_at b (at + 3)) / 2 ≡ tag * 8388608 + 128
    unfolding field_fits four_at
    whole = eqb-true _ _ h

    field_tag : byte_at b at ≡ tag
    field_tag = omega (arith, whole, bytes at, bytes (at + 1), bytes (at + 2), bytes (at + 3))

    field_high : byte_at b (at + 1) ≡ 0
    field_high = omega (arith, whole, bytes at, bytes (at + 1), bytes (at + 2), bytes (at + 3))

    field_low : byte_at b (at + 2) ≡ 1
    field_low = omega (arith, whole, bytes at, bytes (at + 1), bytes (at + 2), bytes (at + 3))

    field_small : byte_at b (at + 3) ≤ 1
    field_small = omega (arith, whole, bytes at, bytes (at + 1), bytes (at + 2), bytes (at + 3))

-- ---- a cell is read back
four_back : (n : ℕ) → n / 16777216 * 16777216 + n / 65536 % 256 * 65536 + n / 256 % 256 * 256 + n % 256 ≡ n
four_back n = omega arith

-- a mark is its base, and has two bytes
mark_wide : (m : ℕ) → among m marks ≡ true → m < 65536
unfolding marks word
mark_wide m e = ltb-true m 65536 (each_among (λ (y : ℕ). ltb y 65536) marks tt m e)

mark_back_lem : (x : Cell) → SoundCell x → read_mark (mark_byte x) x.base ≡ x.mark
unfolding read_mark mark_byte
mark_back_lem x s = ⊎_elim
    (λ (h : x.mark ≡ 0). rw (eq-eqb x.mark 0 h) (sym h))
    (λ (h : (x.mark ≡ x.base) × (among x.mark marks ≡ true)).
    let w = mark_wide x.mark h.1 in
    go (eqb x.mark 0) refl (omega (arith, h.0)))
    s.mark
  where
    go : (t : Bool) → eqb x.mark 0 ≡ t → x.base % 65536 ≡ x.mark → pick (eqb (pick t 0 1) 0) 0 (x.base % 65536) ≡ x.mark
    go true e h = sym (eqb-true x.mark 0 e)
    go false e h = h

-- the cell that stands after p
module _ (p : List ℕ) (x : Cell) (r : List ℕ) (n : ℕ) (e : length p ≡ n) where
  byte_back : (k : ℕ) → byte_at (p ++ (draft_cell x ++ r)) (n + k) ≡ byte_at (draft_cell x ++ r) k
  byte_back k = rw (← e) (get_or-append-add p (draft_cell x ++ r) k 0)

  cell_back : is_cell x ≡ true → draft_cell_at (p ++ (draft_cell x ++ r)) n ≡ x
  unfolding draft_cell_at four_at draft_cell
  cell_back s =
      let z : n + 0 ≡ n = omega arith in
      let b0 : byte_at (p ++ (draft_cell x ++ r)) n ≡ x.base / 16777216 = rw z at (byte_back 0) in
      rw (b0, byte_back 1, byte_back 2, byte_back 3, byte_back 4, byte_back 5, byte_back 6, four_back x.base, mark_back_lem x (cell_is x s))
      (rw (flag_back x.upper) refl)

-- what the tests ask of a cell
abbrev CellThere : List ℕ → ℕ → Type 0
CellThere b at = (byte_at b (at + 6) ≤ 1) × (byte_at b (at + 4) ≡ mark_byte (draft_cell_at b at)) × (is_cell (draft_cell_at b at) ≡ true)

cell_there : (p : List ℕ) (x : Cell) (r : List ℕ) (n : ℕ) → length p ≡ n → is_cell x ≡ true → CellThere (p ++ (draft_cell x ++ r)) n
unfolding draft_cell
cell_there p x r n e s =
    let b = p ++ (draft_cell x ++ r) in
    let c : draft_cell_at b n ≡ x = cell_back p x r n e s in
    (rw (byte_back p x r n e 6) (flag_small x.upper), rw c (byte_back p x r n e 4), rw c s)

module _ (r : List ℕ) where
  abbrev Joined : List ℕ → Cell → List Cell → Type 0
  Joined p x xs = (p ++ draft_cell x) ++ (draft_cells xs ++ r) ≡ p ++ ((draft_cell x ++ draft_cells xs) ++ r)

  joined : (p : List ℕ) (x : Cell) (xs : List Cell) → Joined p x xs
  joined p x xs = simp append_assoc

  cells_back : (p : List ℕ) (xs : List Cell) (n : ℕ) → length p ≡ n → each is_cell xs ≡ true
      → draft_cells_at (length xs) (p ++ (draft_cells xs ++ r)) n ≡ xs
  cells_back p [] n e s = refl
  cells_back p (x ∷ xs) n e s =
      let q = both_are (is_cell x) (each is_cell xs) s in
      let l : length (p ++ draft_cell x) ≡ n + 7 = omega (arith, length-append p (draft_cell x), cell_length x) in
      let h : draft_cells_at (length xs) (p ++ ((draft_cell x ++ draft_cells xs) ++ r)) (n + 7) ≡ xs
      = rw (← joined p x xs) (cells_back (p ++ draft_cell x) xs (n + 7) l q.1) in
      let c : draft_cell_at (p ++ ((draft_cell x ++ draft_cells xs) ++ r)) n ≡ x
      = rw (append_assoc (draft_cell x) (draft_cells xs) r) (cell_back p x (draft_cells xs ++ r) n e q.0) in
      rw (c, h) refl

  cells_there : (p : List ℕ) (xs : List Cell) (n : ℕ) → length p ≡ n → each is_cell xs ≡ true → (i : ℕ) → i < length xs
      → CellThere (p ++ (draft_cells xs ++ r)) (n + 7 * i)
  cells_there p [] n e s i h = absurd (omega arith)
  cells_there p (x ∷ xs) n e s zero h =
      let z : n + 7 * 0 ≡ n = omega arith in
      let q = both_are (is_cell x) (each is_cell xs) s in
      rw (z, append_assoc (draft_cell x) (draft_cells xs) r) (cell_there p x (draft_cells xs ++ r) n e q.0)
  cells_there p (x ∷ xs) n e s (suc i) h =
      let q = both_are (is_cell x) (each is_cell xs) s in
      let l : length (p ++ draft_cell x) ≡ n + 7 = omega (arith, length-append p (draft_cell x), cell_length x) in
      let z : n + 7 * suc i ≡ n + 7 + 7 * i = omega arith in
      rw (z, ← joined p x xs) (cells_there (p ++ draft_cell x) xs (n + 7) l q.1 i (omega arith))

-- ---- the draft of a sound composition passes the tests, and is read as it
module _ (c : Composition) (s : is_sound c ≡ true) where
  abbrev start_bytes : List ℕ
  start_bytes = head_fields (method_byte c.settings.method) (mode_byte c.settings.mode) c.count

  abbrev end_bytes : List ℕ
  end_bytes = field 4 (flag_byte c.settings.capitals ∷ [])

  parts : draft_of c ≡ start_bytes ++ (draft_cells (used c) ++ end_bytes)
  parts = draft_parts c c.count (used_length c s) ∙ append_assoc start_bytes (draft_cells (used c)) end_bytes

  start_length : length start_bytes ≡ draft_head
  start_length = head_length (method_byte c.settings.method) (mode_byte c.settings.mode) c.count

  written_length : length (draft_of c) ≡ draft_length c.count
  written_length = draft_length_lem c c.count (used_length c s)

  written_count : draft_count (draft_of c) ≡ c.count
  unfolding draft_count
  written_count = let l = written_length in omega arith

  -- the bytes after the cells
  end_byte : (j : ℕ) → byte_at (draft_of c) (draft_start c.count + j) ≡ byte_at end_bytes j
  end_byte j =
      let p = start_bytes ++ draft_cells (used c) in
      let l : draft_start c.count ≡ length p =
      omega (arith, length-append start_bytes (draft_cells (used c)), start_length, bytes_length (used c), used_length c s) in
      rw (draft_parts c c.count (used_length c s), l) (get_or-append-add p end_bytes j 0)

  written_frame : frame_fits (draft_of c) c.count ≡ true
  unfolding frame_fits field head_fields field_start
  written_frame =
      let z : draft_start c.count + 0 ≡ draft_start c.count = omega arith in
      let m : field_fits (draft_of c) 0 1 ≡ true =
      rw parts (field_there (start_bytes ++ (draft_cells (used c) ++ end_bytes)) 0 1 (method_byte c.settings.method) refl refl refl refl
      (method_small c)) in
      let o : field_fits (draft_of c) 4 2 ≡ true =
      rw parts (field_there (start_bytes ++ (draft_cells (used c) ++ end_bytes)) 4 2 (mode_byte c.settings.mode) refl refl refl refl
      (mode_small c)) in
      let t : byte_at (draft_of c) 8 ≡ 3 = rw parts refl in
      let h : byte_at (draft_of c) 9 ≡ 7 * c.count / 256 = rw parts refl in
      let l : byte_at (draft_of c) 10 ≡ 7 * c.count % 256 = rw parts refl in
      let w : byte_at (draft_of c) 9 * 256 + byte_at (draft_of c) 10 ≡ 7 * c.count = omega arith in
      let k : field_fits (draft_of c) (draft_start c.count) 4 ≡ true =
      field_there (draft_of c) (draft_start c.count) 4 (flag_byte c.settings.capitals) (rw z at (end_byte 0)) (end_byte 1) (end_byte 2)
      (end_byte 3) (flag_small c.settings.capitals) in
      rw (m, o, eq-eqb (byte_at (draft_of c) 8) 3 t, eq-eqb (byte_at (draft_of c) 9 * 256 + byte_at (draft_of c) 10) (7 * c.count) w) k

  written_there : (i : ℕ) → i < c.count → CellThere (draft_of c) (draft_start i)
  written_there i h =
      let u = used_length c s in
      rw parts (cells_there end_bytes start_bytes (used c) draft_head start_length (used_cells c s) i (omega arith))

  written_cells : draft_cells_fit (draft_of c) c.count ≡ true
  unfolding draft_cells_fit draft_cell_fits
  written_cells =
      each_from (draft_cell_fits (draft_of c)) c.count 0 (λ i l h.
      let t = written_there i (omega arith) in
      rw (le-leb (byte_at (draft_of c) (draft_start i + 6)) 1 t.0, eq-eqb (byte_at (draft_of c) (draft_start i + 4)) _ t.1) t.2)

  pub written_passes : is_draft (draft_of c) ≡ true
  unfolding is_draft
  written_passes =
      let l = written_length in
      let f = count_fits c s in
      rw (
        le-ltb (length (draft_of c)) draft_frame (omega arith),
        written_count,
        le-ltb limit c.count f,
        eq-eqb (length (draft_of c)) (draft_length c.count) l,
        written_frame,
      )
      written_cells

  -- what is written is read back
  pub read_back : draft_composition (draft_of c) ≡ c
  unfolding draft_composition draft_settings head_fields field field_start
  read_back =
      let u = used_length c s in
      let x : draft_cells_at c.count (draft_of c) draft_head ≡ used c =
      ap (λ (k : ℕ). draft_cells_at k (draft_of c) draft_head) (sym u)
      ∙ rw parts (cells_back end_bytes start_bytes (used c) draft_head start_length (used_cells c s)) in
      let m : byte_at (draft_of c) 3 ≡ method_byte c.settings.method = rw parts refl in
      let o : byte_at (draft_of c) 7 ≡ mode_byte c.settings.mode = rw parts refl in
      rw (written_count, x, m, o, end_byte 3, method_back c.settings.method, mode_back c.settings.mode)
      (rw (flag_back c.settings.capitals) (sym (holding_used c s)))

-- ---- written back
-- the n bytes from a place on
run : (b : List ℕ) (n at : ℕ) → at + n ≤ length b → take n (drop at b) ≡ map (byte_at b) (from n at)
run b zero at h = refl
run b (suc n) at h = rw (drop-cons b at 0 (omega arith), run b n (suc at) (omega arith)) refl

module _ (a b c d : ℕ) (hb : b < 256) (hc : c < 256) (hd : d < 256) where
  four_0 : (a * 16777216 + b * 65536 + c * 256 + d) / 16777216 ≡ a
  four_0 = omega arith

  four_1 : (a * 16777216 + b * 65536 + c * 256 + d) / 65536 % 256 ≡ b
  four_1 = omega arith

  four_2 : (a * 16777216 + b * 65536 + c * 256 + d) / 256 % 256 ≡ c
  four_2 = omega arith

  four_3 : (a * 16777216 + b * 65536 + c * 256 + d) % 256 ≡ d
  four_3 = omega arith

module _ (b : List ℕ) (bytes : (k : ℕ) → byte_at b k < 256) where
  cell_forth : (at : ℕ) → at + 7 ≤ length b → CellThere b at → draft_cell (draft_cell_at b at) ≡ take 7 (drop at b)
  unfolding draft_cell draft_cell_at four_at
  cell_forth at h t =
      let e1 : at + 1 ≡ suc at = omega arith in
      let e2 : at + 2 ≡ suc (suc at) = omega arith in
      let e3 : at + 3 ≡ suc (suc (suc at)) = omega arith in
      let e4 : at + 4 ≡ suc (suc (suc (suc at))) = omega arith in
      let e5 : at + 5 ≡ suc (suc (suc (suc (suc at)))) = omega arith in
      let e6 : at + 6 ≡ suc (suc (suc (suc (suc (suc at))))) = omega arith in
      let h1 = bytes (at + 1) in
      let h2 = bytes (at + 2) in
      let h3 = bytes (at + 3) in
      let p0 = four_0 (byte_at b at) (byte_at b (at + 1)) (byte_at b (at + 2)) (byte_at b (at + 3)) h1 h2 h3 in
      let p1 = four_1 (byte_at b at) (byte_at b (at + 1)) (byte_at b (at + 2)) (byte_at b (at + 3)) h1 h2 h3 in
      let p2 = four_2 (byte_at b at) (byte_at b (at + 1)) (byte_at b (at + 2)) (byte_at b (at + 3)) h1 h2 h3 in
      let p3 = four_3 (byte_at b at) (byte_at b (at + 1)) (byte_at b (at + 2)) (byte_at b (at + 3)) h1 h2 h3 in
      rw (p0, p1, p2, p3, ← t.1, flag_forth (byte_at b (at + 6)) t.0, e1, e2, e3, e4, e5, e6) (sym (run b 7 at h))

  cells_forth : (n at : ℕ) → at + 7 * n ≤ length b → ((i : ℕ) → i < n → CellThere b (at + 7 * i))
      → draft_cells (draft_cells_at n b at) ≡ take (7 * n) (drop at b)
  cells_forth zero at h f = refl
  cells_forth (suc n) at h f =
      let e : 7 * suc n ≡ 7 + 7 * n = omega arith in
      let z : at + 7 * 0 ≡ at = omega arith in
      let a : draft_cell (draft_cell_at b at) ≡ take 7 (drop at b) = cell_forth at (omega arith) (rw z at (f 0 (omega arith))) in
      let r : draft_cells (draft_cells_at n b (at + 7)) ≡ take (7 * n) (drop (at + 7) b) =
      cells_forth n (at + 7) (omega arith)
      (λ i l. let y : at + 7 + 7 * i ≡ at + 7 * suc i = omega arith in rw y (f (suc i) (omega arith))) in
      rw (e, take-add 7 (7 * n) (drop at b), drop-drop 7 at b, a, r) refl

  module _ (s : is_draft b ≡ true) where
    abbrev n : ℕ
    n = draft_count b

    there : (i : ℕ) → i < n → CellThere b (draft_start i)
    unfolding draft_cells_fit draft_cell_fits
    there i h =
        let f = each_count (draft_cell_fits b) n 0 (holds _ (draft_cells_lem b s)) i (omega arith) (omega arith) in
        let t = both_are (leb (byte_at b (draft_start i + 6)) 1) _ f in
        let u = both_are (eqb (byte_at b (draft_start i + 4)) (mark_byte (draft_cell_at b (draft_start i)))) _ t.1 in
        (leb-true (byte_at b (draft_start i + 6)) 1 t.0, eqb-true (byte_at b (draft_start i + 4)) _ u.0, u.1)

    cells_sound : each is_cell (draft_cells_at n b draft_head) ≡ true
    cells_sound = at_each is_cell blank (draft_cells_at n b draft_head) (λ i h.
        let l = cells_length n b draft_head in
        rw (cells_at_lem n b draft_head i (omega arith)) (there i (omega arith)).2)

    pub read_sound : is_sound (draft_composition b) ≡ true
    unfolding draft_composition
    read_sound =
        composed_sound (draft_settings b n) (draft_cells_at n b draft_head)
        (omega (arith, cells_length n b draft_head, draft_few b s n refl)) cells_sound

    fields_there : (field_fits b 0 1 ≡ true) × (field_fits b 4 2 ≡ true) × (byte_at b 8 ≡ 3) × (byte_at b 9 * 256 + byte_at b 10 ≡ 7 * n)
        × (field_fits b (draft_start n) 4 ≡ true)
    unfolding frame_fits
    fields_there =
        let t0 = both_are (field_fits b 0 1) _ (draft_fields b s) in
        let t1 = both_are (field_fits b 4 2) _ t0.1 in
        let t2 = both_are (eqb (byte_at b 8) 3) _ t1.1 in
        let t3 = both_are (eqb (byte_at b 9 * 256 + byte_at b 10) (7 * n)) _ t2.1 in
        (t0.0, t1.0, eqb-true (byte_at b 8) 3 t2.0, eqb-true _ (7 * n) t3.0, t3.1)

    -- each of the settings is 0 or 1
    pub method_read : byte_at b 3 ≤ 1
    method_read = field_small b 0 1 bytes (omega arith) fields_there.0

    pub mode_read : byte_at b 7 ≤ 1
    mode_read = field_small b 4 2 bytes (omega arith) fields_there.1

    pub capitals_read : byte_at b (draft_start n + 3) ≤ 1
    capitals_read = field_small b (draft_start n) 4 bytes (omega arith) fields_there.4

    start_forth : head_fields (method_byte (method_of (byte_at b 3))) (mode_byte (mode_of (byte_at b 7))) n ≡ take draft_head b
    unfolding head_fields field field_start
    start_forth =
        let f = fields_there in
        let l = draft_long b s n refl in
        let w = f.3 in
        let h : 7 * n / 256 ≡ byte_at b 9 = omega (arith, bytes 10) in
        let k : 7 * n % 256 ≡ byte_at b 10 = omega (arith, bytes 10) in
        rw (
          method_forth (byte_at b 3) method_read,
          mode_forth (byte_at b 7) mode_read,
          h,
          k,
        )
        (sym (run b draft_head 0 (omega arith) ∙ rw (
          field_tag b 0 1 bytes (omega arith) f.0,
          field_high b 0 1 bytes (omega arith) f.0,
          field_low b 0 1 bytes (omega arith) f.0,
          field_tag b 4 2 bytes (omega arith) f.1,
          field_high b 4 2 bytes (omega arith) f.1,
          field_low b 4 2 bytes (omega arith) f.1,
          f.2,
        ) refl))

    end_forth : field 4 (flag_byte (eqb (byte_at b (draft_start n + 3)) 1) ∷ []) ≡ drop (draft_start n) b
    unfolding field
    end_forth =
        let f = fields_there.4 in
        let l = draft_long b s n refl in
        let e1 : suc (draft_start n) ≡ draft_start n + 1 = omega arith in
        let e2 : suc (suc (draft_start n)) ≡ draft_start n + 2 = omega arith in
        let e3 : suc (suc (suc (draft_start n))) ≡ draft_start n + 3 = omega arith in
        rw (flag_forth (byte_at b (draft_start n + 3)) capitals_read)
        (sym (sym (take_all 4 (drop (draft_start n) b) (omega (arith, length-drop (draft_start n) b)))
        ∙ run b 4 (draft_start n) (omega arith) ∙ rw (
          e3,
          e2,
          e1,
          field_tag b (draft_start n) 4 bytes (omega arith) f,
          field_high b (draft_start n) 4 bytes (omega arith) f,
          field_low b (draft_start n) 4 bytes (omega arith) f,
        ) refl))

    -- whatever is read is written back as the same bytes
    pub written_back : draft_of (draft_composition b) ≡ b
    unfolding draft_composition draft_settings
    written_back =
        let z = draft_settings b n in
        let xs = draft_cells_at n b draft_head in
        let l = draft_long b s n refl in
        let u : used (composed z xs) ≡ xs = used_held z xs in
        let k : draft_cells xs ≡ take (7 * n) (drop draft_head b) = cells_forth n draft_head (omega arith) there in
        let d : drop (draft_start n) b ≡ drop (7 * n) (drop draft_head b) = sym (drop-drop (7 * n) draft_head b) in
        draft_parts (composed z xs) n (ap length u ∙ cells_length n b draft_head)
        ∙ rw (u, settings_held z xs, start_forth, end_forth, k, d)
        (append_assoc (take draft_head b) (take (7 * n) (drop draft_head b)) (drop (7 * n) (drop draft_head b))
        ∙ ap (λ (r : List ℕ). take draft_head b ++ r) (take-append-drop (7 * n) (drop draft_head b)) ∙ take-append-drop draft_head b)
