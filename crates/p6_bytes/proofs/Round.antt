-- What is written is read back, and what is read of sound bytes is written back: a sound composition has one form only, and
-- sound bytes are the form of one. Bytes of specs/ may be any numbers; that a byte is below 256 is a premise.
use Prim.Native.Nat.{ℕ, zero, suc, ◌+◌, ◌*◌, ◌-◌, ◌/◌, ◌%◌, ◌≤◌, ◌<◌}
use mathlib.Core.Path.{◌≡◌, refl, sym, ap, ◌∙◌}
use mathlib.Core.Bool.{Bool, true, false}
use mathlib.Core.List.{List, [], ◌∷◌, ◌++◌, append_assoc}
use native.Mathlib.Omega.{arith}
use lib.Dec.{eqb}
use lib.ListN.{length, take, drop, length-append, length-drop, take-append-drop}
use lib.Seq.{get_or-append-add, drop-cons, drop-drop, take-add, take_all}
use borrow.Author.Tests.{eq-eqb, le-leb, leb-true}
use Rattle.p2_input_method.specs.declared.InputMethod.{InputMethod}
use Rattle.p2_input_method.specs.declared.InputMethod.TheVariants.{Telex, Vni}
use Rattle.p3_cells.specs.Cells.{limit, is_sound}
use Rattle.p3_cells.specs.declared.Cell.{Cell}
use Rattle.p3_cells.specs.declared.Composition.{Composition}
use Rattle.p3_cells.specs.declared.Mode.{Mode}
use Rattle.p3_cells.specs.declared.Mode.TheVariants.{Vietnamese, English}
use Rattle.p0_choice.proofs.Tests.{each_from}
use Rattle.p3_cells.proofs.Soundness.{sound_length}
use Rattle.p6_bytes.specs.Bytes.{head, known, size, method_byte, mode_byte, flag_byte, cell_bytes, cells_bytes, head_bytes, bytes_of}
use Rattle.p6_zeros.specs.Zeros.{zeros}
use Rattle.p6_bytes.specs.Bytes.{cell_at, cells_at, method_of, mode_of, composition_of, spells_cell, reserved_zero}
use Rattle.p6_zeros.specs.Zeros.{byte_at, is_zero}
use Rattle.p6_bytes.specs.Bytes.{bytes_sound}
use Rattle.p6_bytes.proofs.Writing.{cell_length, bytes_length}
use Rattle.p6_bytes.proofs.Sound.{sound_size, sound_method, sound_mode, sound_capitals, sound_reserved, sound_flag}

-- ---- read back
pub flag_back : (t : Bool) → eqb (flag_byte t) 1 ≡ t
flag_back true = refl
flag_back false = refl

pub flag_small : (t : Bool) → flag_byte t ≤ 1
flag_small true = omega arith
flag_small false = omega arith

pub method_back : (m : InputMethod) → method_of (method_byte m) ≡ m
unfolding method_of
method_back Telex = refl
method_back Vni = refl

pub mode_back : (o : Mode) → mode_of (mode_byte o) ≡ o
unfolding mode_of
mode_back Vietnamese = refl
mode_back English = refl

four_back : (n : ℕ) → n % 256 + n / 256 % 256 * 256 + n / 65536 % 256 * 65536 + n / 16777216 * 16777216 ≡ n
four_back n = omega arith

two_back : (n : ℕ) → n % 256 + n / 256 * 256 ≡ n
two_back n = omega arith

-- the cell that stands after p
module _ (p : List ℕ) (x : Cell) (r : List ℕ) (n : ℕ) (e : length p ≡ n) where
  byte_back : (k : ℕ) → byte_at (p ++ (cell_bytes x ++ r)) (n + k) ≡ byte_at (cell_bytes x ++ r) k
  byte_back k = rw (← e) (get_or-append-add p (cell_bytes x ++ r) k 0)

  cell_back : cell_at (p ++ (cell_bytes x ++ r)) n ≡ x
  unfolding cell_at cell_bytes
  cell_back =
      let z : n + 0 ≡ n = omega arith in
      let b0 : byte_at (p ++ (cell_bytes x ++ r)) n ≡ x.base % 256 = rw z at (byte_back 0) in
      rw (
        b0,
        byte_back 1,
        byte_back 2,
        byte_back 3,
        byte_back 4,
        byte_back 5,
        byte_back 6,
        byte_back 7,
        four_back x.base,
        two_back
            x.mark,
        flag_back x.upper,
      ) refl

  flag_there : byte_at (p ++ (cell_bytes x ++ r)) (n + 7) ≤ 1
  unfolding cell_bytes
  flag_there = rw (byte_back 7) (flag_small x.upper)

cells_back : (p : List ℕ) (xs : List Cell) (n : ℕ) → length p ≡ n → cells_at (length xs) (p ++ cells_bytes xs) n ≡ xs
cells_back p [] n e = refl
cells_back p (x ∷ xs) n e =
    let l : length (p ++ cell_bytes x) ≡ n + 8 = omega (arith, length-append p (cell_bytes x), cell_length x) in
    let h : cells_at (length xs) (p ++ (cell_bytes x ++ cells_bytes xs)) (n + 8) ≡ xs
    = rw (← append_assoc p (cell_bytes x) (cells_bytes xs)) (cells_back (p ++ cell_bytes x) xs (n + 8) l) in
    rw (cell_back p x (cells_bytes xs) n e, h)

flags_back : (p : List ℕ) (xs : List Cell) (n : ℕ) → length p ≡ n → (i : ℕ) → i < length xs
    → byte_at (p ++ cells_bytes xs) (n + 8 * i + 7) ≤ 1
flags_back p [] n e i h = absurd (omega arith)
flags_back p (x ∷ xs) n e zero h = let z : n + 8 * 0 + 7 ≡ n + 7 = omega arith in rw z (flag_there p x (cells_bytes xs) n e)
flags_back p (x ∷ xs) n e (suc i) h =
    let l : length (p ++ cell_bytes x) ≡ n + 8 = omega (arith, length-append p (cell_bytes x), cell_length x) in
    let z : n + 8 * suc i + 7 ≡ n + 8 + 8 * i + 7 = omega arith in
    rw (z, ← append_assoc p (cell_bytes x) (cells_bytes xs)) (flags_back (p ++ cell_bytes x) xs (n + 8) l i (omega arith))

-- sound or not, with all its places
pub read_written : (c : Composition) → length c.cells ≡ limit → composition_of (bytes_of c) ≡ c
unfolding bytes_of head_bytes composition_of
read_written c n =
    let k : cells_at limit (bytes_of c) head ≡ c.cells = rw n at (cells_back (head_bytes c) c.cells head refl) in
    rw (k, method_back c.settings.method, mode_back c.settings.mode, flag_back c.settings.capitals) refl

module _ (c : Composition) where
  pub method_small : method_byte c.settings.method ≤ 1
  method_small = go c.settings.method
    where
      go : (m : InputMethod) → method_byte m ≤ 1
      go Telex = omega arith
      go Vni = omega arith

  pub mode_small : mode_byte c.settings.mode ≤ 1
  mode_small = go c.settings.mode
    where
      go : (o : Mode) → mode_byte o ≤ 1
      go Vietnamese = omega arith
      go English = omega arith

  -- the form of a sound composition is sound
  pub written_sound : is_sound c ≡ true → bytes_sound (bytes_of c) ≡ true
  unfolding bytes_sound bytes_of head_bytes reserved_zero is_zero spells_cell
  written_sound s =
      let n = sound_length c s in
      let l : length (bytes_of c) ≡ size = omega (arith, bytes_length c.cells) in
      rw (
        eq-eqb (length (bytes_of c)) size l,
        le-leb (method_byte c.settings.method) 1 method_small,
        le-leb (mode_byte c.settings.mode) 1 mode_small,
        le-leb (flag_byte c.settings.capitals) 1 (flag_small c.settings.capitals),
        each_from (spells_cell (bytes_of c)) limit 0 (λ i k h. le-leb _ 1 (flags_back (head_bytes c) c.cells head refl i (omega arith))),
      )
      (rw (read_written c n) s)

-- ---- written back
pub flag_forth : (x : ℕ) → x ≤ 1 → flag_byte (eqb x 1) ≡ x
flag_forth zero h = refl
flag_forth (suc zero) h = refl
flag_forth (suc (suc x)) h = absurd (omega arith)

pub method_forth : (x : ℕ) → x ≤ 1 → method_byte (method_of x) ≡ x
unfolding method_of
method_forth zero h = refl
method_forth (suc zero) h = refl
method_forth (suc (suc x)) h = absurd (omega arith)

pub mode_forth : (x : ℕ) → x ≤ 1 → mode_byte (mode_of x) ≡ x
unfolding mode_of
mode_forth zero h = refl
mode_forth (suc zero) h = refl
mode_forth (suc (suc x)) h = absurd (omega arith)

module _ (a b c d : ℕ) (ha : a < 256) (hb : b < 256) (hc : c < 256) (hd : d < 256) where
  four_0 : (a + b * 256 + c * 65536 + d * 16777216) % 256 ≡ a
  four_0 = omega arith

  four_1 : (a + b * 256 + c * 65536 + d * 16777216) / 256 % 256 ≡ b
  four_1 = omega arith

  four_2 : (a + b * 256 + c * 65536 + d * 16777216) / 65536 % 256 ≡ c
  four_2 = omega arith

  four_3 : (a + b * 256 + c * 65536 + d * 16777216) / 16777216 ≡ d
  four_3 = omega arith

module _ (a b : ℕ) (ha : a < 256) where
  two_0 : (a + b * 256) % 256 ≡ a
  two_0 = omega arith

  two_1 : (a + b * 256) / 256 ≡ b
  two_1 = omega arith

eight : (s : List ℕ) (at : ℕ) → at + 8 ≤ length s
    → take 8 (drop at s)
    ≡ byte_at s at ∷ byte_at s (at + 1) ∷ byte_at s (at + 2) ∷ byte_at s (at + 3) ∷ byte_at s (at + 4) ∷ byte_at s (at + 5) ∷ byte_at s (at + 6)
    ∷ byte_at s (at + 7) ∷ []
eight s at h =
    let e1 : at + 1 ≡ suc at = omega arith in
    let e2 : at + 2 ≡ suc (suc at) = omega arith in
    let e3 : at + 3 ≡ suc (suc (suc at)) = omega arith in
    let e4 : at + 4 ≡ suc (suc (suc (suc at))) = omega arith in
    let e5 : at + 5 ≡ suc (suc (suc (suc (suc at)))) = omega arith in
    let e6 : at + 6 ≡ suc (suc (suc (suc (suc (suc at))))) = omega arith in
    let e7 : at + 7 ≡ suc (suc (suc (suc (suc (suc (suc at)))))) = omega arith in
    rw (
      e1,
      e2,
      e3,
      e4,
      e5,
      e6,
      e7,
      drop-cons s at 0 (omega arith),
      drop-cons s (suc at) 0 (omega arith),
      drop-cons s (suc (suc at)) 0 (omega arith),
      drop-cons s (suc (suc (suc at))) 0 (omega arith),
      drop-cons s (suc (suc (suc (suc at)))) 0 (omega arith),
      drop-cons s (suc (suc (suc (suc (suc at))))) 0 (omega arith),
      drop-cons s (suc (suc (suc (suc (suc (suc at)))))) 0 (omega arith),
      drop-cons s (suc (suc (suc (suc (suc (suc (suc at))))))) 0 (omega arith),
    )

module _ (b : List ℕ) (bytes : (k : ℕ) → byte_at b k < 256) where
  cell_forth : (at : ℕ) → at + 8 ≤ length b → byte_at b (at + 7) ≤ 1 → cell_bytes (cell_at b at) ≡ take 8 (drop at b)
  unfolding cell_bytes cell_at
  cell_forth at h f =
      let p0 = four_0 (byte_at b at) (byte_at b (at + 1)) (byte_at b (at + 2)) (byte_at b (at + 3)) (bytes at) (bytes (at + 1)) (bytes (at + 2))
      (bytes (at + 3)) in
      let p1 = four_1 (byte_at b at) (byte_at b (at + 1)) (byte_at b (at + 2)) (byte_at b (at + 3)) (bytes at) (bytes (at + 1)) (bytes (at + 2))
      (bytes (at + 3)) in
      let p2 = four_2 (byte_at b at) (byte_at b (at + 1)) (byte_at b (at + 2)) (byte_at b (at + 3)) (bytes at) (bytes (at + 1)) (bytes (at + 2))
      (bytes (at + 3)) in
      let p3 = four_3 (byte_at b at) (byte_at b (at + 1)) (byte_at b (at + 2)) (byte_at b (at + 3)) (bytes at) (bytes (at + 1)) (bytes (at + 2))
      (bytes (at + 3)) in
      let q0 = two_0 (byte_at b (at + 4)) (byte_at b (at + 5)) (bytes (at + 4)) in
      let q1 = two_1 (byte_at b (at + 4)) (byte_at b (at + 5)) (bytes (at + 4)) in
      rw (p0, p1, p2, p3, q0, q1, flag_forth (byte_at b (at + 7)) f) (sym (eight b at h))

  cells_forth : (n at : ℕ) → at + 8 * n ≤ length b → ((i : ℕ) → i < n → byte_at b (at + 8 * i + 7) ≤ 1)
      → cells_bytes (cells_at n b at) ≡ take (8 * n) (drop at b)
  cells_forth zero at h f = refl
  cells_forth (suc n) at h f =
      let e : 8 * suc n ≡ 8 + 8 * n = omega arith in
      let z : at + 8 * 0 + 7 ≡ at + 7 = omega arith in
      let a : cell_bytes (cell_at b at) ≡ take 8 (drop at b) = cell_forth at (omega arith) (rw z at (f 0 (omega arith))) in
      let r : cells_bytes (cells_at n b (at + 8)) ≡ take (8 * n) (drop (at + 8) b)
      = cells_forth n (at + 8) (omega arith)
      (λ i l. let y : at + 8 + 8 * i + 7 ≡ at + 8 * suc i + 7 = omega arith in rw y (f (suc i) (omega arith))) in
      let w : take (8 + 8 * n) (drop at b) ≡ take 8 (drop at b) ++ take (8 * n) (drop 8 (drop at b)) = take-add 8 (8 * n) (drop at b) in
      let q : drop 8 (drop at b) ≡ drop (at + 8) b = drop-drop 8 at b in
      let x : cell_bytes (cell_at b at) ++ cells_bytes (cells_at n b (at + 8)) ≡ take 8 (drop at b) ++ take (8 * n) (drop (at + 8) b) = cc in
      let y : take 8 (drop at b) ++ take (8 * n) (drop 8 (drop at b)) ≡ take 8 (drop at b) ++ take (8 * n) (drop (at + 8) b) =
      ap (λ (l : List ℕ). take 8 (drop at b) ++ take (8 * n) l) q in
      x ∙ sym y ∙ sym w ∙ ap (λ (k : ℕ). take k (drop at b)) (sym e)

  pub written_back : bytes_sound b ≡ true → bytes_of (composition_of b) ≡ b
  unfolding bytes_of head_bytes composition_of spells_cell
  written_back s =
      let l = sound_size b s in
      let c : cells_bytes (cells_at limit b head) ≡ take (8 * limit) (drop head b) =
      cells_forth limit head (omega arith) (λ i h. leb-true _ 1 (sound_flag b s i h)) in
      let a : take (8 * limit) (drop head b) ≡ drop head b = take_all (8 * limit) (drop head b) (omega (arith, length-drop head b)) in
      let h : take head b ≡ byte_at b 0 ∷ byte_at b 1 ∷ byte_at b 2 ∷ byte_at b 3 ∷ zeros (head - known)
      = eight b 0 (omega arith) ∙ rw (
        free 4 (omega arith) (omega arith),
        free 5 (omega arith)
            (omega arith),
        free 6 (omega arith) (omega arith),
        free 7 (omega arith) (omega arith),
      ) refl in
      let whole : (byte_at b 0 ∷ byte_at b 1 ∷ byte_at b 2 ∷ byte_at b 3 ∷ zeros (head - known)) ++ drop head b ≡ b =
      ap (λ (t : List ℕ). t ++ drop head b) (sym h) ∙ take-append-drop head b in
      rw (
        method_forth (byte_at b 0) (sound_method b s),
        mode_forth (byte_at b 1) (sound_mode b s),
        flag_forth (byte_at b 3) (sound_capitals b s),
        c,
        a,
      ) whole
    where
      free : (i : ℕ) → known ≤ i → i < head → byte_at b i ≡ 0
      free = sound_reserved b s

-- ---- one form only
pub one_spelling : (c d : Composition) → length c.cells ≡ limit → length d.cells ≡ limit → bytes_of c ≡ bytes_of d → c ≡ d
one_spelling c d m n e = sym (read_written c m) ∙ ap composition_of e ∙ read_written d n
