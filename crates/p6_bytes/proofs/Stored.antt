-- The cells where they lie: one is read, and one, or a byte of the head, is stored.
use Prim.Native.Nat.{ℕ, zero, suc, ◌+◌, ◌*◌, ◌-◌, ◌<◌, ◌≤◌}
use mathlib.Core.Path.{◌≡◌, refl, sym, ap, ◌∙◌}
use mathlib.Core.Bool.{Bool, true, false}
use mathlib.Core.List.{List, [], ◌∷◌, ◌++◌, append-nil}
use native.Mathlib.Omega.{arith}
use lib.ListN.{length, take, drop, set, length-set, drop_of_length-le}
use borrow.Author.Tests.{ne_eqb}
use mir.Syntax.{w8}
use mir.Val.{Fits}
use Rattle.p2_input_method.specs.declared.InputMethod.{InputMethod}
use Rattle.p3_cells.specs.Cells.{limit, composed}
use Rattle.p3_cells.specs.Mirror.{cell_of, places, with_cell, with_count, with_settings}
use Rattle.p3_cells.specs.Text.{letter_of, shown}
use Rattle.p3_cells.specs.declared.Cell.{Cell}
use Rattle.p3_cells.specs.declared.Composition.{Composition}
use Rattle.p3_cells.specs.declared.Mode.{Mode}
use Rattle.p3_cells.specs.Settings.{at_first, with_method, with_mode, with_capitals}
use Rattle.p6_bytes.specs.Bytes.{head, start, size, method_byte, mode_byte, flag_byte, cell_bytes, cells_bytes, head_bytes, bytes_of}
use Rattle.p6_zeros.specs.Zeros.{zeros, byte_at}
use Rattle.p6_zeros.specs.Mirror.{long_at}
use Rattle.p3_cells.proofs.Text.{shown_bare}
use Rattle.p6_bytes.specs.Bytes.{cell_at, composition_of, bytes_sound}
use Rattle.p6_bytes.specs.Mirror.{stored, cleared}
use Rattle.p6_bytes.proofs.Reading.{cells_length, cells_at_lem}
use Rattle.p6_bytes.proofs.Round.{written_back}
use Rattle.p6_bytes.proofs.Writing.{blank_bytes}

toneless : (b : List ℕ) (at : ℕ) → long_at b at < 281474976710656 → (cell_at b at).tone ≡ 0
unfolding long_at cell_at
toneless b at h = omega arith

flagless : (b : List ℕ) (at : ℕ) → long_at b at < 281474976710656 → (cell_at b at).upper ≡ false
unfolding long_at cell_at
flagless b at h = ne_eqb (byte_at b (at + 7)) 1 (λ e. omega arith)

-- ---- read
pub cells_all : (b : List ℕ) → places (composition_of b) ≡ limit
unfolding composition_of
cells_all b = cells_length limit b head

pub cell_there : (b : List ℕ) (i : ℕ) (r : Cell) → i < limit → r ≡ cell_at b (start i) → r ≡ cell_of (composition_of b) i
unfolding composition_of
cell_there b i r h e = e ∙ sym (cells_at_lem limit b head i h)

-- neither a tone nor a flag: the last two bytes are 0
pub bare_shown : (b : List ℕ) (k : Bool) (i w l : ℕ) (x : Cell) → w ≡ long_at b (start i) → w < 281474976710656 → i < limit
    → x ≡ cell_of (composition_of b) i → l ≡ letter_of x → l ≡ shown k (cell_of (composition_of b) i)
bare_shown b k i w l x e h j p q =
    let c : cell_of (composition_of b) i ≡ cell_at b (start i) = sym (cell_there b i _ j refl) in
    rw c (shown_bare k (cell_at b (start i)) l (toneless b (start i) (rw e at h)) (flagless b (start i) (rw e at h))
    (q ∙ ap letter_of (p ∙ c)))

-- ---- a cell and the count, stored
cells_set : (xs : List Cell) (i : ℕ) (x : Cell) → i < length xs
    → cells_bytes (set xs i x) ≡ take (8 * i) (cells_bytes xs) ++ (cell_bytes x ++ drop (8 * i + 8) (cells_bytes xs))
unfolding cell_bytes
cells_set [] i x h = absurd (omega arith)
cells_set (y ∷ ys) zero x h = refl
cells_set (y ∷ ys) (suc i) x h =
    let e : 8 * suc i ≡ suc (suc (suc (suc (suc (suc (suc (suc (8 * i)))))))) = omega arith in
    let f : 8 * suc i + 8 ≡ suc (suc (suc (suc (suc (suc (suc (suc (8 * i + 8)))))))) = omega arith in
    rw (f, e) (rw (cells_set ys i x (omega arith)) refl)

pub cell_stored : (c : Composition) (i : ℕ) (x : Cell) → i < places c
    → stored (bytes_of c) i x ≡ bytes_of (with_cell c i x)
unfolding stored bytes_of head_bytes
cell_stored c i x h =
    let e : start i ≡ suc (suc (suc (suc (suc (suc (suc (suc (8 * i)))))))) = omega arith in
    let f : start i + 8 ≡ suc (suc (suc (suc (suc (suc (suc (suc (8 * i + 8)))))))) = omega arith in
    rw (f, e, cells_set c.cells i x h) refl

pub count_stored : (c : Composition) (n : ℕ)
    → set (bytes_of c) 2 n ≡ bytes_of (with_count c n)
unfolding bytes_of head_bytes
count_stored c n = refl

pub method_stored : (c : Composition) (m : InputMethod) (n : ℕ) → n ≡ method_byte m
    → set (bytes_of c) 0 n ≡ bytes_of (with_settings c (with_method c.settings m))
unfolding bytes_of head_bytes
method_stored c m n e = rw e refl

pub mode_stored : (c : Composition) (o : Mode) (n : ℕ) → n ≡ mode_byte o
    → set (bytes_of c) 1 n ≡ bytes_of (with_settings c (with_mode c.settings o))
unfolding bytes_of head_bytes
mode_stored c o n e = rw e refl

pub capitals_stored : (c : Composition) (on : Bool) (n : ℕ) → n ≡ flag_byte on
    → set (bytes_of c) 3 n ≡ bytes_of (with_settings c (with_capitals c.settings on))
unfolding bytes_of head_bytes
capitals_stored c on n e = rw e refl

-- ---- no cells
pub set_length : (b new : List ℕ) (i x : ℕ) → length new ≡ length (set b i x) → length new ≡ length b
set_length b new i x e = e ∙ length-set b i x

pub cleared_is : (b new : List ℕ) → length b ≡ size
    → new ≡ take head (set b 2 0) ++ (zeros (size - head) ++ drop size (set b 2 0)) → new ≡ cleared b
unfolding cleared
cleared_is b new l e =
    let h : length (set b 2 0) ≤ size = omega (arith, length-set b 2 0) in
    e ∙ ap (λ (r : List ℕ). take head (set b 2 0) ++ (zeros (size - head) ++ r)) (drop_of_length-le (set b 2 0) h)
    ∙ ap (λ (r : List ℕ). take head (set b 2 0) ++ r) (append-nil (zeros (size - head)))

pub cells_cleared : (c : Composition) → cleared (bytes_of c) ≡ bytes_of (composed c.settings [])
unfolding cleared bytes_of head_bytes composed
cells_cleared c = rw (blank_bytes limit) refl

-- ---- a new composition: the method's byte, and zeros
pub begun_bytes : (m : InputMethod) → method_byte m ∷ zeros (size - 1) ≡ bytes_of (composed (at_first m) [])
unfolding bytes_of head_bytes composed
begun_bytes m = rw (blank_bytes limit) refl

-- ---- the bytes that a call is lent are those of their composition
pub lent : (b : List ℕ) → ((k : ℕ) → Fits w8 (byte_at b k)) → bytes_sound b ≡ true → bytes_of (composition_of b) ≡ b
lent b f s = written_back b (λ k. (f k).fits) s
