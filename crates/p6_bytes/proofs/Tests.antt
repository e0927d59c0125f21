-- The loops of the test: what is left decides.
use Prim.Native.Nat.{ℕ, ◌+◌, ◌≤◌, ◌<◌}
use mathlib.Core.Path.{◌≡◌, refl, sym, ap, ◌∙◌}
use mathlib.Core.Bool.{Bool, true, false}
use mathlib.Core.List.{List}
use mathlib.Core.Logic.{inl}
use native.Mathlib.Omega.{arith}
use lib.Dec.{eqb, ltb, leb}
use borrow.Author.Tests.{ne_eqb, eqb-true, eqb-false, lt-ltb, le-ltb, le-leb, lt-leb, leb-true, leb-false}
use mir.Syntax.{w8}
use mir.Val.{Fits}
use Rattle.p0_choice.specs.Choice.{pick}
use Rattle.p0_choice.proofs.Tests.{are_both}
use Rattle.p1_letters.specs.Alphabet.{in_alphabet}
use Rattle.p3_cells.specs.Cells.{is_cell}
use Rattle.p3_cells.specs.declared.Cell.{Cell}
use Rattle.p3_cells.proofs.Soundness.{is_cell_lem}
use Rattle.p3_cells.specs.Cells.{limit}
use Rattle.p3_cells.specs.Mirror.{cell_of}
use Rattle.p6_bytes.proofs.Stored.{cell_there}
use Rattle.p6_bytes.specs.Bytes.{cell_at, start, spells_cell, reserved_zero, composition_of}
use Rattle.p6_zeros.specs.Zeros.{byte_at, is_zero}
use Rattle.p6_bytes.specs.Mirror.{rest_fits, head_fits, cell_fits}
use Rattle.p6_zeros.specs.Mirror.{long_at}

-- ---- the head past the count
whole : (t : Bool) → pick t true false ≡ t
whole true = refl
whole false = refl

sum_zero : (x y : ℕ) → pick (eqb x 0) (eqb y 0) false ≡ eqb (x + y) 0
sum_zero x y = go (eqb x 0) refl
  where
    go : (t : Bool) → eqb x 0 ≡ t → pick t (eqb y 0) false ≡ eqb (x + y) 0
    go true e = let z : x + y ≡ y = omega (arith, eqb-true x 0 e) in rw z refl
    go false e = sym (ne_eqb (x + y) 0 (λ (q : x + y ≡ 0). eqb-false x 0 e (omega arith)))

abbrev rest : List ℕ → ℕ
rest b = byte_at b 4 + (byte_at b 5 + (byte_at b 6 + byte_at b 7))

reserved : (b : List ℕ) → reserved_zero b ≡ eqb (rest b) 0
unfolding reserved_zero is_zero
reserved b = rw (whole (eqb (byte_at b 7) 0), sum_zero (byte_at b 6) (byte_at b 7), sum_zero (byte_at b 5) _, sum_zero (byte_at b 4) _) refl

-- with the setting before them
below : (b : List ℕ) → ((k : ℕ) → Fits w8 (byte_at b k)) → (w : ℕ) (u t : Bool) → w ≡ long_at b 0 → leb (byte_at b 3) 1 ≡ u
    → eqb (rest b) 0 ≡ t → ltb w 33554432 ≡ pick u t false
unfolding long_at
below b f w true true p l e =
    lt-ltb w 33554432 (omega (arith, leb-true (byte_at b 3) 1 l, eqb-true (rest b) 0 e, (f 0).fits, (f 1).fits, (f 2).fits))
below b f w true false p l e = le-ltb w 33554432 (omega (arith, eqb-false (rest b) 0 e))
below b f w false t p l e = le-ltb w 33554432 (omega (arith, leb-false (byte_at b 3) 1 l))

pub rest_below : (b : List ℕ) → ((k : ℕ) → Fits w8 (byte_at b k)) → (w : ℕ) → w ≡ long_at b 0 → ltb w 33554432 ≡ rest_fits b
unfolding rest_fits
rest_below b f w p =
    below b f w _ _ p refl refl ∙ ap (λ (t : Bool). pick (leb (byte_at b 3) 1) t false) (sym (reserved b))

module _ (b : List ℕ) where
  pub head_rest : ((k : ℕ) → Fits w8 (byte_at b k)) → (w : ℕ) → w ≡ long_at b 0 → byte_at b 0 ≤ 1 → byte_at b 1 ≤ 1 → ltb w 33554432 ≡ head_fits b
  unfolding head_fits
  head_rest f w p m o = rw (le-leb (byte_at b 0) 1 m, le-leb (byte_at b 1) 1 o) (rest_below b f w p)

  pub no_method : 1 < byte_at b 0 → false ≡ head_fits b
  unfolding head_fits
  no_method h = rw (lt-leb (byte_at b 0) 1 h) refl

  pub no_mode : 1 < byte_at b 1 → false ≡ head_fits b
  unfolding head_fits
  no_mode h = rw (lt-leb (byte_at b 1) 1 h) (sym (go (leb (byte_at b 0) 1)))
    where
      go : (t : Bool) → pick t false false ≡ false
      go true = refl
      go false = refl

-- ---- one cell
pub ascii_cell : (x : Cell) → x.base < 128 → x.mark ≡ 0 → x.tone ≡ 0 → is_cell x ≡ true
unfolding in_alphabet
ascii_cell x b m t = is_cell_lem x (record { base = rw (lt-ltb x.base 0x80 b) refl; mark = inl m; tone = inl t })

module _ (b : List ℕ) (i : ℕ) where
  -- an ASCII letter alone: the other seven bytes are 0
  pub letter_alone : (w : ℕ) → w ≡ long_at b (start i) → w < 128 → true ≡ cell_fits b i
  unfolding long_at cell_fits spells_cell cell_at
  letter_alone w e l =
      sym (are_both _ _ (le-leb (byte_at b (start i + 7)) 1 (omega arith))
      (ascii_cell (cell_at b (start i)) (omega arith) (omega arith) (omega arith)))

  pub no_flag : 1 < byte_at b (start i + 7) → false ≡ cell_fits b i
  unfolding cell_fits spells_cell
  no_flag h = rw (lt-leb (byte_at b (start i + 7)) 1 h) refl

  pub flag_fits : (r : Bool) (x : Cell) → byte_at b (start i + 7) ≤ 1 → x ≡ cell_of (composition_of b) i → i < limit → r ≡ is_cell x → r ≡ cell_fits b i
  unfolding cell_fits spells_cell
  flag_fits r x h p l q = rw (le-leb (byte_at b (start i + 7)) 1 h, cell_there b i (cell_at b (start i)) l refl, ← p) q
