-- The bytes past the cells in use, by blocks of 128: a run of zeros is two runs, and eight bytes as one number are 0 where each is.
use Prim.Native.Nat.{ℕ, zero, suc, ◌+◌, ◌-◌, ◌*◌, ◌≤◌, ◌<◌}
use mathlib.Core.Path.{◌≡◌, refl, sym, ap, ◌∙◌}
use mathlib.Core.Bool.{Bool, true, false, ◌&&◌}
use mathlib.Core.List.{List}
use native.Mathlib.Omega.{arith}
use lib.Dec.{eqb}
use lib.Bits.{bit_or, or_zero_l, or_add_and, and_le_r}
use lib.ListN.{length, drop, length-drop}
use Rattle.std.specs.List.{list_all, range_with_len}
use lib.Seq.{get_or-drop}
use borrow.Author.Tests.{eq-eqb, ne_eqb, eqb-true, eqb-false}
use Rattle.p0_choice.specs.Choice.{pick, each, from as numbers}
use Rattle.p6_zeros.specs.Zeros.{byte_at, is_zero}
use Rattle.p6_zeros.specs.Mirror.{long_at, zero_in, zero_from}

pub or_zero : (a b : ℕ) → eqb (bit_or a b) 0 ≡ pick (eqb a 0) (eqb b 0) false
or_zero a b = go (eqb a 0) refl
  where
    go : (t : Bool) → eqb a 0 ≡ t → eqb (bit_or a b) 0 ≡ pick t (eqb b 0) false
    go true e = let z = eqb-true a 0 e in rw (z, or_zero_l b) refl
    go false e =
        let n = eqb-false a 0 e in
        let s = or_add_and a b in
        let l = and_le_r a b in
        ne_eqb (bit_or a b) 0 (λ (h : bit_or a b ≡ 0). omega arith)

-- ---- runs of bytes
pub in_split : (b : List ℕ) (m n i : ℕ) → zero_in b (m + n) i ≡ pick (zero_in b m i) (zero_in b n (i + m)) false
unfolding zero_in
in_split b zero n i = let e : i + 0 ≡ i = omega arith in let d : 0 + n ≡ n = omega arith in rw (e, d) refl
in_split b (suc m) n i =
    let d : suc m + n ≡ suc (m + n) = omega arith in
    let e : i + suc m ≡ suc i + m = omega arith in
    rw (d, e) (go (is_zero b i) (each (is_zero b) (numbers (m + n) (suc i))) (each (is_zero b) (numbers m (suc i)))
    (each (is_zero b) (numbers n (suc i + m))) (in_split b m n (suc i)))
  where
    go : (t x y z : Bool) → x ≡ pick y z false → pick t x false ≡ pick (pick t y false) z false
    go true x y z h = h
    go false x y z h = refl

plus_zero : (x y k : ℕ) → eqb (x + y * suc k) 0 ≡ pick (eqb x 0) (eqb y 0) false
plus_zero x y k = go (eqb x 0) refl (eqb y 0) refl
  where
    go : (s : Bool) → eqb x 0 ≡ s → (t : Bool) → eqb y 0 ≡ t → eqb (x + y * suc k) 0 ≡ pick s t false
    go true p true q = let u = eqb-true x 0 p in let v = eqb-true y 0 q in eq-eqb (x + y * suc k) 0 (rw (u, v) (omega arith))
    go true p false q = let v = eqb-false y 0 q in ne_eqb (x + y * suc k) 0 (λ (h : x + y * suc k ≡ 0). v (small y (omega arith)))
      where
        small : (z : ℕ) → z * suc k ≡ 0 → z ≡ 0
        small zero h = refl
        small (suc z) h = absurd (omega arith)
    go false p t q = let u = eqb-false x 0 p in ne_eqb (x + y * suc k) 0 (λ (h : x + y * suc k ≡ 0). u (omega arith))

-- one byte more
whole : (t : Bool) → pick t true false ≡ t
whole true = refl
whole false = refl

pub one_byte : (b : List ℕ) (i : ℕ) → zero_in b 1 i ≡ eqb (byte_at b i) 0
unfolding zero_in is_zero
one_byte b i = whole (eqb (byte_at b i) 0)

in_one : (b : List ℕ) (n i : ℕ) (t : Bool) → zero_in b n i ≡ t → zero_in b (n + 1) i ≡ pick t (eqb (byte_at b (i + n)) 0) false
in_one b n i t h = rw (in_split b n 1 i, h, one_byte b (i + n)) refl

-- eight bytes as one number
pub long_zero : (b : List ℕ) (at r : ℕ) → r ≡ long_at b at → eqb r 0 ≡ zero_in b 8 at
unfolding long_at
long_zero b at r e = ap (λ (x : ℕ). eqb x 0) e ∙ sym z7
  where
    z0 : zero_in b 1 at ≡ eqb (byte_at b at) 0
    z0 = one_byte b at

    z1 : zero_in b 2 at ≡ eqb (byte_at b at + byte_at b (at + 1) * 256) 0
    z1 = in_one b 1 at _ z0 ∙ sym (plus_zero _ (byte_at b (at + 1)) 255)

    z2 : zero_in b 3 at ≡ eqb (byte_at b at + byte_at b (at + 1) * 256 + byte_at b (at + 2) * 65536) 0
    z2 = in_one b 2 at _ z1 ∙ sym (plus_zero _ (byte_at b (at + 2)) 65535)

    z3 : zero_in b 4 at ≡ eqb (byte_at b at + byte_at b (at + 1) * 256 + byte_at b (at + 2) * 65536 + byte_at b (at + 3) * 16777216) 0
    z3 = in_one b 3 at _ z2 ∙ sym (plus_zero _ (byte_at b (at + 3)) 16777215)

    z4 : zero_in b 5 at ≡ eqb (byte_at b at + byte_at b (at + 1) * 256 + byte_at b (at + 2) * 65536 + byte_at b (at + 3) * 16777216
        + byte_at b (at + 4) * 4294967296) 0
    z4 = in_one b 4 at _ z3 ∙ sym (plus_zero _ (byte_at b (at + 4)) 4294967295)

    z5 : zero_in b 6 at ≡ eqb (byte_at b at + byte_at b (at + 1) * 256 + byte_at b (at + 2) * 65536 + byte_at b (at + 3) * 16777216
        + byte_at b (at + 4) * 4294967296 + byte_at b (at + 5) * 1099511627776) 0
    z5 = in_one b 5 at _ z4 ∙ sym (plus_zero _ (byte_at b (at + 5)) 1099511627775)

    z6 : zero_in b 7 at ≡ eqb (byte_at b at + byte_at b (at + 1) * 256 + byte_at b (at + 2) * 65536 + byte_at b (at + 3) * 16777216
        + byte_at b (at + 4) * 4294967296 + byte_at b (at + 5) * 1099511627776 + byte_at b (at + 6) * 281474976710656) 0
    z6 = in_one b 6 at _ z5 ∙ sym (plus_zero _ (byte_at b (at + 6)) 281474976710655)

    z7 : zero_in b 8 at ≡ eqb (byte_at b at + byte_at b (at + 1) * 256 + byte_at b (at + 2) * 65536 + byte_at b (at + 3) * 16777216
        + byte_at b (at + 4) * 4294967296 + byte_at b (at + 5) * 1099511627776 + byte_at b (at + 6) * 281474976710656
        + byte_at b (at + 7) * 72057594037927936) 0
    z7 = in_one b 7 at _ z6 ∙ sym (plus_zero _ (byte_at b (at + 7)) 72057594037927935)

-- ---- the loops
-- a run of zeros and the run after it, seen through one number
pub run_on : (b : List ℕ) (n m at t w : ℕ) → eqb t 0 ≡ zero_in b n at → eqb w 0 ≡ zero_in b m (at + n) → eqb (bit_or t w) 0 ≡ zero_in b (n + m) at
run_on b n m at t w p q = or_zero t w ∙ rw (p, q) (sym (in_split b n m at))

-- the first blocks, and the last one, which is taken from the end
firsts : (b : List ℕ) (n k : ℕ) → list_all (λ i. zero_in b 128 (128 * i)) (range_with_len k n) ≡ zero_in b (128 * n) (128 * k)
unfolding zero_in
firsts b zero k = refl
firsts b (suc n) k =
    let d : 128 * suc n ≡ 128 + 128 * n = omega arith in
    let e : 128 * k + 128 ≡ 128 * (k + 1) = omega arith in
    rw (d, in_split b 128 (128 * n) (128 * k), e, firsts b n (k + 1)) (and_pick (zero_in b 128 (128 * k)) (zero_in b (128 * n) (128 * (k + 1))))
  where
    and_pick : (x y : Bool) → (x && y) ≡ pick x y false
    and_pick true y = refl
    and_pick false y = refl

pub blocks_zero : (b : List ℕ) (n last : ℕ) → last ≤ 128 * n → 128 * n < last + 128 → last + 128 ≡ length b
    → pick (list_all (λ i. zero_in b 128 (128 * i)) (range_with_len 0 n)) (zero_in b 128 last) false ≡ zero_from b 0
unfolding zero_from
blocks_zero b n last h k l =
    let r : ℕ = 128 * n - last in
    let d : length b - 0 ≡ last + 128 = omega arith in
    let e : 128 * n ≡ last + r = omega arith in
    let f : zero_in b 128 last ≡ pick (zero_in b r last) (zero_in b (128 - r) (last + r)) false =
    ap (λ (m : ℕ). zero_in b m last) (omega arith) ∙ in_split b r (128 - r) last in
    let g : zero_in b (128 * n) 0 ≡ pick (zero_in b last 0) (zero_in b r last) false = ap (λ (m : ℕ). zero_in b m 0) e ∙ in_split b last r 0
    ∙ ap (λ (m : ℕ). pick (zero_in b last 0) (zero_in b r m) false) (omega arith) in
    let z : 0 + last ≡ last = omega arith in
    rw (firsts b n 0, d, in_split b last 128 0, z, g, f) (twice (zero_in b last 0) (zero_in b r last) (zero_in b (128 - r) (last + r)))
  where
    twice : (x y z : Bool) → pick (pick x y false) (pick y z false) false ≡ pick x (pick y z false) false
    twice true true z = refl
    twice true false z = refl
    twice false y z = refl

-- ---- a part of the bytes
shifted : (b : List ℕ) (s n i : ℕ) → each (is_zero (drop s b)) (numbers n i) ≡ each (is_zero b) (numbers n (s + i))
unfolding is_zero
shifted b s zero i = refl
shifted b s (suc n) i = let e : s + suc i ≡ suc (s + i) = omega arith in rw (← e, get_or-drop s b i 0, shifted b s n (suc i)) refl

-- the bytes from a place on, as a part of their own
pub part_zero : (b : List ℕ) (s : ℕ) → zero_from (drop s b) 0 ≡ zero_from b s
unfolding zero_from zero_in
part_zero b s =
    let l : length (drop s b) - 0 ≡ length b - s = omega (arith, length-drop s b) in
    let z : s + 0 ≡ s = omega arith in
    rw (l, shifted b s (length b - s) 0, z) refl
