-- The soundness test as the owner makes it: of the sum of all cells as numbers nothing is left without the cells in use, and these have
-- no fault.
use Prim.Native.Nat.{ℕ, zero, suc, ◌+◌, ◌-◌, ◌<◌, ◌≤◌, min}
use mathlib.Core.Path.{◌≡◌, refl, sym, ap, ◌∙◌}
use mathlib.Core.Bool.{Bool, true, false}
use mathlib.Core.Logic.{inl}
use native.Mathlib.Omega.{arith}
use lib.Dec.{eqb, ltb}
use borrow.Author.Tests.{ne_eqb, lt-ltb, ltb-true, ltb-false}
use Rattle.p0_choice.specs.Choice.{pick}
use Rattle.p1_letters.specs.Alphabet.{in_alphabet}
use Rattle.p3_cells.specs.Cells.{limit, is_blank, is_cell, fits_at, is_sound}
use Rattle.p3_cells.specs.Mirror.{cell_of, places, packed_cell}
use Rattle.p3_cells.specs.declared.Cell.{Cell}
use Rattle.p3_cells.specs.declared.Composition.{Composition}
use Rattle.p3_cells.proofs.Soundness.{fits_used, fits_past, is_cell_lem}
use Rattle.p3_cells.proofs.SoundTest.{fits_from, turn, sound_long, sound_start, heavy}
use Rattle.p3_cells.proofs.SoundTest.{packed_flagged, packed_plain, packed_upper, packed_lower}
use Rattle.p3_key.specs.Mirror.{sound_by}

-- ---- a cell's fault
-- an ASCII letter alone
pub plain_fault : (x : Cell) → x.base < 128 → x.mark ≡ 0 → x.tone ≡ 0 → eqb 0 0 ≡ is_cell x
unfolding in_alphabet
plain_fault x b m t = sym (is_cell_lem x (record { base = rw (lt-ltb x.base 0x80 b) refl; mark = inl m; tone = inl t }))

-- ---- the sum of faults, t, up to the place i: with what stands from there on it says whether every cell fits
unfoldable pub faults_by : Composition → ℕ → ℕ → Bool
faults_by c t i = pick (eqb t 0) (fits_from c i) false

more : (c : Composition) (t i w : ℕ) → i < limit → eqb w 0 ≡ fits_at c.cells c.count i → faults_by c t i ≡ faults_by c (t + w) (i + 1)
unfolding faults_by
more c zero i w l e =
    let d : 0 + w ≡ w = omega arith in rw d (turn c i l ∙ ap (λ (b : Bool). pick b (fits_from c (i + 1)) false) (sym e))
more c (suc t) i w l e = heavy (suc t) (fits_from c i) (λ z. omega arith) ∙ sym (heavy (suc t + w) (fits_from c (i + 1)) (λ z. omega arith))

pub faults_none : (c : Composition) → fits_from c 0 ≡ faults_by c 0 0
unfolding faults_by
faults_none c = refl

pub faults_used : (c : Composition) (t i w u : ℕ) → fits_from c 0 ≡ faults_by c t i → u ≡ min c.count limit → i < u
    → eqb w 0 ≡ is_cell (cell_of c i) → fits_from c 0 ≡ faults_by c (t + w) (i + 1)
faults_used c t i w u e h l q = e ∙ more c t i w (omega arith) (q ∙ sym (fits_used c.cells c.count i (omega arith)))

-- ---- the sum, as numbers, of the cells from a place on
abbrev sum_of : Composition → ℕ → ℕ → ℕ
sum_of c zero i = 0
sum_of c (suc n) i = packed_cell (cell_of c i) + sum_of c n (i + 1)

unfoldable pub sum_from : Composition → ℕ → ℕ
sum_from c i = sum_of c (limit - i) i

sum_turn : (c : Composition) (i : ℕ) → i < limit → sum_from c i ≡ packed_cell (cell_of c i) + sum_from c (i + 1)
unfolding sum_from
sum_turn c i l = let e : limit - i ≡ suc (limit - (i + 1)) = omega arith in rw e refl

sum_end : (c : Composition) (i : ℕ) → limit ≤ i → sum_from c i ≡ 0
unfolding sum_from
sum_end c i l = let e : limit - i ≡ 0 = omega arith in rw e refl

-- all of it is put together, a cell a turn
pub sum_none : (c : Composition) → sum_from c 0 ≡ 0 + sum_from c 0
sum_none c = omega arith

pub sum_more : (c : Composition) (t i w : ℕ) → sum_from c 0 ≡ t + sum_from c i → i < limit → w ≡ packed_cell (cell_of c i)
    → sum_from c 0 ≡ t + w + sum_from c (i + 1)
sum_more c t i w e l q = let d = sum_turn c i l in omega arith

pub sum_all : (c : Composition) (t i : ℕ) → sum_from c 0 ≡ t + sum_from c i → limit ≤ i → t ≡ sum_from c 0
sum_all c t i e l = let d = sum_end c i l in omega arith

-- and a cell in use is taken off
module _ (c : Composition) (t i w u : ℕ) (e : t ≡ sum_from c i) (h : u ≡ min c.count limit) (l : i < u)
    (q : w ≡ packed_cell (cell_of c i)) where
  pub sum_holds : w ≤ t
  sum_holds = let d = sum_turn c i (omega arith) in omega arith

  pub sum_less : t - w ≡ sum_from c (i + 1)
  sum_less = let d = sum_turn c i (omega arith) in omega arith

-- ---- what is left is 0 where the cells past the count are blank
packed_blank : (x : Cell) → eqb (packed_cell x) 0 ≡ is_blank x
packed_blank x = go x.upper refl
  where
    go : (b : Bool) → x.upper ≡ b → eqb (packed_cell x) 0 ≡ is_blank x
    go true u = ap (λ (n : ℕ). eqb n 0) (sym (packed_flagged x u)) ∙ packed_upper x u
    go false u = ap (λ (n : ℕ). eqb n 0) (sym (packed_plain x u)) ∙ packed_lower x u

zero_both : (a b : ℕ) → eqb (a + b) 0 ≡ pick (eqb a 0) (eqb b 0) false
zero_both zero b = let d : 0 + b ≡ b = omega arith in rw d refl
zero_both (suc a) b = ne_eqb (suc a + b) 0 (λ z. omega arith) ∙ sym (heavy (suc a) (eqb b 0) (λ z. omega arith))

past_blank : (c : Composition) (n i : ℕ) → n ≡ limit - i → i ≤ limit → c.count ≤ i → eqb (sum_from c i) 0 ≡ fits_from c i
unfolding fits_from
past_blank c zero i e l h = let d : limit - i ≡ 0 = sym e in rw (sum_end c i (omega arith), d) refl
past_blank c (suc n) i e l h =
    rw (
      sum_turn c i (omega arith),
      zero_both (packed_cell (cell_of c i)) (sum_from c (i + 1)),
      packed_blank (cell_of c i),
      past_blank c n (i + 1) (omega arith) (omega arith) (omega arith),
    )
    (sym (turn c i (omega arith) ∙ ap (λ (b : Bool). pick b (fits_from c (i + 1)) false) (fits_past c.cells c.count i h)))

all_fit : (c : Composition) (t w i : ℕ) → fits_from c 0 ≡ faults_by c t i → w ≡ sum_from c i → i ≤ limit → c.count ≤ i
    → eqb (t + w) 0 ≡ fits_from c 0
unfolding faults_by
all_fit c t w i e q l h = rw (zero_both t w, q, past_blank c (limit - i) i refl l h) (sym e)

module _ (c : Composition) (t w i u : ℕ) (p : places c ≡ limit) (h : u ≡ min c.count limit) (l : i ≤ u) (m : u ≤ i)
    (e : fits_from c 0 ≡ faults_by c t i) (q : w ≡ sum_from c i) where
  tested : pick (ltb limit c.count) false (eqb (t + w) 0) ≡ is_sound c
  tested = go (ltb limit c.count) refl
    where
      go : (b : Bool) → ltb limit c.count ≡ b → pick b false (eqb (t + w) 0) ≡ is_sound c
      go true r = sound_long c (ltb-true limit c.count r)
      go false r =
          let d = ltb-false limit c.count r in
          all_fit c t w i e q (omega arith) (omega arith) ∙ sym (sound_start c p d)

  pub faults_sound : (trusted s : Bool) → (trusted ≡ true → is_sound c ≡ true) → s ≡ sound_by trusted c.count (t + w) → s ≡ is_sound c
  unfolding sound_by
  faults_sound true s k r = r ∙ sym (k refl)
  faults_sound false s k r = r ∙ tested
