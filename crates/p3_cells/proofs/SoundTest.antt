-- The soundness test as the code goes through it: a cell in use by its mark, its tone and its base; the cells past the
-- count by their sum as numbers.
use Prim.Native.Nat.{ℕ, zero, suc, ◌+◌, ◌-◌, ◌*◌, ◌<◌, ◌≤◌}
use mathlib.Core.Path.{◌≡◌, refl, sym, ap, ◌∙◌}
use mathlib.Core.Bool.{Bool, true, false, not}
use mathlib.Core.List.{List, [], ◌∷◌, ◌++◌}
use native.Mathlib.Omega.{arith}
use native.Mathlib.Numerals.{add-one}
use lib.Dec.{eqb}
use lib.ListN.{length, get_or, take, drop}
use Rattle.std.proofs.Common.{length-drop}
use Rattle.std.proofs.lemmas.List.{length-take-le, get_or-take, get_or-drop}
use borrow.Author.Tests.{eqb-true, eqb-false, eq-eqb, ne_eqb, le-leb, lt-leb, not-true, not-false}
use Rattle.p0_choice.specs.Choice.{pick, among, each, from}
use Rattle.p0_choice.specs.Text.{word}
use Rattle.p1_letters.specs.Alphabet.{in_alphabet}
use Rattle.p2_input_method.specs.Rules.{tone_keys, is_tone_key}
use Rattle.p2_input_method.specs.declared.InputMethod.TheVariants.{Telex, Vni}
use Rattle.p3_cells.specs.Cells.{limit, blank, is_blank, marks, tones, mark_fits, tone_fits, is_cell, fits_at, is_sound}
use Rattle.p3_cells.specs.Mirror.{packed_cell}
use Rattle.p3_cells.specs.declared.Cell.{Cell}
use Rattle.p3_cells.specs.declared.Composition.{Composition}
use Rattle.p3_cells.proofs.Soundness.{fits_used, fits_past}
use Rattle.p3_cells.proofs.Made.{mark_letter}

none : (b : Bool) → false ≡ pick b false false
none true = refl
none false = refl

-- ---- a tone: one of the two methods' keys
among_join : (x : ℕ) (ys zs : List ℕ) → among x (ys ++ zs) ≡ pick (among x ys) true (among x zs)
among_join x [] zs = refl
among_join x (y ∷ ys) zs = go (eqb x y) (among_join x ys zs)
  where
    go : (b : Bool) → among x (ys ++ zs) ≡ pick (among x ys) true (among x zs)
        → pick b true (among x (ys ++ zs)) ≡ pick (pick b true (among x ys)) true (among x zs)
    go true e = refl
    go false e = e

pub tone_keys_lem : (t : ℕ) → among t tones ≡ pick (is_tone_key Telex t) true (is_tone_key Vni t)
unfolding tones is_tone_key tone_keys word
tone_keys_lem t = among_join t (tone_keys Telex) (tone_keys Vni)

-- ---- a cell in use
pub cell_plain : (x : Cell) (t : Bool) → t ≡ tone_fits x → (u : Bool) → x.mark ≡ 0 → not t ≡ false → u ≡ in_alphabet x.base → u ≡ is_cell x
unfolding is_cell mark_fits
cell_plain x t e u m q f = rw (eq-eqb x.mark 0 m, ← e, not-false t q, ← f) (same u)
  where
    same : (b : Bool) → b ≡ pick b true false
    same true = refl
    same false = refl

pub cell_other : (x : Cell) → (x.mark ≡ 0 → ⊥) → (x.mark ≡ x.base → ⊥) → false ≡ is_cell x
unfolding is_cell mark_fits
cell_other x m b = rw (ne_eqb x.mark 0 m, ne_eqb x.mark x.base b) (none (in_alphabet x.base))

module _ (x : Cell) (v : Bool) (m : x.mark ≡ 0 → ⊥) (b : x.mark ≡ x.base) (e : v ≡ among x.mark marks) where
  pub cell_unlisted : not v ≡ true → false ≡ is_cell x
  unfolding is_cell mark_fits
  cell_unlisted q = rw (ne_eqb x.mark 0 m, eq-eqb x.mark x.base b, ← e, not-true v q) (none (in_alphabet x.base))

  pub cell_marked : (t : Bool) → not v ≡ false → t ≡ tone_fits x → t ≡ is_cell x
  unfolding is_cell mark_fits
  cell_marked t q f =
      let l : in_alphabet x.base ≡ true = ap in_alphabet (sym b) ∙ mark_letter x.mark (sym e ∙ not-false v q) in
      rw (ne_eqb x.mark 0 m, eq-eqb x.mark x.base b, ← e, not-false v q, l) f

-- ---- a cell's number is 0 where it is blank
abbrev light : Cell → ℕ
light x = x.base + x.mark * 4294967296 + x.tone * 281474976710656

pub packed_flagged : (x : Cell) → x.upper ≡ true → light x + 72057594037927936 ≡ packed_cell x
unfolding packed_cell
packed_flagged x u = rw u refl

pub packed_plain : (x : Cell) → x.upper ≡ false → light x ≡ packed_cell x
unfolding packed_cell
packed_plain x u = rw u (omega arith)

pub packed_upper : (x : Cell) → x.upper ≡ true → eqb (light x + 72057594037927936) 0 ≡ is_blank x
unfolding is_blank
packed_upper x u = ne_eqb (light x + 72057594037927936) 0 (λ e. omega arith)
    ∙ rw u (go (eqb x.base 0) (eqb x.mark 0) (eqb x.tone 0))
  where
    go : (a b c : Bool) → false ≡ pick a (pick b (pick c false false) false) false
    go true true true = refl
    go true true false = refl
    go true false c = refl
    go false b c = refl

pub packed_lower : (x : Cell) → x.upper ≡ false → eqb (light x) 0 ≡ is_blank x
unfolding is_blank
packed_lower x u = rw u (go (eqb x.base 0) (eqb x.mark 0) (eqb x.tone 0) refl refl refl)
  where
    go : (a b c : Bool) → eqb x.base 0 ≡ a → eqb x.mark 0 ≡ b → eqb x.tone 0 ≡ c
        → eqb (light x) 0 ≡ pick a (pick b (pick c true false) false) false
    go true true true p q r = eq-eqb (light x) 0 (omega (arith, eqb-true x.base 0 p, eqb-true x.mark 0 q, eqb-true x.tone 0 r))
    go true true false p q r = ne_eqb (light x) 0 (λ e. eqb-false x.tone 0 r (omega arith))
    go true false c p q r = ne_eqb (light x) 0 (λ e. eqb-false x.mark 0 q (omega arith))
    go false b c p q r = ne_eqb (light x) 0 (λ e. eqb-false x.base 0 p (omega arith))

-- ---- the cells from a place on
unfoldable pub fits_from : Composition → ℕ → Bool
fits_from c i = each (fits_at c.cells c.count) (from (limit - i) i)

pub turn : (c : Composition) (i : ℕ) → i < limit → fits_from c i ≡ pick (fits_at c.cells c.count i) (fits_from c (i + 1)) false
unfolding fits_from
turn c i l = let e : limit - i ≡ suc (limit - (i + 1)) = omega arith in rw (e, add-one i) refl

pub sound_long : (c : Composition) → limit < c.count → false ≡ is_sound c
unfolding is_sound
sound_long c l = rw (lt-leb c.count limit l) (none (eqb (length c.cells) limit))

pub sound_start : (c : Composition) → length c.cells ≡ limit → c.count ≤ limit → is_sound c ≡ fits_from c 0
unfolding is_sound fits_from
sound_start c n l = rw (eq-eqb (length c.cells) limit n, le-leb c.count limit l) refl

pub heavy : (a : ℕ) (b : Bool) → (a ≡ 0 → ⊥) → pick (eqb a 0) b false ≡ false
heavy a b h = rw (ne_eqb a 0 h) refl

-- the array parted at the count: the cells in use are tested one by one, and of those past them t is the sum so far
module _ (c : Composition) (h : c.count ≤ limit) (n : length c.cells ≡ limit) where
  used_in : (front : List Cell) → front ≡ take c.count c.cells → length front ≡ c.count
  used_in front f = rw f (length-take-le c.count c.cells (omega arith))

  module _ (front : List Cell) (f : front ≡ take c.count c.cells) (i : ℕ) (l : i < length front) (s v : Bool) (e : s ≡ fits_from c i)
      (p : v ≡ is_cell (get_or front i blank)) where
    step : s ≡ pick v (fits_from c (i + 1)) false
    step =
        let m : i < c.count = omega (arith, used_in front f) in
        let q : v ≡ is_cell (get_or c.cells i blank) = rw (f, get_or-take c.count c.cells i blank m) at p in
        e ∙ turn c i (omega arith) ∙ ap (λ (b : Bool). pick b (fits_from c (i + 1)) false) (fits_used c.cells c.count i m ∙ sym q)

    pub used_bad : not v ≡ true → false ≡ s
    used_bad q = sym (step ∙ rw (not-true v q) refl)

    pub used_on : not v ≡ false → s ≡ fits_from c (i + 1)
    used_on q = step ∙ rw (not-false v q) refl

  pub past_start : (front : List Cell) → front ≡ take c.count c.cells → (i : ℕ) → i ≤ length front → length front ≤ i → (s : Bool)
      → s ≡ fits_from c i → s ≡ pick (eqb 0 0) (fits_from c (c.count + 0)) false
  past_start front f i a b s e = let d : i ≡ c.count + 0 = omega (arith, used_in front f) in rw (← d) e

  module _ (back : List Cell) (f : back ≡ drop c.count c.cells) (i t : ℕ) (s : Bool)
      (e : s ≡ pick (eqb t 0) (fits_from c (c.count + i)) false) where
    pub past_on : (w : ℕ) → i < length back → eqb w 0 ≡ is_blank (get_or back i blank)
        → s ≡ pick (eqb (t + w) 0) (fits_from c (c.count + (i + 1))) false
    past_on w l q = go t e
      where
        k : c.count + i < limit
        k = let m = rw f at l in omega (arith, length-drop c.count c.cells)

        r : eqb w 0 ≡ fits_at c.cells c.count (c.count + i)
        r = rw (f, get_or-drop c.count c.cells i blank) at q ∙ sym (fits_past c.cells c.count (c.count + i) (omega arith))

        a : c.count + (i + 1) ≡ c.count + i + 1
        a = omega arith

        go : (t : ℕ) → s ≡ pick (eqb t 0) (fits_from c (c.count + i)) false → s ≡ pick (eqb (t + w) 0) (fits_from c (c.count + (i + 1))) false
        go zero e =
            let d : 0 + w ≡ w = omega arith in
            rw (d, a) (e ∙ turn c (c.count + i) k ∙ ap (λ (b : Bool). pick b (fits_from c (c.count + i + 1)) false) (sym r))
        go (suc t) e =
            e ∙ heavy (suc t) (fits_from c (c.count + i)) (λ z. omega arith)
            ∙ sym (heavy (suc t + w) (fits_from c (c.count + (i + 1))) (λ z. omega arith))

    pub past_end : length back ≤ i → eqb t 0 ≡ s
    unfolding fits_from
    past_end l =
        let m = rw f at l in
        let d : limit - (c.count + i) ≡ 0 = omega (arith, length-drop c.count c.cells) in
        rw (e, d) (same (eqb t 0))
      where
        same : (b : Bool) → b ≡ pick b true false
        same true = refl
        same false = refl
