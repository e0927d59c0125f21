-- The test for soundness is document 01's soundness, both ways; and what it gives at once of a sound composition.
use Prim.Native.Nat.{ℕ, ◌<◌, ◌≤◌}
use mathlib.Core.Path.{◌≡◌, refl, sym, ◌∙◌}
use mathlib.Core.Bool.{Bool, true, false}
use mathlib.Core.List.{List}
use mathlib.Core.Logic.{inl, inr, ⊎_elim}
use native.Mathlib.Omega.{arith}
use lib.Dec.{eqb, ltb, leb}
use lib.ListN.{length, get_or}
use borrow.Author.Tests.{eqb-true, eq-eqb, lt-ltb, le-ltb, le-leb, leb-true, ltb-true, ltb-false}
use Rattle.p0_choice.specs.Choice.{pick, among, each, from}
use Rattle.p0_choice.proofs.Tables.{each_count}
use Rattle.p1_letters.specs.Alphabet.{in_alphabet}
use Rattle.p3_cells.specs.Cells.{limit, blank, is_blank, marks, tones, mark_fits, tone_fits, is_cell, fits_at, is_sound}
use Rattle.p3_cells.specs.Soundness.{SoundCell, Sound}
use Rattle.p3_cells.specs.declared.Cell.{Cell}
use Rattle.p3_cells.specs.declared.Composition.{Composition}
use Rattle.p0_choice.proofs.Tests.{both_are, either_is, is_either, holds, each_from}

off : (u : Bool) → pick u false true ≡ true → u ≡ false
off true e = sym e
off false e = refl

-- ---- a cell
zeros : (b m t : ℕ) (u : Bool) → b ≡ 0 → m ≡ 0 → t ≡ 0 → u ≡ false
    → ◌≡◌ {A = Cell} (record { base = b; mark = m; tone = t; upper = u }) blank
zeros b m t u p q r s = rw (p, q, r, s) refl

pub blank_is : (x : Cell) → is_blank x ≡ true → x ≡ blank
unfolding is_blank
blank_is x e =
    let p = both_are (eqb x.base 0) (pick (eqb x.mark 0) (pick (eqb x.tone 0) (pick x.upper false true) false) false) e in
    let q = both_are (eqb x.mark 0) (pick (eqb x.tone 0) (pick x.upper false true) false) p.1 in
    let r = both_are (eqb x.tone 0) (pick x.upper false true) q.1 in
    zeros x.base x.mark x.tone x.upper (eqb-true x.base 0 p.0) (eqb-true x.mark 0 q.0) (eqb-true x.tone 0 r.0)
    (off x.upper r.1)

pub is_blank_lem : is_blank blank ≡ true
unfolding is_blank
is_blank_lem = refl

pub cell_is : (x : Cell) → is_cell x ≡ true → SoundCell x
unfolding is_cell mark_fits tone_fits
cell_is x e =
    let p = both_are (in_alphabet x.base) (pick (mark_fits x) (tone_fits x) false) e in
    let q = both_are (mark_fits x) (tone_fits x) p.1 in
    record {
      base = p.0;
      mark = ⊎_elim
          (λ (h : eqb x.mark 0 ≡ true). inl (eqb-true x.mark 0 h))
          (λ (h : pick (eqb x.mark x.base) (among x.mark marks) false ≡ true).
          let d = both_are (eqb x.mark x.base) (among x.mark marks) h in inr (eqb-true x.mark x.base d.0, d.1))
          (either_is (eqb x.mark 0) (pick (eqb x.mark x.base) (among x.mark marks) false) q.0);
      tone = ⊎_elim
          (λ (h : eqb x.tone 0 ≡ true). inl (eqb-true x.tone 0 h))
          (λ (h : among x.tone tones ≡ true). inr h)
          (either_is (eqb x.tone 0) (among x.tone tones) q.1);
    }

pub is_cell_lem : (x : Cell) → SoundCell x → is_cell x ≡ true
unfolding is_cell mark_fits tone_fits
is_cell_lem x s =
    let m : mark_fits x ≡ true = ⊎_elim
    (λ (h : x.mark ≡ 0). rw (eq-eqb x.mark 0 h) refl)
    (λ (h : (x.mark ≡ x.base) × (among x.mark marks ≡ true)). is_either (eqb x.mark 0) _
    (rw (eq-eqb x.mark x.base h.0) h.1))
    s.mark in
    let t : tone_fits x ≡ true = ⊎_elim
    (λ (h : x.tone ≡ 0). rw (eq-eqb x.tone 0 h) refl)
    (λ (h : among x.tone tones ≡ true). is_either (eqb x.tone 0) _ h)
    s.tone in
    rw (s.base, m, t) refl

-- ---- the composition
pub fits_used : (cells : List Cell) (n i : ℕ) → i < n → fits_at cells n i ≡ is_cell (get_or cells i blank)
unfolding fits_at
fits_used cells n i l = rw (lt-ltb i n l) refl

pub fits_past : (cells : List Cell) (n i : ℕ) → n ≤ i → fits_at cells n i ≡ is_blank (get_or cells i blank)
unfolding fits_at
fits_past cells n i l = rw (le-ltb i n l) refl

-- the test holds of a composition exactly where it is sound
pub sound_is : (c : Composition) → is_sound c ≡ true → Sound c
unfolding is_sound
sound_is c e =
    let w = both_are (eqb (length c.cells) limit) _ e in
    let p = both_are (leb c.count limit) (each (fits_at c.cells c.count) (from limit 0)) w.1 in
    let fits : (i : ℕ) → i < limit → fits_at c.cells c.count i ≡ true =
    λ i h. each_count (fits_at c.cells c.count) limit 0 (holds _ p.1) i (omega arith) h in
    let few : c.count ≤ limit = leb-true c.count limit p.0 in
    record {
      whole = eqb-true (length c.cells) limit w.0;
      few = few;
      in_use = λ i h. cell_is (get_or c.cells i blank) (sym (fits_used c.cells c.count i h) ∙ fits i (omega arith));
      past = λ i h l. blank_is (get_or c.cells i blank) (sym (fits_past c.cells c.count i h) ∙ fits i l);
    }

-- the array of a sound composition has all its places
pub sound_length : (c : Composition) → is_sound c ≡ true → length c.cells ≡ limit
sound_length c s = (sound_is c s).whole

pub is_sound_lem : (c : Composition) → Sound c → is_sound c ≡ true
unfolding is_sound
is_sound_lem c s =
    rw (eq-eqb (length c.cells) limit s.whole, le-leb c.count limit s.few)
    (each_from (fits_at c.cells c.count) limit 0 (λ i l h. at i (ltb i c.count) refl (omega arith)))
  where
    at : (i : ℕ) (b : Bool) → ltb i c.count ≡ b → i < limit → fits_at c.cells c.count i ≡ true
    at i true e h = let l : i < c.count = ltb-true i c.count e in
        fits_used c.cells c.count i l ∙ is_cell_lem (get_or c.cells i blank) (s.in_use i l)
    at i false e h =
        let l : c.count ≤ i = ltb-false i c.count e in fits_past c.cells c.count i l ∙ rw (s.past i l h) is_blank_lem
