-- What a reader with at most as many places reads, of whatever bytes: what is read here, where it has room for the cells, and else
-- nothing. That is one reading, and the only one.
use Prim.Native.Nat.{ℕ, ◌≤◌, ◌<◌}
use mathlib.Core.Path.{◌≡◌, refl, sym, ap, ◌∙◌}
use mathlib.Core.Bool.{Bool, true, false}
use mathlib.Core.List.{List}
use native.Mathlib.Omega.{arith}
use lib.Dec.{leb}
use lib.ListN.{length}
use borrow.Author.Tests.{leb-true, leb-false}
use Rattle.p0_choice.proofs.Choices.{picks}
use Rattle.p3_cells.specs.Cells.{limit, is_sound, used}
use Rattle.p3_cells.specs.declared.Composition.{Composition}
use Rattle.p3_cells.specs.declared.Settings.{Settings}
use Rattle.p6_draft.specs.Draft.{draft_of, Reading, gives, none, Means}
use Rattle.p6_draft_limits.specs.Within.{composed_within, within, MeansWithin, read_within}
use Rattle.p6_draft_limits.proofs.Held.{sound_now, few_within, length_within, held_within, sound_with}
use Rattle.p6_draft_limits.proofs.Form.{draft_within, sound_here, cells_by_draft}

-- ---- a reader with the present limit is the present one
pub means_now : (b : List ℕ) (u : Reading) → Means b u → MeansWithin limit b u
means_now b (gives c) t = (sound_now c ∙ t.0, t.1)
means_now b none t = λ c s. t c (sym (sound_now c) ∙ s)

pub now_means : (b : List ℕ) (u : Reading) → MeansWithin limit b u → Means b u
now_means b (gives c) t = (sym (sound_now c) ∙ t.0, t.1)
now_means b none t = λ c s. t c (sound_now c ∙ s)

-- ---- where there is room for the cells, and where there is not
module _ (m : ℕ) (c : Composition) where
  pub has_room : c.count ≤ m → gives (within m c) ≡ read_within m (gives c)
  has_room h = search picks

  pub no_room : m < c.count → none ≡ read_within m (gives c)
  no_room h = search picks

module _ (m : ℕ) (h : m ≤ limit) (b : List ℕ) where
  -- bytes are a draft of one composition with m places, or of none
  pub one_reading_within : (u w : Reading) → MeansWithin m b u → MeansWithin m b w → u ≡ w
  one_reading_within (gives c) (gives d) t v =
      let e = cells_by_draft m m h h c d t.0 v.0 (t.1 ∙ sym v.1) in
      let p : within m c ≡ within m d =
      ap (λ (z : Settings). composed_within m z (used c)) e.0 ∙ ap (composed_within m d.settings) e.1 in
      ap gives (sym (held_within m c t.0) ∙ p ∙ held_within m d v.0)
  one_reading_within (gives c) none t v = absurd (v c t.0 t.1)
  one_reading_within none (gives d) t v = absurd (t d v.0 v.1)
  one_reading_within none none t v = refl

  -- a draft of more cells is of no composition with m places
  longer : (c : Composition) → is_sound c ≡ true → draft_of c ≡ b → m < c.count → MeansWithin m b none
  longer c s e k d t f =
      let z = sound_now c ∙ s in
      let q = (cells_by_draft limit m (omega arith) h c d z t (e ∙ sym f)).1 in
      let l : c.count ≡ d.count = sym (length_within limit c z) ∙ ap length q ∙ length_within m d t in
      omega (arith, few_within m d t)

  -- what is read here, as far as there is room
  pub reads_within : (u : Reading) → Means b u → MeansWithin m b (read_within m u)
  reads_within (gives c) t = go (leb c.count m) refl
    where
      go : (v : Bool) → leb c.count m ≡ v → MeansWithin m b (read_within m (gives c))
      go true e =
          let k : c.count ≤ m = leb-true c.count m e in
          rw (← has_room m c k) (sound_with limit c (sound_now c ∙ t.0) m k, draft_within m c ∙ t.1)
      go false e = let k : m < c.count = leb-false c.count m e in rw (← no_room m c k) (longer c t.0 t.1 k)
  reads_within none t = λ c s e. t (within limit c) (sound_here m h c s) (draft_within limit c ∙ e)

  -- and nothing else
  pub read_within_only : (u w : Reading) → Means b u → MeansWithin m b w → w ≡ read_within m u
  read_within_only u w t v = one_reading_within w (read_within m u) v (reads_within u t)
