-- The form of a draft does not depend on the limit: it tells the settings and the cells in use, and nothing else.
use Prim.Native.Nat.{ℕ, ◌≤◌}
use mathlib.Core.Path.{◌≡◌, refl, sym, ap, ◌∙◌}
use mathlib.Core.Bool.{true}
use mathlib.Core.List.{List, [], ◌∷◌, ◌++◌}
use native.Mathlib.Omega.{arith}
use Rattle.p3_cells.specs.Cells.{limit, is_sound, used}
use Rattle.p3_cells.specs.declared.Cell.{Cell}
use Rattle.p3_cells.specs.declared.Composition.{Composition}
use Rattle.p3_cells.specs.declared.Settings.{Settings}
use Rattle.p6_bytes.specs.Bytes.{method_byte, mode_byte, flag_byte}
use Rattle.p6_draft.specs.Draft.{field, draft_cells, fields, draft_of}
use Rattle.p6_draft.proofs.Exact.{one_draft}
use Rattle.p6_draft_limits.specs.Within.{sound_within, within}
use Rattle.p6_draft_limits.proofs.Held.{sound_now, settings_within, used_within, few_within, sound_with}

-- a draft, by settings and cells
abbrev form : Settings → List Cell → List ℕ
form z xs =
    field 1 (method_byte z.method ∷ [])
    ++ (field 2 (mode_byte z.mode ∷ []) ++ (field 3 (draft_cells xs) ++ (field 4 (flag_byte z.capitals ∷ []) ++ [])))

draft_is : (c : Composition) → draft_of c ≡ form c.settings (used c)
unfolding draft_of fields
draft_is c = refl

-- the same settings and cells have the same draft
pub draft_by_cells : (c d : Composition) → c.settings ≡ d.settings → used c ≡ used d → draft_of c ≡ draft_of d
draft_by_cells c d p q =
    draft_is c ∙ ap (λ (z : Settings). form z (used c)) p ∙ ap (form d.settings) q ∙ sym (draft_is d)

-- "keep their old bytes": whatever the number of places
pub draft_within : (m : ℕ) (c : Composition) → draft_of (within m c) ≡ draft_of c
draft_within m c =
    draft_by_cells (within m c) c (settings_within m c.settings (used c)) (used_within m c.settings (used c))

-- with no more places than there are here: as many cells as a composition has there it has here
pub sound_here : (m : ℕ) → m ≤ limit → (c : Composition) → sound_within m c ≡ true → is_sound (within limit c) ≡ true
sound_here m h c s = sym (sound_now (within limit c)) ∙ sound_with m c s limit (omega (arith, few_within m c s))

-- and the same draft is of the same settings and cells
pub cells_by_draft : (m n : ℕ) → m ≤ limit → n ≤ limit → (c d : Composition) → sound_within m c ≡ true → sound_within n d ≡ true
    → draft_of c ≡ draft_of d → (c.settings ≡ d.settings) × (used c ≡ used d)
cells_by_draft m n h k c d s t e =
    let p : within limit c ≡ within limit d =
    one_draft (within limit c) (within limit d) (sound_here m h c s) (sound_here n k d t)
    (draft_within limit c ∙ e ∙ sym (draft_within limit d)) in (
      sym (settings_within limit c.settings (used c)) ∙ ap (λ (x : Composition). x.settings) p
          ∙ settings_within limit d.settings (used d),
      sym (used_within limit c.settings (used c)) ∙ ap used p ∙ used_within limit d.settings (used d),
    )
