-- Request 2026-05 over what the calls answer and leave: "Drafts of at most 32 cells keep their old bytes and read on old panels; a
-- longer draft is one that an old reader refuses by 11."
use Rattle.std.specs.Prelude.{Err, Ok}
use Prim.Native.Nat.{ℕ, ◌≤◌, ◌<◌}
use mathlib.Core.Path.{◌≡◌, refl, ◌∙◌}
use mathlib.Core.Bool.{true}
use native.Mathlib.Omega.{arith}
use Rattle.p0_refusals.specs.Answers.{refusal_of}
use Rattle.p0_refusals.specs.declared.Refusal.TheVariants.{NoDraft}
use Rattle.p3_cells.specs.Cells.{limit, is_sound}
use Rattle.p3_cells.specs.declared.Composition.{Composition}
use Rattle.p6_draft.specs.Draft.{draft_of, Reading, gives, Means}
use Rattle.p6_draft.proofs.Exact.{draft_read}
use Rattle.p6_draft_calls.specs.Calls.{read_to}
use Rattle.p6_draft_limits.specs.Within.{limit_before, sound_within, within, MeansWithin}
use Rattle.p6_draft_limits.proofs.Held.{sound_now, sound_with, within_back}
use Rattle.p6_draft_limits.proofs.Form.{draft_within, sound_here}
use Rattle.p6_draft_limits.proofs.Readers.{has_room, no_room, read_within_only}

-- ---- what was written here, on a panel with room for m cells
-- its compositions have the same bytes
pub same_bytes : (m : ℕ) (c : Composition) → is_sound c ≡ true → c.count ≤ m
    → (sound_within m (within m c) ≡ true) × (draft_of (within m c) ≡ draft_of c)
same_bytes m c s k = (sound_with limit c (sound_now c ∙ s) m k, draft_within m c)

module _ (m : ℕ) (h : m ≤ limit) (c : Composition) (s : is_sound c ≡ true) where
  -- u is what it reads, d the composition that it had
  module _ (u : Reading) (t : MeansWithin m (draft_of c) u) (d : Composition) where
    pub fewer_read : c.count ≤ m → read_to u d ≡ record { comp = within m c; answer = Ok 0 }
    unfolding read_to
    fewer_read k = rw (read_within_only m h (draft_of c) (gives c) u (s, refl) t, ← has_room m c k) refl

    pub more_refused : m < c.count → read_to u d ≡ record { comp = d; answer = Err NoDraft }
    unfolding read_to
    more_refused k = rw (read_within_only m h (draft_of c) (gives c) u (s, refl) t, ← no_room m c k) refl

-- ---- what was written there is read here, and the same bytes are written again, which are the same composition there
module _ (m : ℕ) (h : m ≤ limit) (d : Composition) (s : sound_within m d ≡ true) where
  pub read_here : (u : Reading) → Means (draft_of d) u → u ≡ gives (within limit d)
  read_here u t = draft_read (within limit d) (sound_here m h d s) u (rw (draft_within limit d) t)

  pub written_again : (draft_of (within limit d) ≡ draft_of d) × (within m (within limit d) ≡ d)
  written_again = (draft_within limit d, within_back m d s limit)

-- ---- the panels before the request
module _ (c : Composition) (s : is_sound c ≡ true) where
  -- "Drafts of at most 32 cells keep their old bytes": those of the composition with the same settings and cells on an old panel
  pub old_bytes : c.count ≤ limit_before
      → (sound_within limit_before (within limit_before c) ≡ true) × (draft_of (within limit_before c) ≡ draft_of c)
  old_bytes = same_bytes limit_before c s

  module _ (u : Reading) (t : MeansWithin limit_before (draft_of c) u) (d : Composition) where
    -- "and read on old panels"
    pub old_panel_reads : c.count ≤ limit_before → read_to u d ≡ record { comp = within limit_before c; answer = Ok 0 }
    old_panel_reads = fewer_read limit_before (omega arith) c s u t d

    -- "a longer draft is one that an old reader refuses by 11"
    pub old_panel_refuses : limit_before < c.count → (refusal_of (read_to u d).answer ≡ 11) × ((read_to u d).comp ≡ d)
    old_panel_refuses k = let e = more_refused limit_before (omega arith) c s u t d k in (rw e refl, rw e refl)
