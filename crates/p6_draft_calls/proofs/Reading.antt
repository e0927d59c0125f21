-- Each way through the readers.
use Rattle.std.specs.Prelude.{Err, Ok, Result}
use Rattle.p0_refusals.specs.declared.Refusal.{Refusal}
use Prim.Native.Nat.{ℕ}
use mathlib.Core.Path.{◌≡◌, refl}
use mathlib.Core.Bool.{Bool, true, false, not}
use mathlib.Core.List.{List}
use lib.ListN.{length}
use borrow.Author.Tests.{eq-eqb, ne_eqb}
use mir.Syntax.{w8}
use mir.Val.{Fits}
use Rattle.p0_refusals.specs.declared.Refusal.TheVariants.{Unsound, NoDraft}
use Rattle.p3_cells.specs.Leaving.{refusing}
use Rattle.p3_cells.specs.declared.After.{After}
use Rattle.p3_cells.specs.declared.Composition.{Composition}
use Rattle.p6_bytes.specs.Bytes.{size, bytes_of}
use Rattle.p6_zeros.specs.Zeros.{byte_at}
use Rattle.p6_draft.specs.Draft.{Reading, gives, none, Means}
use Rattle.p6_draft.specs.Mirror.{draft_composition, is_draft}
use Rattle.p6_draft.proofs.Exact.{passes_means, fails_means, some_reading}
use Rattle.p6_draft_calls.specs.Calls.{read_to, read_on, read_bytes}

-- ---- by value
abbrev Read : List ℕ → Composition → After → Type 0
Read b c k = (u : Reading) × Means b u × (k ≡ read_to u c)

module _ (b : List ℕ) (c : Composition) (v : Bool) (e : v ≡ is_draft b) where
  pub read_refused : not v ≡ true → Read b c (refusing c NoDraft)
  unfolding read_to
  read_refused t = (none, fails_means b v e t, refl)

  pub read_given : (d : Composition) → not v ≡ false → ((k : ℕ) → Fits w8 (byte_at b k)) → d ≡ draft_composition b
      → Read b c (record { comp = d; answer = Ok 0 })
  unfolding read_to
  read_given d t f p = (gives (draft_composition b), passes_means b v e t f, rw p refl)

-- ---- on bytes
abbrev ReadOn : List ℕ → List ℕ → Result ℕ Refusal → List ℕ → Type 0
ReadOn b s a new = (u : Reading) × Means b u × (a ≡ read_on u s) × (new ≡ read_bytes u s)

module _ (b s : List ℕ) where
  pub read_size : ((k : ℕ) → Fits w8 (byte_at b k)) → (length s ≡ size → ⊥) → ReadOn b s (Err Unsound) s
  unfolding read_on read_bytes read_to
  read_size f h =
      let m = some_reading b f in
      (m.0, m.1, rw (ne_eqb (length s) size h) refl, rw (ne_eqb (length s) size h) refl)

  module _ (l : length s ≡ size) (v : Bool) (e : v ≡ is_draft b) where
    pub read_none : (new : List ℕ) → not v ≡ true → new ≡ s → ReadOn b s (Err NoDraft) new
    unfolding read_on read_bytes read_to
    read_none new t p = (none, fails_means b v e t, rw (eq-eqb (length s) size l) refl, rw (eq-eqb (length s) size l) p)

    pub read_done : (new : List ℕ) → not v ≡ false → ((k : ℕ) → Fits w8 (byte_at b k)) → new ≡ bytes_of (draft_composition b)
        → ReadOn b s (Ok 0) new
    unfolding read_on read_bytes read_to
    read_done new t f p =
        (gives (draft_composition b), passes_means b v e t f, rw (eq-eqb (length s) size l) refl, rw (eq-eqb (length s) size l) p)
