-- Request 2026-02 over the two calls' own contracts, as Rattle reads them out of src/: "Reading gives back the composition written",
-- "each sound composition has one form only", whatever is read is written back as the same bytes, and 11 "exactly when the bytes are no
-- such form of a sound composition". A byte is below 256: the lists of specs/ may have any numbers, so that it is a premise.
use Rattle.std.specs.Prelude.{Err, Ok, Result}
use Rattle.p0_refusals.specs.declared.Refusal.{Refusal}
use Prim.Native.Nat.{ℕ, ◌≤◌, ◌<◌}
use mathlib.Core.Path.{◌≡◌, refl, sym, ap, ◌∙◌}
use mathlib.Core.Bool.{Bool, true, false}
use mathlib.Core.List.{List}
use native.Mathlib.Omega.{arith}
use lib.Dec.{ltb, eqb}
use lib.ListN.{length, take, drop}
use lib.Seq.{take-append_seam}
use borrow.Author.Tests.{eq-eqb, ne_eqb, le-ltb}
use Rattle.p0_choice.specs.Choice.{pick}
use Rattle.p0_refusals.specs.Answers.{writes, refuses, refusal_of, content, answer, unless, output}
use Rattle.p0_refusals.specs.declared.Refusal.TheVariants.{Short, Unsound}
use Rattle.p3_cells.specs.Cells.{is_sound}
use Rattle.p3_cells.specs.declared.Composition.{Composition}
use Rattle.p3_cells.proofs.Soundness.{sound_length}
use Rattle.p6_bytes.specs.Bytes.{size, bytes_of, composition_of, bytes_sound}
use Rattle.p6_bytes.proofs.Round.{read_written, written_sound, written_back}
use Rattle.p6_bytes.proofs.Sound.{sound_composition}
use Rattle.p6_zeros.specs.Zeros.{byte_at}
use Rattle.p6_draft.specs.Draft.{draft_of, Reading, gives, none, Means}
use Rattle.p6_draft.proofs.Exact.{draft_read, one_draft}
use Rattle.p6_draft_calls.specs.Calls.{bytes_outcome, read_answer, read_leaves, read_to, read_on, read_bytes}
use Rattle.p6_draft_calls.proofs.Writing.{bytes_is}
use Rattle.p6_draft_limits.specs.Within.{limit_before, within, MeansWithin}
use Rattle.p6_draft_limits.proofs.Panels.{old_panel_reads, old_panel_refuses}
use Rattle.p6_host.specs.Counts.{count_out}
use Rattle.p6_host.proofs.Made.{Made}
use Rattle.p6_host.proofs.drafts.pasdrongel_write_draft as write
use Rattle.p6_host.proofs.drafts.pasdrongel_read_draft as read

abbrev Written : Type 0
Written = Made write.Kinds.ps write.Reads.Learnt

abbrev WasRead : Type 0
WasRead = Made read.Kinds.ps read.Reads.Learnt

-- the composition's bytes that were handed in, and the draft: so many bytes at the start of the output
abbrev state_of : Written → List ℕ
state_of w = w.handed.0.now

abbrev draft_in : Written → List ℕ
draft_in w = take w.left.1.1.0 w.left.1.0

-- the draft that was handed in, and the composition's bytes before and after
abbrev draft_handed : WasRead → List ℕ
draft_handed r = r.handed.0.now

abbrev before : WasRead → List ℕ
before r = r.handed.1.0.now

abbrev after : WasRead → List ℕ
after r = r.left.1.0

abbrev Bytes : List ℕ → Type 0
Bytes b = (k : ℕ) → byte_at b k < 256

-- ---- a draft that was written is that of the composition
written_is : (b o out : List ℕ) (z n old : ℕ) → z ≡ 0 → z ≡ refusal_of (answer (bytes_outcome b) (length o)) → out ≡ output (bytes_outcome b) o
    → n ≡ count_out (answer (bytes_outcome b) (length o)) old → (bytes_sound b ≡ true) × (take n out ≡ draft_of (composition_of b))
unfolding answer output content
written_is b o out z n old d e f g =
    go (bytes_sound b) refl (rw (bytes_is b) at (sym e ∙ d)) (rw (bytes_is b) at f) (rw (bytes_is b) at g)
  where
    full : (c : Composition) (t : Bool)
        → refusal_of (pick t (Err Short) (Ok (length (draft_of c)))) ≡ 0
        → (s : Result ℕ Refusal) → s ≡ pick t (Err Short) (Ok (length (draft_of c))) → s ≡ Ok (length (draft_of c))
    full c true h s p = let y : ◌≡◌ {A = ℕ} 3 0 = h in absurd (omega arith)
    full c false h s p = p

    go : (t : Bool) → bytes_sound b ≡ t → refusal_of (answer (pick t (writes (draft_of (composition_of b))) (refuses Unsound)) (length o)) ≡ 0
        → out ≡ output (pick t (writes (draft_of (composition_of b))) (refuses Unsound)) o
        → n ≡ count_out (answer (pick t (writes (draft_of (composition_of b))) (refuses Unsound)) (length o)) old
        → (t ≡ true) × (take n out ≡ draft_of (composition_of b))
    go true p h x y =
        let c = composition_of b in
        let s = full c (ltb (length o) (length (draft_of c))) h (answer (writes (draft_of c)) (length o)) refl in
        (refl, rw (rw s at x, rw s at y) (take-append_seam (draft_of c) (drop (length (draft_of c)) o)))
    go false p h x y = let y : ◌≡◌ {A = ℕ} 10 0 = h in absurd (omega arith)

module _ (w : Written) (d : w.number ≡ 0) where
  facts : (bytes_sound (state_of w) ≡ true) × (draft_in w ≡ draft_of (composition_of (state_of w)))
  facts = written_is (state_of w) _ _ _ _ _ d w.told.0 w.told.1.0 w.told.1.1

  -- 2026-02: "Reading gives back the composition written", into whatever bytes there are so many of
  pub drafts_round : (r : WasRead) → Bytes (state_of w) → draft_handed r ≡ draft_in w → length (before r) ≡ size
      → (r.number ≡ 0) × (after r ≡ state_of w)
  unfolding read_on read_bytes read_to
  drafts_round r f e l =
      let c = composition_of (state_of w) in
      let s = sound_composition (state_of w) facts.0 in
      let u : r.told.0 ≡ gives c = draft_read c s r.told.0 (rw (e ∙ facts.1) at r.told.1) in
      let t = eq-eqb (length (before r)) size l in
      (rw (u, t) at r.told.2, rw (u, t) at r.told.3 ∙ written_back (state_of w) f facts.0)

  -- "each sound composition has one form only": two with the same draft are the same
  pub drafts_differ : (v : Written) → v.number ≡ 0 → Bytes (state_of w) → Bytes (state_of v) → draft_in w ≡ draft_in v → state_of w ≡ state_of v
  drafts_differ v k f g e = sym (written_back (state_of w) f facts.0) ∙ ap bytes_of same ∙ written_back (state_of v) g its.0
    where
      its : (bytes_sound (state_of v) ≡ true) × (draft_in v ≡ draft_of (composition_of (state_of v)))
      its = written_is (state_of v) _ _ _ _ _ k v.told.0 v.told.1.0 v.told.1.1

      same : composition_of (state_of w) ≡ composition_of (state_of v)
      same = one_draft _ _ (sound_composition (state_of w) facts.0) (sound_composition (state_of v) its.0)
          (sym facts.1 ∙ e ∙ its.1)

  -- 2026-05: "Drafts of at most 32 cells keep their old bytes and read on old panels; a longer draft is one that an old reader refuses
  -- by 11": u is what an old panel reads, and b the composition that it had
  module _ (u : Reading) (t : MeansWithin limit_before (draft_in w) u) (b : Composition) where
    pub drafts_read_before : (composition_of (state_of w)).count ≤ limit_before
        → read_to u b ≡ record { comp = within limit_before (composition_of (state_of w)); answer = Ok 0 }
    drafts_read_before =
        old_panel_reads (composition_of (state_of w)) (sound_composition (state_of w) facts.0) u (rw facts.1 at t) b

    pub drafts_refused_before : limit_before < (composition_of (state_of w)).count
        → (refusal_of (read_to u b).answer ≡ 11) × ((read_to u b).comp ≡ b)
    drafts_refused_before =
        old_panel_refuses (composition_of (state_of w)) (sound_composition (state_of w) facts.0) u (rw facts.1 at t) b

-- ---- what was read
-- "Refusals: 11 after 10": bytes of another length are no composition's, whatever the draft is
reading_number : (u : Reading) (b : List ℕ) → length b ≡ size → refusal_of (read_on u b) ≡ refusal_of (read_answer u)
unfolding read_on read_to
reading_number u b l = rw (eq-eqb (length b) size l) refl

pub size_first : (r : WasRead) → (length (before r) ≡ size → ⊥) → r.number ≡ 10
unfolding read_on
size_first r l = rw (ne_eqb (length (before r)) size l) at r.told.2

module _ (r : WasRead) (l : length (before r) ≡ size) where
  number_is : r.number ≡ refusal_of (read_answer r.told.0)
  number_is = r.told.2 ∙ reading_number r.told.0 (before r) l

  -- 11 "exactly when the bytes are no such form of a sound composition"
  pub eleven_only : r.number ≡ 11 → (c : Composition) → is_sound c ≡ true → draft_of c ≡ draft_handed r → ⊥
  eleven_only e = go r.told.0 r.told.1 (sym number_is ∙ e)
    where
      go : (u : Reading) → Means (draft_handed r) u → refusal_of (read_answer u) ≡ 11
          → (c : Composition) → is_sound c ≡ true → draft_of c ≡ draft_handed r → ⊥
      go (gives d) m h = let y : ◌≡◌ {A = ℕ} 0 11 = h in absurd (omega arith)
      go none m h = m

  pub eleven_always : ((c : Composition) → is_sound c ≡ true → draft_of c ≡ draft_handed r → ⊥) → r.number ≡ 11
  eleven_always f = number_is ∙ go r.told.0 r.told.1
    where
      go : (u : Reading) → Means (draft_handed r) u → refusal_of (read_answer u) ≡ 11
      go (gives d) m = absurd (f d m.0 m.1)
      go none m = refl

-- a composition whose draft the bytes are, and its bytes
reads : (b old new : List ℕ) (u : Reading) → Means b u → refusal_of (read_on u old) ≡ 0 → new ≡ read_bytes u old
    → (c : Composition) × (is_sound c ≡ true) × (draft_of c ≡ b) × (new ≡ bytes_of c)
unfolding read_on read_bytes read_to
reads b old new u m h e = go (eqb (length old) size) u m h e
  where
    go : (t : Bool) (v : Reading) → Means b v → refusal_of (pick t (read_answer v) (Err Unsound)) ≡ 0
        → new ≡ unless (pick t (read_answer v) (Err Unsound)) old (bytes_of (read_leaves v (composition_of old)))
        → (c : Composition) × (is_sound c ≡ true) × (draft_of c ≡ b) × (new ≡ bytes_of c)
    go true (gives c) n k f = (c, n.0, n.1, f)
    go true none n k f = let y : ◌≡◌ {A = ℕ} 11 0 = k in absurd (omega arith)
    go false v n k f = let y : ◌≡◌ {A = ℕ} 10 0 = k in absurd (omega arith)

writes_all : (c : Composition) → is_sound c ≡ true → (b o out : List ℕ) (z n old : ℕ) → b ≡ bytes_of c → length (draft_of c) ≤ length o
    → z ≡ refusal_of (answer (bytes_outcome b) (length o)) → out ≡ output (bytes_outcome b) o
    → n ≡ count_out (answer (bytes_outcome b) (length o)) old
    → (z ≡ 0) × (take n out ≡ draft_of c)
unfolding answer output content
writes_all c s b o out z n old p l e f g =
    let w : bytes_outcome b ≡ writes (draft_of c) =
    bytes_is b ∙ rw (p, written_sound c s) (ap (λ (d : Composition). writes (draft_of d)) (read_written c (sound_length c s))) in
    let t = le-ltb (length o) (length (draft_of c)) l in
    (rw (w, t) at e, rw (rw (w, t) at f, rw (w, t) at g) (take-append_seam (draft_of c) (drop (length (draft_of c)) o)))

-- whatever is read is written back as the same bytes, given room
pub drafts_again : (r : WasRead) → r.number ≡ 0 → (w : Written) → state_of w ≡ after r
    → length (draft_handed r) ≤ length w.handed.1.0.now → (w.number ≡ 0) × (draft_in w ≡ draft_handed r)
drafts_again r d w e l =
    let q = reads (draft_handed r) (before r) (after r) r.told.0 r.told.1 (sym r.told.2 ∙ d) r.told.3 in
    let c = q.0 in
    let a = writes_all c q.1 (state_of w) w.handed.1.0.now _ _ _ _ (e ∙ q.3) (rw q.2 l)
    w.told.0 w.told.1.0 w.told.1.1 in
    (a.0, a.1 ∙ q.2)
