-- Request 2026-04 over the four calls' own contracts: "A second form takes the line cut anywhere and answers the same as the whole line
-- does", "later calls repeat it until a new line is begun", "every state handed out meets" the soundness, and "refusal 10 leaves the
-- state too as it was".
use Rattle.std.specs.Prelude.{Err, Ok, Result}
use Prim.Native.Nat.{ℕ}
use mathlib.Core.Path.{◌≡◌, refl, sym, ap, ◌∙◌}
use mathlib.Core.Bool.{Bool, true, false}
use mathlib.Core.List.{List, [], ◌∷◌, ◌++◌, map, flatten}
use native.Mathlib.Omega.{arith}
use lib.Dec.{eqb}
use lib.ListN.{length}
use borrow.Author.Tests.{eqb-true}
use Rattle.p0_choice.specs.Choice.{pick}
use Rattle.p0_refusals.specs.Answers.{refusal_of}
use Rattle.p0_refusals.specs.Refusals.{number_of}
use Rattle.p0_refusals.specs.declared.Refusal.{Refusal}
use Rattle.p0_refusals.specs.declared.Refusal.TheVariants as Refusals
use Rattle.p4_note_line.specs.Line.{line_answer, checked_number}
use Rattle.p4_note_line.specs.declared.Report.{Report}
use Rattle.p4_note_parts.specs.Parts.{part_taken, part_after, standing_answer, state_answer}
use Rattle.p4_note_parts.specs.State.{begun, line_sound}
use Rattle.p4_note_parts.specs.declared.Line.{Line}
use Rattle.p4_note_parts.specs.State.{Standing}
use Rattle.p4_note_parts.proofs.Soundness.{begun_sound}
use Rattle.p4_note_parts.proofs.Cutting.{parts_taken, part_number, cut_anywhere, repeats}
use Rattle.p6_note_bytes.specs.Bytes.{line_size, line_bytes, line_of, line_bytes_sound}
use Rattle.p6_note_bytes.specs.Calls.{line_begin_on, line_begin_bytes, line_part_on, line_part_bytes, line_answer_on}
use Rattle.p6_note_bytes.proofs.Kept.{begin_sound, bytes_line, part_read, part_keeps}
use Rattle.p6_note_bytes.proofs.Round.{read_written}
use Rattle.p6_host.specs.LineCalls.{words_out, no_out, first_out}
use Rattle.p6_host.proofs.Made.{Made}
use Rattle.p6_host.proofs.Refused.{part_kept}
use Rattle.p6_host.proofs.lines.pasdrongel_line_check as check
use Rattle.p6_host.proofs.lines.pasdrongel_line_begin as begin
use Rattle.p6_host.proofs.lines.pasdrongel_line_part as part
use Rattle.p6_host.proofs.lines.pasdrongel_line_answer as answer

-- ---- the calls, and what each was handed and left
abbrev Whole : Type 0
Whole = Made check.Kinds.ps check.Reads.Learnt

abbrev Begun : Type 0
Begun = Made begin.Kinds.ps begin.Reads.Learnt

abbrev Part : Type 0
Part = Made part.Kinds.ps part.Reads.Learnt

abbrev Asked : Type 0
Asked = Made answer.Kinds.ps answer.Reads.Learnt

abbrev line_in : Whole → List ℕ
line_in w = w.handed.0.now

abbrev state_of : Asked → List ℕ
state_of a = a.handed.0.now

abbrev before : Part → List ℕ
before p = p.handed.0.now

abbrev letters_in : Part → List ℕ
letters_in p = p.handed.1.0.now

abbrev after : Part → List ℕ
after p = p.left.0

-- parts one after another, each over the state that the one before it has left: from the state b to the state d
abbrev Follow : List ℕ → List Part → List ℕ → Type 0
Follow b [] d = b ≡ d
Follow b (p ∷ ps) d = (before p ≡ b) × Follow (after p) ps d

-- ---- bytes that spell a state, and what the calls answer over them
Spell : List ℕ → Line → Type 0
Spell b s = (line_bytes_sound b ≡ true) × (line_of b ≡ s)

spelt_sound : (b : List ℕ) (s : Line) → Spell b s → line_sound s ≡ true
unfolding Spell
spelt_sound b s h = rw h.1 at (bytes_line b h.0)

begin_spelt : (b : Begun) → b.number ≡ 0 → Spell b.left.0 begun
unfolding Spell line_begin_on line_begin_bytes begun
begin_spelt b z =
    let l = eqb-true (length old) line_size (go (eqb (length old) line_size) (sym b.told.0 ∙ z)) in
    let e : b.left.0 ≡ line_bytes begun = rw (go (eqb (length old) line_size) (sym b.told.0 ∙ z)) at b.told.1 in
    (rw b.told.1 (begin_sound old l), rw e (read_written begun begun_sound refl))
  where
    old : List ℕ
    old = b.handed.0.now

    go : (t : Bool) → refusal_of (pick t (Ok 0) (Err Refusals.Unsound)) ≡ 0 → t ≡ true
    go true h = refl
    go false h = let y : ◌≡◌ {A = ℕ} 10 0 = h in absurd (omega arith)

module _ (p : Part) (s : Line) (h : Spell (before p) s) where
  by_value : part_after s (letters_in p)
      ≡ record { line = part_taken s (letters_in p); answer = standing_answer (part_taken s (letters_in p)).standing }
  unfolding part_after
  by_value = rw (spelt_sound (before p) s h) refl

  part_spelt : Spell (after p) (part_after s (letters_in p)).line
  unfolding Spell
  part_spelt = (
    ap line_bytes_sound p.told.1 ∙ part_keeps (before p) (letters_in p) h.0,
    ap line_of p.told.1 ∙ part_read (before p) (letters_in p) h.0 ∙ ap (λ t. part_taken t (letters_in p)) h.1
        ∙ sym (ap (λ t. t.line) by_value),
  )

  part_writes : after p ≡ line_bytes (part_after s (letters_in p)).line
  unfolding Spell line_part_bytes
  part_writes = p.told.1 ∙ rw (h.0, h.1) refl

  part_says : p.number ≡ refusal_of (part_after s (letters_in p)).answer
  unfolding Spell line_part_on
  part_says = p.told.0 ∙ rw (h.0, h.1) refl

asked_says : (a : Asked) (s : Line) → Spell (state_of a) s → line_answer_on (state_of a) ≡ state_answer s
unfolding Spell line_answer_on
asked_says a s h = rw (h.0, h.1) refl

follow_spelt : (ps : List Part) (b d : List ℕ) (s : Line) → Follow b ps d → Spell b s → Spell d (parts_taken s (map letters_in ps))
unfolding map
follow_spelt [] b d s f h = rw f at h
follow_spelt (p ∷ ps) b d s f h =
    let e : Spell (before p) s = rw f.0 h in
    follow_spelt ps (after p) d (part_after s (letters_in p)).line f.1 (part_spelt p s e)

-- ---- the laws
-- two that are told of the same line tell the same
same_told : (g : Result Report Refusal) (z u v w u' v' w' a b c a' b' c' : ℕ) → z ≡ checked_number g → z ≡ 0
    → (u ≡ words_out g a) × ((v ≡ no_out g b) × (w ≡ first_out g c)) → (u' ≡ words_out g a') × ((v' ≡ no_out g b') × (w' ≡ first_out g c'))
    → (u ≡ u') × (v ≡ v') × (w ≡ w')
same_told (Ok n) z u v w u' v' w' a b c a' b' c' e h q r =
    (q.0 ∙ sym r.0, q.1.0 ∙ sym r.1.0, q.1.1 ∙ sym r.1.1)
same_told (Err why) z u v w u' v' w' a b c a' b' c' e h q r = absurd (never why (sym e ∙ h))
  where
    never : (y : Refusal) → number_of y ≡ 0 → ⊥
    never Refusals.Foreign k = absurd (omega (arith, k))
    never Refusals.Full k = absurd (omega (arith, k))
    never Refusals.Short k = absurd (omega (arith, k))
    never Refusals.Empty k = absurd (omega (arith, k))
    never Refusals.NoUndo k = absurd (omega (arith, k))
    never Refusals.Long k = absurd (omega (arith, k))
    never Refusals.NoWord k = absurd (omega (arith, k))
    never Refusals.Malformed k = absurd (omega (arith, k))
    never Refusals.NoMethod k = absurd (omega (arith, k))
    never Refusals.Unsound k = absurd (omega (arith, k))
    never Refusals.NoDraft k = absurd (omega (arith, k))

-- a new line is begun, and parts of it are taken; w is a check of all their letters as one line
module _ (b : Begun) (z : b.number ≡ 0) (ps : List Part) (d : List ℕ) (f : Follow b.left.0 ps d) where
  -- asked after them, at any time, the state tells what the whole line does, or refuses as it does
  pub parts_as_whole : (a : Asked) → state_of a ≡ d → (w : Whole) → line_in w ≡ flatten (map letters_in ps)
      → (a.number ≡ w.number)
      × (w.number ≡ 0
      → (a.left.1.0 ≡ w.left.1.0) × (a.left.1.1.0 ≡ w.left.1.1.0) × (a.left.1.1.1.0 ≡ w.left.1.1.1.0))
  parts_as_whole a e w q =
      let s = parts_taken begun (map letters_in ps) in
      let h : Spell (state_of a) s = rw e (follow_spelt ps b.left.0 d begun f (begin_spelt b z)) in
      let same : line_answer_on (state_of a) ≡ line_answer (line_in w) =
      asked_says a s h ∙ cut_anywhere (map letters_in ps) ∙ ap line_answer (sym q) in
      let mine = rw same at a.told in (
        mine.0 ∙ sym w.told.0,
        λ n. same_told (line_answer (line_in w)) w.number _ _ _ _ _ _ _ _ _ _ _ _ w.told.0 n mine.1 w.told.1,
      )

  -- and the next part is refused as the line up to its end is, 1 or 6, or not at all
  pub part_as_whole : (p : Part) → before p ≡ d → (w : Whole) → line_in w ≡ flatten (map letters_in ps) ++ letters_in p → p.number ≡ w.number
  part_as_whole p e w q =
      let s = parts_taken begun (map letters_in ps) in
      let h : Spell (before p) s = rw e (follow_spelt ps b.left.0 d begun f (begin_spelt b z)) in
      part_says p s h ∙ part_number (map letters_in ps) (letters_in p) ∙ sym (w.told.0 ∙ ap (λ l. checked_number (line_answer l)) q)

-- ---- a part over bytes that may be any
module _ (p : Part) where
  spelt : line_bytes_sound (before p) ≡ true → Spell (before p) (line_of (before p))
  unfolding Spell
  spelt e = (e, refl)

  stands : (e : line_bytes_sound (before p) ≡ true)
      → p.number ≡ refusal_of (standing_answer (part_taken (line_of (before p)) (letters_in p)).standing)
  stands e = part_says p (line_of (before p)) (spelt e) ∙ ap (λ t. refusal_of t.answer) (by_value p (line_of (before p)) (spelt e))

  -- 10 exactly for a state that is not sound, which then stays as it was
  pub ten_only : p.number ≡ 10 → (line_bytes_sound (before p) ≡ false) × (after p ≡ before p)
  ten_only n = let h = part_kept (before p) (letters_in p) (sym p.told.0 ∙ n) in (h.0, p.told.1 ∙ h.1)

  pub ten_always : line_bytes_sound (before p) ≡ false → p.number ≡ 10
  unfolding line_part_on
  ten_always e = p.told.0 ∙ rw e refl

  -- every state handed out is sound
  pub part_hands_sound : line_bytes_sound (before p) ≡ true → line_bytes_sound (after p) ≡ true
  part_hands_sound e = ap line_bytes_sound p.told.1 ∙ part_keeps (before p) (letters_in p) e

-- "after either, later calls repeat it until a new line is begun": the part p was refused by 1 or 6, and q and a are over what it left
module _ (p : Part) (some : p.number ≡ 0 → ⊥) (known : p.number ≡ 10 → ⊥) where
  sound_before : line_bytes_sound (before p) ≡ true
  sound_before = go (line_bytes_sound (before p)) refl
    where
      go : (t : Bool) → line_bytes_sound (before p) ≡ t → t ≡ true
      go true e = refl
      go false e = absurd (known (ten_always p e))

  abbrev left : Line
  left = (part_after (line_of (before p)) (letters_in p)).line

  left_spelt : Spell (after p) left
  left_spelt = part_spelt p (line_of (before p)) (spelt p sound_before)

  left_stands : (r : Refusal) × (standing_answer left.standing ≡ Err r) × (p.number ≡ number_of r)
  left_stands = go (part_taken (line_of (before p)) (letters_in p)).standing refl (stands p sound_before)
    where
      here : left.standing ≡ (part_taken (line_of (before p)) (letters_in p)).standing
      here = ap (λ t. t.line.standing) (by_value p (line_of (before p)) (spelt p sound_before))

      go : (t : Standing) → (part_taken (line_of (before p)) (letters_in p)).standing ≡ t → p.number ≡ refusal_of (standing_answer t)
          → (r : Refusal) × (standing_answer left.standing ≡ Err r) × (p.number ≡ number_of r)
      go (Ok u) e k = absurd (some k)
      go (Err r) e k = (r, ap standing_answer (here ∙ e), k)

  pub part_repeats : (q : Part) → before q ≡ after p → (q.number ≡ p.number) × (after q ≡ before q)
  part_repeats q e =
      let h : Spell (before q) left = rw e left_spelt in
      let r = left_stands in
      let again = (repeats left r.0 (letters_in q) (spelt_sound (before q) left h) r.1).0 in (
        part_says q left h ∙ ap (λ t. refusal_of t.answer) again ∙ sym r.2,
        part_writes q left h ∙ ap (λ t. line_bytes t.line) again ∙ sym (part_writes p (line_of (before p)) (spelt p sound_before)) ∙ sym e,
      )

  pub answer_repeats : (a : Asked) → state_of a ≡ after p → a.number ≡ p.number
  answer_repeats a e =
      let h : Spell (state_of a) left = rw e left_spelt in
      let r = left_stands in
      let again = (repeats left r.0 [] (spelt_sound (state_of a) left h) r.1).1 in
      a.told.0 ∙ ap checked_number (asked_says a left h ∙ again) ∙ sym r.2
