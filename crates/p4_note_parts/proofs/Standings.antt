-- What a line answers, by what it stands at.
use Rattle.std.specs.Prelude.{Err, Result}
use Prim.Native.Nat.{ℕ}
use mathlib.Core.Path.{◌≡◌, sym, ap, ◌∙◌}
use mathlib.Core.Bool.{true}
use mathlib.Core.List.{List}
use borrow.Author.Tests.{ne_eqb}
use Rattle.p0_refusals.specs.declared.Refusal.{Refusal}
use Rattle.p4_note_line.specs.declared.Report.{Report}
use Rattle.p4_note_parts.specs.declared.Line.{Line}
use Rattle.p4_note_parts.specs.State.{Standing, line_sound}
use Rattle.p4_note_parts.specs.Parts.{counted_all, part_taken, standing_answer, part_after, told, standing_checked, state_answer}
use Rattle.p4_note_parts.proofs.Taking.{ended_stays}

module _ (s : Line) where
  -- ---- a part of it is taken; after a refusal it changes nothing, and the refusal is repeated
  module _ (xs : List ℕ) (h : line_sound s ≡ true) where
    pub part_taken_lem : (t : Line) (a : Result ℕ Refusal) → t ≡ part_taken s xs → a ≡ standing_answer t.standing
        → record { line = t; answer = a } ≡ part_after s xs
    unfolding part_after
    part_taken_lem t a e f = rw (h, f, e)

    pub part_refused : (r : Refusal) → s.standing ≡ Err r → record { line = s; answer = Err r } ≡ part_after s xs
    part_refused r e =
        let a : standing_answer s.standing ≡ Err r = rw e in
        part_taken_lem s (Err r) (sym (ended_stays s r xs a)) (sym a)

  -- ---- what is told of it, by the counts n
  module _ (n : Report) (e : n ≡ counted_all s) where
    pub told_none : n.noes ≡ 0 → record { words = n.words; noes = 0; first = s.length } ≡ told s
    unfolding told
    told_none z = rw (← e, z)

    pub told_some : (n.noes ≡ 0 → ⊥) → n ≡ told s
    unfolding told
    told_some d = rw (← e, ne_eqb n.noes 0 d)

  -- a sound state answers as it stands
  pub answer_stands : (r : Result Report Refusal) (w : Standing) → line_sound s ≡ true → s.standing ≡ w → r ≡ standing_checked w (told s)
      → r ≡ state_answer s
  unfolding state_answer
  answer_stands r w h e q = rw h (q ∙ ap (λ (v : Standing). standing_checked v (told s)) (sym e))
