-- "A refused method line prints its refusal and ends the run": whatever follows it prints nothing.
use Prim.Native.Nat.{ℕ}
use mathlib.Core.Path.{◌≡◌, refl, sym, ap, ◌∙◌}
use mathlib.Core.Bool.{Bool, true, false}
use mathlib.Core.List.{List, [], ◌∷◌, ◌++◌, append-nil, append_assoc, flatten}
use lib.Dec.{eqb}
use Rattle.p7_feed.specs.Mirror.{State, state, end_phase, end_out, step_to, step_out, run_to, run_out, parts_to, parts_out, finish_of}
use Rattle.p7_feed.specs.Mirror.{finish_out}
use Rattle.p7_feed.specs.declared.Phase.TheVariants.{Start, Ended}
use Rattle.p7_feed.specs.Program.{wordline}
use Rattle.p7_feed.proofs.Bytes.{cut_to, cut_out}
use Rattle.p7_feed.proofs.Program.{run_is_wordline}
use Rattle.p7_feed.proofs.Whole.{parts_to_lem, parts_out_lem}

byte_over : (s : State) (b : ℕ) → s.phase ≡ Ended → (step_to s b).phase ≡ Ended
unfolding step_to end_phase
byte_over s b e = go (eqb b 10) refl
  where
    go : (t : Bool) → eqb b 10 ≡ t → (step_to s b).phase ≡ Ended
    go true q = rw (q, e) refl
    go false q = rw q e

byte_silent : (s : State) (b : ℕ) → s.phase ≡ Ended → step_out s b ≡ []
unfolding step_out end_out
byte_silent s b e = go (eqb b 10) refl
  where
    go : (t : Bool) → eqb b 10 ≡ t → step_out s b ≡ []
    go true q = rw (q, e) refl
    go false q = rw q refl

-- no byte that follows prints anything, nor does the end
pub over_silent : (s : State) (input : List ℕ) → s.phase ≡ Ended → run_out s input ++ finish_out (run_to s input) ≡ []
unfolding run_to run_out finish_out finish_of
over_silent s [] e = rw e refl
over_silent s (b ∷ input) e = rw (byte_silent s b e) (over_silent (step_to s b) input (byte_over s b e))

-- the headline: a run that ends there has printed what the whole input prints, whatever follows
pub over_is_wordline : (parts : List (List ℕ)) (more : List ℕ) → (parts_to (state [] Start) parts).phase ≡ Ended
    → parts_out (state [] Start) parts ≡ wordline (flatten parts ++ more)
over_is_wordline parts more e =
    let s : State = state [] Start in
    let input : List ℕ = flatten parts in
    let over : (run_to s input).phase ≡ Ended = ap (λ (t : State). t.phase) (sym (parts_to_lem s parts)) ∙ e in
    let silent = over_silent (run_to s input) more over in
    parts_out_lem s parts
    ∙ sym (append-nil (run_out s input))
    ∙ ap (λ (x : List ℕ). run_out s input ++ x) (sym silent)
    ∙ sym (append_assoc (run_out s input) (run_out (run_to s input) more) (finish_out (run_to (run_to s input) more)))
    ∙ rw (← cut_out s input more, ← cut_to s input more) (run_is_wordline (input ++ more))
