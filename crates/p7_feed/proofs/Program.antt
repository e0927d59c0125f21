-- What is printed byte by byte, and at the end, is what document 01 says of the whole input, though a line is held in
-- bounded memory.
use Prim.Native.Nat.{ℕ}
use mathlib.Core.Path.{◌≡◌, refl, sym, ap, ◌∙◌}
use mathlib.Core.Bool.{Bool, true, false}
use mathlib.Core.List.{List, [], ◌∷◌, ◌++◌, append_assoc, append-nil}
use native.Mathlib.Omega.{arith}
use lib.Dec.{eqb, ltb}
use lib.ListN.{length, take, length-append}
use lib.Seq.{take_all, length-take-le, take-append-le}
use borrow.Author.Tests.{le-ltb, ltb-true, ltb-false}
use Rattle.p0_choice.specs.Choice.{pick}
use Rattle.p7_line.specs.Line.{most, refused_line}
use Rattle.p7_line.specs.Method.{begun_by}
use Rattle.std.specs.Prelude.{Result, Ok, Err}
use Rattle.p0_refusals.specs.declared.Refusal.{Refusal}
use Rattle.p2_input_method.specs.declared.InputMethod.{InputMethod}
use Rattle.p7_line.proofs.Bounded.{method_bounded, line_bounded}
use Rattle.p7_feed.specs.declared.Phase.{Phase}
use Rattle.p7_feed.specs.declared.Phase.TheVariants.{Start, Keys, Ended}
use Rattle.p7_feed.specs.Program.{lines_from, all_lines, after_method, program, wordline}
use Rattle.p7_feed.specs.Mirror.{state, hold, begun_phase, begun_out, end_phase, end_out, step_to, step_out, run_to, run_out, finish_keys}
use Rattle.p7_feed.specs.Mirror.{finish_of, finish_out}

-- ---- what the lines that are left print, by the phase
unfoldable rest : Phase → List (List ℕ) → List ℕ
rest Start lines = program lines
rest (Keys m) lines = all_lines m lines
rest Ended lines = []

after_begun : (b : Result InputMethod Refusal) (lines : List (List ℕ)) → after_method b lines ≡ begun_out b ++ rest (begun_phase b) lines
unfolding after_method begun_out begun_phase rest
after_begun (Ok m) lines = refl
after_begun (Err r) lines = sym (append-nil (refused_line r))

rest_line : (p : Phase) (l : List ℕ) (lines : List (List ℕ)) → rest p (l ∷ lines) ≡ end_out p l ++ rest (end_phase p l) lines
unfolding rest program all_lines end_out end_phase
rest_line Start l lines = after_begun (begun_by l) lines
rest_line (Keys m) l lines = refl
rest_line Ended l lines = refl

rest_begun : (b : Result InputMethod Refusal) → rest (begun_phase b) [] ≡ []
unfolding rest begun_phase all_lines
rest_begun (Ok m) = refl
rest_begun (Err r) = refl

rest_none : (p : Phase) (l : List ℕ) → rest (end_phase p l) [] ≡ []
unfolding rest end_phase all_lines
rest_none Start l = rest_begun (begun_by l)
rest_none (Keys m) l = refl
rest_none Ended l = refl

-- ---- a line in bounded memory
out_bounded : (p : Phase) (l : List ℕ) → end_out p (take most l) ≡ end_out p l
unfolding end_out
out_bounded Start l = rw (method_bounded l) refl
out_bounded (Keys m) l = line_bounded m l
out_bounded Ended l = refl

phase_bounded : (p : Phase) (l : List ℕ) → end_phase p (take most l) ≡ end_phase p l
unfolding end_phase
phase_bounded Start l = rw (method_bounded l) refl
phase_bounded (Keys m) l = refl
phase_bounded Ended l = refl

hold_bounded : (l : List ℕ) (b : ℕ) → hold (take most l) b ≡ take most (l ++ (b ∷ []))
unfolding hold
hold_bounded l b = go (ltb (length l) most) refl
  where
    go : (t : Bool) → ltb (length l) most ≡ t
        → pick (ltb (length (take most l)) most) (take most l ++ (b ∷ [])) (take most l) ≡ take most (l ++ (b ∷ []))
    go true q =
        let h = ltb-true (length l) most q in
        let e : take most l ≡ l = take_all most l (omega arith) in
        rw (e, q) (sym (take_all most (l ++ (b ∷ [])) (omega (arith, length-append l (b ∷ [])))))
    go false q =
        let h = ltb-false (length l) most q in
        let k : length (take most l) ≡ most = length-take-le most l h in
        rw (le-ltb (length (take most l)) most (omega arith)) (sym (take-append-le most l (b ∷ []) h))

-- ---- byte by byte
lines_turn : (l : List ℕ) (b : ℕ) (input : List ℕ)
    → lines_from l (b ∷ input) ≡ pick (eqb b 10) (l ∷ lines_from [] input) (lines_from (l ++ (b ∷ [])) input)
unfolding lines_from
lines_turn [] b input = refl
lines_turn (a ∷ l) b input = refl

at_end : (p : Phase) (l : List ℕ) (b : ℕ) → eqb b 10 ≡ true → step_to (state l p) b ≡ state [] (end_phase p l)
unfolding step_to
at_end p l b e = rw e refl

at_byte : (p : Phase) (l : List ℕ) (b : ℕ) → eqb b 10 ≡ false → step_to (state l p) b ≡ state (hold l b) p
unfolding step_to
at_byte p l b e = rw e refl

end_out_lem : (p : Phase) (l : List ℕ) (b : ℕ) → eqb b 10 ≡ true → step_out (state l p) b ≡ end_out p l
unfolding step_out
end_out_lem p l b e = rw e refl

no_out_lem : (p : Phase) (l : List ℕ) (b : ℕ) → eqb b 10 ≡ false → step_out (state l p) b ≡ []
unfolding step_out
no_out_lem p l b e = rw e refl

-- an unfinished line
last : (p : Phase) (l : List ℕ) → end_out p (take most l) ≡ rest p (l ∷ [])
last p l = out_bounded p l ∙ sym (rest_line p l [] ∙ rw (rest_none p l) (append-nil (end_out p l)))

finish : (p : Phase) (l : List ℕ) → finish_out (state (take most l) p) ≡ rest p (lines_from l [])
unfolding finish_out lines_from rest program all_lines finish_keys finish_of end_out
finish Start [] = sym (after_begun (begun_by []) [] ∙ rw (rest_begun (begun_by [])) (append-nil (begun_out (begun_by []))))
finish (Keys m) [] = refl
finish Ended [] = refl
finish Start (a ∷ l) = last Start (a ∷ l)
finish (Keys m) (a ∷ l) = last (Keys m) (a ∷ l)
finish Ended (a ∷ l) = refl

all : (p : Phase) (l input : List ℕ)
    → run_out (state (take most l) p) input ++ finish_out (run_to (state (take most l) p) input) ≡ rest p (lines_from l input)
unfolding run_out run_to
all p l [] = finish p l
all p l (b ∷ input) = go (eqb b 10) refl (λ (q : Phase). all q [] input) (all p (l ++ (b ∷ [])) input)
  where
    go : (t : Bool) → eqb b 10 ≡ t
        → ((q : Phase) → run_out (state [] q) input ++ finish_out (run_to (state [] q) input) ≡ rest q (lines_from [] input))
        → run_out (state (take most (l ++ (b ∷ []))) p) input
        ++ finish_out (run_to (state (take most (l ++ (b ∷ []))) p) input) ≡ rest p (lines_from (l ++ (b ∷ [])) input)
        → run_out (state (take most l) p) (b ∷ input)
        ++ finish_out (run_to (state (take most l) p) (b ∷ input)) ≡ rest p (lines_from l (b ∷ input))
    go true e ended on =
        rw (
          lines_turn l b input,
          at_end p (take most l) b e,
          end_out_lem p (take most l) b e,
          e,
          out_bounded p l,
          phase_bounded p l,
          rest_line p l (lines_from [] input),
          append_assoc,
        )
        (ap (λ (x : List ℕ). end_out p l ++ x) (ended (end_phase p l)))
    go false e ended on =
        rw (lines_turn l b input, at_byte p (take most l) b e, no_out_lem p (take most l) b e, e, hold_bounded l b) on

-- the headline: every byte's printing and the end's together are the program's
pub run_is_wordline : (input : List ℕ) → run_out (state [] Start) input ++ finish_out (run_to (state [] Start) input) ≡ wordline input
unfolding wordline rest
run_is_wordline input = all Start [] input
