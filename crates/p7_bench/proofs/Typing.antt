-- The keys of a note, one after the other.
use Prim.Native.Nat.{ℕ, ◌+◌, ◌≤◌, ◌<◌}
use mathlib.Core.Path.{◌≡◌, refl, ap, ◌∙◌}
use mathlib.Core.List.{List}
use native.Mathlib.Omega.{arith}
use lib.ListN.{length, get_or}
use Rattle.p0_choice.proofs.Choices.{pick_eq, pick_ne}
use Rattle.p2_input_method.specs.declared.InputMethod.TheVariants.{Telex}
use Rattle.p0_refusals.specs.Answers.{output}
use Rattle.p3_calls.specs.Settings.{created}
use Rattle.p3_cells.specs.declared.Composition.{Composition}
use Rattle.p3_key.specs.Process.{key_outcome, keyed}
use Rattle.p3_cells.specs.declared.After.{After}
use Rattle.p0_choice.specs.Text.{line_end}
use Rattle.p7_bench.specs.Run.{after_keys}
use Rattle.p7_bench.specs.Typing.{Typed, refusals_of, type_key, fresh}
use Rattle.p7_bench.proofs.Run.{Run, run_start, run_more, run_end}

pub record Typing (keys d text : List ℕ) (comp : Composition) (refused i : ℕ) : Type 0 where
  pub few : refused ≤ i
  pub kept : length text ≡ length d
  pub run : Run type_key (fresh d) keys (record { comp = comp; text = text; refused = refused }) i

module _ (keys d : List ℕ) where
  pub type_start : (c : Composition) → c ≡ created Telex → Typing keys d d c 0 0
  unfolding fresh
  type_start c e = record { few = omega arith; kept = refl; run = rw e (run_start type_key (fresh d) keys) }

  module _ (text : List ℕ) (c : Composition) (refused i : ℕ) (h : i < length keys) (t : Typing keys d text c refused i) where
    pub type_line : (c' : Composition) → get_or keys i 0 ≡ line_end → c' ≡ created Telex → Typing keys d text c' refused (i + 1)
    unfolding type_key
    type_line c' e n = record {
      few = omega (arith, t.few);
      kept = t.kept;
      run = run_more type_key (fresh d) keys _ _ i h (pick_eq _ _ _ _ _ e (rw n refl)) t.run;
    }

    pub type_key_lem : (r : After) (more : ℕ) (text' : List ℕ) → (get_or keys i 0 ≡ line_end → ⊥) → r ≡ keyed c (get_or keys i 0) (length text)
        → more ≡ refusals_of r.answer
        → more ≤ 1 → text' ≡ output (key_outcome c (get_or keys i 0)) text → length text' ≡ length text
        → Typing keys d text' r.comp (refused + more) (i + 1)
    unfolding type_key
    type_key_lem r more text' n e f b o l = record {
      few = omega (arith, t.few);
      kept = l ∙ t.kept;
      run = run_more type_key (fresh d) keys _ _ i h (pick_ne _ _ _ _ _ n (rw (f, e, o) refl)) t.run;
    }

  module _ (text : List ℕ) (c : Composition) (refused i : ℕ) (h : length keys ≤ i) (t : Typing keys d text c refused i) where
    pub type_refused : refused ≡ (after_keys type_key (fresh d) keys).refused
    type_refused = ap (λ (p : Typed). p.refused) (run_end type_key (fresh d) keys _ i h t.run)

    pub type_text : text ≡ (after_keys type_key (fresh d) keys).text
    type_text = ap (λ (p : Typed). p.text) (run_end type_key (fresh d) keys _ i h t.run)

pub ruleset typing = (type_start, type_line, type_key_lem, type_refused, type_text)
