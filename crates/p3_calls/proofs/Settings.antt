-- Each way through the reset and the settings.
use mathlib.Core.Path.{◌≡◌, refl, sym, ◌∙◌}
use mathlib.Core.Bool.{Bool, true, false, not}
use mathlib.Core.List.{[]}
use borrow.Author.Tests.{not-true, not-false}
use Rattle.p0_choice.proofs.Choices.{pick_true, pick_false}
use Rattle.p0_refusals.specs.Answers.{writes, refuses, answer}
use Rattle.p0_refusals.specs.declared.Refusal.TheVariants.{Unsound}
use Rattle.p3_cells.proofs.Leaving.{leaving_refused, leaving_nothing}
use Rattle.p3_cells.specs.Leaving.{leaving, refusing}
use Rattle.p3_cells.specs.declared.After.{After}
use Rattle.p3_cells.specs.Mirror.{with_settings}
use Rattle.p3_cells.specs.Cells.{is_sound, used, composed}
use Rattle.p3_cells.specs.declared.Composition.{Composition}
use Rattle.p3_cells.specs.declared.Mode.TheVariants.{Vietnamese, English}
use Rattle.p3_cells.proofs.Holding.{holding_under}
use Rattle.p3_cells.specs.Settings.{with_mode, with_capitals}
use Rattle.p3_calls.specs.Settings.{settled, turned}

module _ (c : Composition) (s : Bool) (e : s ≡ is_sound c) where
  pub set_unsound : not s ≡ true → settled c ≡ refuses Unsound
  unfolding settled
  set_unsound h = rw (← e, not-true s h) refl

  -- refused, whatever it was to leave
  pub set_refused : (k : After) (d : Composition) → not s ≡ true → k ≡ refusing c Unsound → k ≡ leaving (answer (settled c) 0) c d
  set_refused k d h q = leaving_refused (settled c) c d 0 Unsound k (set_unsound h) q

  pub set_done : not s ≡ false → settled c ≡ writes []
  unfolding settled
  set_done h = rw (← e, not-false s h) refl

  -- "turning to Vietnamese empties nothing"
  pub turned_on_lem : (on : Bool) → not s ≡ false → not on ≡ false
      → with_settings c (with_mode c.settings Vietnamese) ≡ turned c on
  unfolding turned
  turned_on_lem on h k = pick_true on _ _ _ (not-false on k) (holding_under c (sym e ∙ not-false s h) _)

  -- "Changing it leaves the cells"
  pub capitals_kept : (on : Bool) → not s ≡ false
      → with_settings c (with_capitals c.settings on) ≡ composed (with_capitals c.settings on) (used c)
  capitals_kept on h = holding_under c (sym e ∙ not-false s h) _

pub turned_off : (c r : Composition) (on : Bool) → not on ≡ true → r ≡ composed (with_mode c.settings English) [] → r ≡ turned c on
unfolding turned
turned_off c r on h q = pick_false on r _ _ (not-true on h) q

pub ruleset settles = (set_refused, leaving_nothing, set_done, turned_on_lem, capitals_kept, turned_off)
