-- The step of a key that does not act: it is appended, whatever the cells are.
use Rattle.std.specs.Prelude.{None}
use Prim.Native.Nat.{ℕ, zero, suc}
use Prim.Native.Char.{code}
use mathlib.Core.Path.{◌≡◌, refl, sym, ap, ◌∙◌}
use mathlib.Core.Bool.{Bool, true, false}
use mathlib.Core.List.{List, [], ◌∷◌}
use native.Mathlib.Omega.{arith}
use lib.Dec.{T, eqb}
use lib.ListN.{length}
use borrow.Author.Tests.{eqb-true}
use Rattle.p0_choice.specs.Choice.{pick, among, each}
use Rattle.p0_choice.specs.Text.{word}
use Rattle.p0_choice.proofs.Arms.{not_yes}
use Rattle.p0_choice.proofs.Tables.{pick_first, pick_second, each_among}
use Rattle.p2_input_method.specs.Rules.{tone_keys, is_tone_key, is_horn_key, mark_rule, mark_rules, mark_in, mark_for}
use Rattle.p2_input_method.specs.declared.InputMethod.{InputMethod}
use Rattle.p2_input_method.specs.declared.InputMethod.TheVariants.{Telex, Vni}
use Rattle.p2_input_method.specs.declared.MarkRule.{MarkRule}
use Rattle.p3_cells.specs.declared.Cell.{Cell}
use Rattle.p3_cells.specs.declared.Settings.{Settings}
use Rattle.p3_marks.specs.Mark.{mark_back, mark_place}
use Rattle.p3_marks.specs.Uo.{base_at}
use Rattle.p3_step.specs.Mirror.{appends_at, tone_for, uo_for, ua_for, mark_step, ua_step, uo_step, step_of}
use Rattle.p3_acts.specs.Mirror.{act_keys, acts}

-- ---- what does more than be appended acts
tone_acts : (m : InputMethod) (k : ℕ) → is_tone_key m k ≡ true → acts m k ≡ true
unfolding is_tone_key tone_keys acts act_keys word
tone_acts Telex k e = each_among (λ (x : ℕ). among x (act_keys Telex)) (tone_keys Telex) tt k e
tone_acts Vni k e = each_among (λ (x : ℕ). among x (act_keys Vni)) (tone_keys Vni) tt k e

horn_acts : (m : InputMethod) (k : ℕ) → is_horn_key m k ≡ true → acts m k ≡ true
unfolding is_horn_key acts act_keys word
horn_acts Telex k e = rw (eqb-true k (code "w") e) refl
horn_acts Vni k e = rw (eqb-true k (code "7") e) refl

-- no rule has a key that fails a test which all their keys pass
no_rule_lem : (p : ℕ → Bool) (rs : List MarkRule) (b k : ℕ) → p k ≡ false → T (each (λ (r : MarkRule). p r.key) rs) → mark_in rs b k ≡ 0
unfolding mark_in
no_rule_lem p [] b k e t = refl
no_rule_lem p (r ∷ rs) b k e t =
    go (eqb b r.first) (eqb k r.key) refl (no_rule_lem p rs b k e (pick_second (p r.key) _ t))
  where
    go : (s u : Bool) → eqb k r.key ≡ u → mark_in rs b k ≡ 0 → pick s (pick u r.result (mark_in rs b k)) (mark_in rs b k) ≡ 0
    go true true q h =
        let y : true ≡ false = sym (pick_first (p r.key) _ t) ∙ ap p (sym (eqb-true k r.key q)) ∙ e in
        let z : ◌≡◌ {A = ℕ} 0 1 = cc in absurd (omega arith)
    go true false q h = h
    go false u q h = h

no_mark : (m : InputMethod) (b k : ℕ) → acts m k ≡ false → mark_for m b k ≡ 0
unfolding mark_for mark_rules mark_rule acts act_keys word
no_mark Telex b k e = no_rule_lem (acts Telex) (mark_rules Telex) b k e tt
no_mark Vni b k e = no_rule_lem (acts Vni) (mark_rules Vni) b k e tt

module _ (m : InputMethod) (k : ℕ) (i : acts m k ≡ false) where
  no_tone : is_tone_key m k ≡ false
  no_tone = not_yes (is_tone_key m k) (acts m k) (tone_acts m k) i

  no_horn : is_horn_key m k ≡ false
  no_horn = not_yes (is_horn_key m k) (acts m k) (horn_acts m k) i

  none_back : (cs : List Cell) (n j : ℕ) → mark_back m cs k n j ≡ None
  unfolding mark_back
  none_back cs zero j = refl
  none_back cs (suc n) zero = refl
  none_back cs (suc n) (suc j) = rw (no_mark m (base_at cs j) k i) (none_back cs n j)

pub idle_step : (z : Settings) (k : ℕ) → acts z.method k ≡ false → (cs : List Cell) (n : ℕ) → length cs ≡ n → appends_at n ≡ step_of z cs k
unfolding step_of tone_for uo_step uo_for ua_step ua_for mark_step mark_place
idle_step z k i cs n l = rw (no_tone z.method k i, no_horn z.method k i, none_back z.method k i cs 5 (length cs), l) refl
