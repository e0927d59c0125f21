-- What every tone key and every rule's result passes.
use Prim.Native.Nat.{ℕ}
use mathlib.Core.Path.{◌≡◌}
use mathlib.Core.Bool.{Bool, true, false}
use mathlib.Core.List.{List, [], ◌∷◌}
use lib.Dec.{T, eqb}
use Rattle.p0_choice.specs.Choice.{pick, each}
use Rattle.p0_choice.proofs.Tables.{pick_first, pick_second, each_among}
use Rattle.p2_input_method.specs.Rules.{mark_rules, mark_in, mark_for, tone_keys, is_tone_key}
use Rattle.p2_input_method.specs.declared.InputMethod.{InputMethod}
use Rattle.p2_input_method.specs.declared.MarkRule.{MarkRule}
use Rattle.p2_input_method.specs.declared.InputMethod.TheVariants.{Telex, Vni}

-- ---- what every tone key passes
pub tone_key_passes : (p : ℕ → Bool) → T (each p (tone_keys Telex)) → T (each p (tone_keys Vni)) → (m : InputMethod) (k : ℕ)
    → is_tone_key m k ≡ true → p k ≡ true
unfolding is_tone_key
tone_key_passes p a b Telex k e = each_among p (tone_keys Telex) a k e
tone_key_passes p a b Vni k e = each_among p (tone_keys Vni) b k e

-- ---- what 0 and every rule's result pass, so does what any base and key make
in_passes : (p : ℕ → Bool) (rs : List MarkRule) (b k : ℕ) → p 0 ≡ true → T (each (λ (r : MarkRule). p r.result) rs)
    → p (mark_in rs b k) ≡ true
unfolding mark_in
in_passes p [] b k z t = z
in_passes p (r ∷ rs) b k z t =
    go (eqb b r.first) (eqb k r.key) (pick_first (p r.result) _ t) (in_passes p rs b k z (pick_second (p r.result) _ t))
  where
    go : (s u : Bool) → p r.result ≡ true → p (mark_in rs b k) ≡ true
        → p (pick s (pick u r.result (mark_in rs b k)) (mark_in rs b k)) ≡ true
    go true true h q = h
    go true false h q = q
    go false u h q = q

pub mark_passes : (p : ℕ → Bool) → p 0 ≡ true → T (each (λ (r : MarkRule). p r.result) (mark_rules Telex))
    → T (each (λ (r : MarkRule). p r.result) (mark_rules Vni)) → (m : InputMethod) (b k : ℕ) → p (mark_for m b k) ≡ true
unfolding mark_for
mark_passes p z t v Telex b k = in_passes p (mark_rules Telex) b k z t
mark_passes p z t v Vni b k = in_passes p (mark_rules Vni) b k z v
