-- A removal takes back what was appended: after a literal it gives the composition back.
use Rattle.std.specs.Prelude.{Ok}
use Prim.Native.Nat.{ℕ, ◌-◌}
use mathlib.Core.Path.{◌≡◌, refl, sym, ap, ◌∙◌}
use mathlib.Core.Bool.{true}
use mathlib.Core.List.{List, [], ◌∷◌, ◌++◌}
use native.Mathlib.Omega.{arith}
use lib.ListN.{length, take, length-append}
use lib.Seq.{take-append_seam}
use Rattle.p0_refusals.specs.Answers.{answer}
use Rattle.p3_cells.specs.Cells.{typed, is_sound, used, composed, holding}
use Rattle.p3_cells.specs.declared.Cell.{Cell}
use Rattle.p3_cells.specs.declared.Composition.{Composition}
use Rattle.p3_cells.specs.declared.Settings.{Settings}
use Rattle.p3_cells.proofs.Holding.{settings_held, used_held, holding_used}
use Rattle.p3_cells.proofs.Leaving.{done_leaves}
use Rattle.p3_calls.specs.Literal.{literal_outcome, literal}
use Rattle.p3_calls.specs.Output.{left, removal_outcome, removed}

without_last : (xs : List Cell) (x : Cell) → take (length (xs ++ (x ∷ [])) - 1) (xs ++ (x ∷ [])) ≡ xs
without_last xs x =
    let d : length (xs ++ (x ∷ [])) - 1 ≡ length xs = rw length-append (omega arith) in rw (d, take-append_seam xs (x ∷ [])) refl

module _ (c : Composition) (s : is_sound c ≡ true) where
  -- the cells after a removal, and the composition, where x was appended
  pub left_appended : (x : Cell) → left (holding c (used c ++ (x ∷ []))) ≡ used c
  unfolding left
  left_appended x = rw (used_held c.settings (used c ++ (x ∷ []))) (without_last (used c) x)

  pub append_back : (x : Cell) → holding (holding c (used c ++ (x ∷ []))) (left (holding c (used c ++ (x ∷ [])))) ≡ c
  append_back x = rw (left_appended x) (ap (λ (z : Settings). composed z (used c)) (settings_held _ _) ∙ sym (holding_used c s))

  -- the removal, whichever call made d of it
  pub removal_back : (x : Cell) (d : Composition) → d ≡ holding c (used c ++ (x ∷ [])) → (m j : ℕ) → (removed d m).answer ≡ Ok j
      → (removed d m).comp ≡ c
  unfolding removed
  removal_back x d e m j f =
      done_leaves (answer (removal_outcome d) m) d (holding d (left d)) j f ∙ ap (λ (d : Composition). holding d (left d)) e ∙ append_back x

  pub literal_back : (ch k m j : ℕ) → (literal c ch).answer ≡ Ok k → (removed (literal c ch).comp m).answer ≡ Ok j
      → (removed (literal c ch).comp m).comp ≡ c
  unfolding literal
  literal_back ch k m j e f =
      removal_back (typed ch) (literal c ch).comp (done_leaves (answer (literal_outcome c ch) 0) c _ k e) m j f
