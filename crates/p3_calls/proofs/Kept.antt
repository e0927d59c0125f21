-- Every call keeps a composition sound, and a new one is.
use Rattle.std.specs.Prelude.{Ok}
use Prim.Native.Nat.{ℕ, ◌<◌, ◌≤◌, ◌-◌}
use mathlib.Core.Path.{◌≡◌, refl}
use mathlib.Core.Bool.{Bool, true, false}
use mathlib.Core.List.{[], ◌∷◌, ◌++◌}
use native.Mathlib.Omega.{arith}
use lib.Dec.{ltb}
use lib.ListN.{length, take, length-append, length-take}
use borrow.Author.Tests.{ltb-true}
use Rattle.p0_choice.specs.Choice.{pick}
use Rattle.p0_refusals.specs.Answers.{writes, refuses, answer}
use Rattle.p0_refusals.specs.declared.Refusal.TheVariants.{Foreign, Full, Unsound}
use Rattle.p1_letters.specs.Alphabet.{in_alphabet}
use Rattle.p2_input_method.specs.declared.InputMethod.{InputMethod}
use Rattle.p3_cells.specs.Cells.{limit, typed, is_cell, is_sound, used, composed}
use Rattle.p3_cells.specs.declared.Composition.{Composition}
use Rattle.p3_cells.specs.declared.Settings.{Settings}
use Rattle.p0_choice.proofs.Tests.{each_append, each_take}
use Rattle.p3_cells.proofs.Made.{typed_cell_lem}
use Rattle.p3_cells.proofs.Leaving.{leaving_keeps}
use Rattle.p3_cells.proofs.Holding.{count_fits, used_length, used_cells, composed_sound}
use Rattle.p3_calls.specs.Settings.{created, settled, reset_to, method_set, turned, enabled_set, capitals_set}
use Rattle.p3_calls.specs.Literal.{literal_outcome, literal}
use Rattle.p3_calls.specs.Output.{left, removal_outcome, removed}

abbrev Sound : Composition → Type 0
Sound c = is_sound c ≡ true

-- ---- a new composition, the reset and the settings
empty_sound : (z : Settings) → is_sound (composed z []) ≡ true
empty_sound z = composed_sound z [] (omega arith) refl

pub new_sound : (m : InputMethod) → is_sound (created m) ≡ true
unfolding created
new_sound m = empty_sound _

module _ (c : Composition) (s : is_sound c ≡ true) where
  pub reset_sound : is_sound (reset_to c).comp ≡ true
  unfolding reset_to
  reset_sound = leaving_keeps Sound (answer (settled c) 0) c _ s (λ k e. empty_sound _)

  pub set_method_sound : (m : InputMethod) → is_sound (method_set c m).comp ≡ true
  unfolding method_set
  set_method_sound m = leaving_keeps Sound (answer (settled c) 0) c _ s (λ k e. empty_sound _)

  -- the cells in use, under other settings
  under_sound : (z : Settings) → is_sound (composed z (used c)) ≡ true
  under_sound z = composed_sound z (used c) (omega (arith, used_length c s, count_fits c s)) (used_cells c s)

  turned_sound : (on : Bool) → is_sound (turned c on) ≡ true
  unfolding turned
  turned_sound true = under_sound _
  turned_sound false = empty_sound _

  pub set_enabled_sound : (on : Bool) → is_sound (enabled_set c on).comp ≡ true
  unfolding enabled_set
  set_enabled_sound on = leaving_keeps Sound (answer (settled c) 0) c _ s (λ k e. turned_sound on)

  pub set_capitals_sound : (on : Bool) → is_sound (capitals_set c on).comp ≡ true
  unfolding capitals_set
  set_capitals_sound on = leaving_keeps Sound (answer (settled c) 0) c _ s (λ k e. under_sound _)

  -- ---- the literal
  fits : (ch k : ℕ) → answer (literal_outcome c ch) 0 ≡ Ok k → (in_alphabet ch ≡ true) × (length (used c) < limit)
  unfolding literal_outcome answer
  fits ch k e = go (is_sound c) (in_alphabet ch) (ltb (length (used c)) limit) refl refl e
    where
      go : (a b d : Bool) → in_alphabet ch ≡ b → ltb (length (used c)) limit ≡ d
          → answer (pick a (pick b (pick d (writes []) (refuses Full)) (refuses Foreign)) (refuses Unsound)) 0 ≡ Ok k
          → (in_alphabet ch ≡ true) × (length (used c) < limit)
      go true true true p q h = (p, ltb-true (length (used c)) limit q)
      go true true false p q h = let z : ◌≡◌ {A = ℕ} 0 1 = cc in absurd (omega arith)
      go true false d p q h = let z : ◌≡◌ {A = ℕ} 0 1 = cc in absurd (omega arith)
      go false b d p q h = let z : ◌≡◌ {A = ℕ} 0 1 = cc in absurd (omega arith)

  pub literal_sound : (ch : ℕ) → is_sound (literal c ch).comp ≡ true
  unfolding literal
  literal_sound ch =
      leaving_keeps Sound (answer (literal_outcome c ch) 0) c _ s
      (λ k e. let f = fits ch k e in
      composed_sound _ (used c ++ (typed ch ∷ [])) (rw length-append (omega arith))
      (each_append is_cell (used c) (typed ch) (used_cells c s) (typed_cell_lem ch f.0)))

  -- ---- the removal
  pub removal_sound : (m : ℕ) → is_sound (removed c m).comp ≡ true
  unfolding removed left
  removal_sound m =
      let l : length (take (length (used c) - 1) (used c)) ≤ limit
      = omega (arith, length-take (length (used c) - 1) (used c), used_length c s, count_fits c s) in
      leaving_keeps Sound (answer (removal_outcome c) m) c _ s
      (λ k e. composed_sound _ (left c) l (each_take is_cell (length (used c) - 1) (used c) (used_cells c s)))
