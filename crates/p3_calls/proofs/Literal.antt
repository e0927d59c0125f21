-- Each way through the literal.
use Prim.Native.Nat.{ℕ, ◌+◌, ◌<◌, ◌≤◌}
use mathlib.Core.Path.{◌≡◌, refl, sym, ◌∙◌}
use mathlib.Core.Bool.{Bool, true, false, not}
use mathlib.Core.List.{[], ◌∷◌, ◌++◌}
use borrow.Author.Tests.{lt-ltb, le-ltb, not-true, not-false}
use Rattle.p0_refusals.specs.Answers.{writes, refuses}
use Rattle.p0_refusals.specs.declared.Refusal.TheVariants.{Foreign, Full, Unsound}
use Rattle.p1_letters.specs.Alphabet.{in_alphabet}
use Rattle.p3_cells.specs.Cells.{limit, typed, is_sound, used, holding}
use Rattle.p3_cells.proofs.Leaving.{leaves}
use Rattle.p3_cells.specs.Mirror.{with_cell, with_count}
use Rattle.p3_cells.specs.declared.Cell.{Cell}
use Rattle.p3_cells.specs.declared.Composition.{Composition}
use Rattle.p3_cells.proofs.Holding.{used_length, holding_append}
use Rattle.p3_calls.specs.Literal.{literal_outcome}

module _ (c : Composition) (ch : ℕ) (s : Bool) (e : s ≡ is_sound c) where
  pub literal_unsound : not s ≡ true → literal_outcome c ch ≡ refuses Unsound
  unfolding literal_outcome
  literal_unsound h = rw (← e, not-true s h) refl

  module _ (v : Bool) (h : not s ≡ false) (f : v ≡ in_alphabet ch) where
    pub literal_foreign : not v ≡ true → literal_outcome c ch ≡ refuses Foreign
    unfolding literal_outcome
    literal_foreign k = rw (← e, not-false s h, ← f, not-true v k) refl

    module _ (k : not v ≡ false) where
      whole : is_sound c ≡ true
      whole = sym e ∙ not-false s h

      pub literal_full : limit ≤ c.count → literal_outcome c ch ≡ refuses Full
      unfolding literal_outcome
      literal_full l = rw (used_length c whole, le-ltb c.count limit l, ← e, not-false s h, ← f, not-false v k) refl

      pub literal_done : c.count < limit → literal_outcome c ch ≡ writes []
      unfolding literal_outcome
      literal_done l = rw (used_length c whole, lt-ltb c.count limit l, ← e, not-false s h, ← f, not-false v k) refl

      pub literal_appended : (x : Cell) → c.count < limit → x ≡ typed ch
          → with_count (with_cell c c.count x) (c.count + 1) ≡ holding c (used c ++ (typed ch ∷ []))
      literal_appended x l q = rw (holding_append c whole x l, q) refl

pub ruleset literals = (literal_unsound, literal_foreign, literal_full, literal_done, literal_appended)

pub ruleset appends = (leaves, literals)
