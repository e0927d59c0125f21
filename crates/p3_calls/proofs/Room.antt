-- With room for the letters of all cells the calls that write the text never refuse by 3.
use Rattle.std.specs.Prelude.{Err}
use Prim.Native.Nat.{ℕ, ◌-◌, ◌≤◌}
use mathlib.Core.Path.{◌≡◌, refl}
use mathlib.Core.Bool.{Bool, true, false}
use mathlib.Core.List.{List}
use native.Mathlib.Omega.{arith}
use lib.Dec.{eqb}
use lib.ListN.{length, take, length-take}
use Rattle.p0_choice.specs.Choice.{pick}
use Rattle.p0_refusals.specs.Answers.{writes, refuses, answer}
use Rattle.p0_refusals.specs.declared.Refusal.TheVariants.{Short, Empty, Unsound}
use Rattle.p0_refusals.proofs.Room.{Fits, enough}
use Rattle.p3_cells.specs.Cells.{limit, is_sound, used}
use Rattle.p3_cells.specs.Text.{text_of}
use Rattle.p3_cells.specs.declared.Cell.{Cell}
use Rattle.p3_cells.specs.declared.Composition.{Composition}
use Rattle.p3_cells.proofs.Holding.{used_few, count_fits}
use Rattle.p3_cells.proofs.Text.{text_length}
use Rattle.p3_calls.specs.Output.{text_outcome, left, removal_outcome}

text_short : (b : Bool) (xs : List Cell) (k : ℕ) → length xs ≤ k → length (text_of b xs) ≤ k
text_short b xs k h = omega (arith, text_length b xs)

module _ (c : Composition) where
  used_short : is_sound c ≡ true → length (used c) ≤ limit
  used_short s = omega (arith, count_fits c s, used_few c)

  text_fits : Fits limit (text_outcome c)
  unfolding text_outcome
  text_fits = go (is_sound c) refl
    where
      go : (s : Bool) → is_sound c ≡ s → Fits limit (pick s (writes (text_of c.settings.capitals (used c))) (refuses Unsound))
      go true s = text_short _ (used c) limit (used_short s)
      go false s = λ e. let z : ◌≡◌ {A = ℕ} 0 1 = cc in omega arith

  removal_fits : Fits limit (removal_outcome c)
  unfolding removal_outcome left
  removal_fits = go (is_sound c) refl (eqb (length (used c)) 0)
    where
      go : (s : Bool) → is_sound c ≡ s → (b : Bool)
          → Fits limit
          (pick s (pick b (refuses Empty) (writes (text_of c.settings.capitals (take (length (used c) - 1) (used c)))))
          (refuses Unsound))
      go true s true = λ e. let z : ◌≡◌ {A = ℕ} 0 1 = cc in omega arith
      go true s false =
          text_short _ (take (length (used c) - 1) (used c)) limit (omega (arith, used_short s, length-take (length (used c) - 1) (used c)))
      go false s b = λ e. let z : ◌≡◌ {A = ℕ} 0 1 = cc in omega arith

  pub text_room_lem : (n : ℕ) → limit ≤ n → answer (text_outcome c) n ≡ Err Short → ⊥
  text_room_lem n h = enough (text_outcome c) limit n text_fits h

  pub removal_room : (n : ℕ) → limit ≤ n → answer (removal_outcome c) n ≡ Err Short → ⊥
  removal_room n h = enough (removal_outcome c) limit n removal_fits h
