-- With room for the letters of all cells the key never refuses by 3.
use Rattle.std.specs.Prelude.{Err}
use Prim.Native.Nat.{ℕ, ◌≤◌}
use mathlib.Core.Path.{◌≡◌, refl}
use mathlib.Core.Bool.{Bool, true, false}
use mathlib.Core.List.{[], ◌∷◌}
use native.Mathlib.Omega.{arith}
use lib.Dec.{ltb}
use lib.ListN.{length}
use borrow.Author.Tests.{ltb-false}
use Rattle.p0_choice.specs.Choice.{pick}
use Rattle.p0_refusals.specs.Answers.{writes, refuses, answer}
use Rattle.p0_refusals.specs.declared.Refusal.TheVariants.{Foreign, Full, Short, Unsound}
use Rattle.p0_refusals.proofs.Room.{Fits, enough}
use Rattle.p1_letters.specs.Alphabet.{in_alphabet}
use Rattle.p3_cells.specs.Cells.{limit, is_sound}
use Rattle.p3_cells.specs.Text.{text_of}
use Rattle.p3_cells.specs.declared.Composition.{Composition}
use Rattle.p3_cells.specs.declared.Mode.{Mode}
use Rattle.p3_cells.specs.declared.Mode.TheVariants.{Vietnamese, English}
use Rattle.p3_cells.proofs.Text.{text_length}
use Rattle.p3_key.specs.Process.{in_mode, next_cells, written_for, is_full, key_outcome}

module _ (c : Composition) (key : ℕ) where
  -- where all cells are used, what would not fit is refused by 2
  written_short : is_full c key ≡ false → length (written_for c key) ≤ limit
  unfolding written_for is_full
  written_short = go c.settings.mode
    where
      go : (m : Mode) → in_mode m (ltb limit (length (next_cells c key))) false ≡ false
          → length (in_mode m (text_of c.settings.capitals (next_cells c key)) (key ∷ [])) ≤ limit
      go Vietnamese e = omega (arith, text_length c.settings.capitals (next_cells c key), ltb-false limit (length (next_cells c key)) e)
      go English e = omega arith

  key_fits : Fits limit (key_outcome c key)
  unfolding key_outcome
  key_fits = go (is_sound c) (in_alphabet key) (is_full c key) refl
    where
      go : (s a f : Bool) → is_full c key ≡ f
          → Fits limit (pick s (pick a (pick f (refuses Full) (writes (written_for c key))) (refuses Foreign)) (refuses Unsound))
      go true true true e = λ q. let z : ◌≡◌ {A = ℕ} 0 1 = cc in omega arith
      go true true false e = written_short e
      go true false f e = λ q. let z : ◌≡◌ {A = ℕ} 0 1 = cc in omega arith
      go false a f e = λ q. let z : ◌≡◌ {A = ℕ} 0 1 = cc in omega arith

  pub key_room : (n : ℕ) → limit ≤ n → answer (key_outcome c key) n ≡ Err Short → ⊥
  key_room n h = enough (key_outcome c key) limit n key_fits h
