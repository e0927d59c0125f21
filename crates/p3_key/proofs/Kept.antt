-- A key keeps a composition sound: after any keys it can be handed in again.
use Rattle.std.specs.Prelude.{Ok}
use Prim.Native.Nat.{ℕ, ◌≤◌}
use mathlib.Core.Path.{◌≡◌, refl, sym, ◌∙◌}
use mathlib.Core.Bool.{Bool, true, false}
use native.Mathlib.Omega.{arith}
use lib.Dec.{ltb}
use lib.ListN.{length}
use borrow.Author.Tests.{ltb-false}
use Rattle.p0_choice.specs.Choice.{pick, each}
use Rattle.p0_refusals.specs.Answers.{writes, refuses, answer}
use Rattle.p0_refusals.specs.declared.Refusal.TheVariants.{Foreign, Full, Unsound}
use Rattle.p1_letters.specs.Alphabet.{in_alphabet}
use Rattle.p3_cells.specs.Cells.{limit, is_cell, is_sound, used, holding}
use Rattle.p3_cells.specs.declared.Composition.{Composition}
use Rattle.p3_cells.specs.declared.Mode.{Mode}
use Rattle.p3_cells.specs.declared.Mode.TheVariants.{Vietnamese, English}
use Rattle.p3_cells.proofs.Holding.{used_cells, composed_sound}
use Rattle.p3_cells.proofs.Leaving.{leaving_keeps}
use Rattle.p3_step.proofs.Sound.{key_cells_kept}
use Rattle.p3_key.specs.Process.{in_mode, next_cells, written_for, is_full, key_outcome, key_next, keyed}

-- what an answer that is no refusal says of the key
pub record Taken (c : Composition) (key : ℕ) : Type 0 where
  pub letter : in_alphabet key ≡ true
  pub room : is_full c key ≡ false

taken : (c : Composition) (key n k : ℕ) → answer (key_outcome c key) n ≡ Ok k → Taken c key
unfolding key_outcome answer
taken c key n k e = go (is_sound c) (in_alphabet key) (is_full c key) refl refl e
  where
    go : (s a f : Bool) → in_alphabet key ≡ a → is_full c key ≡ f
        → answer (pick s (pick a (pick f (refuses Full) (writes (written_for c key))) (refuses Foreign)) (refuses Unsound)) n ≡ Ok k
        → Taken c key
    go false a f p q e = let z : ◌≡◌ {A = ℕ} 0 1 = cc in absurd (omega arith)
    go true false f p q e = let z : ◌≡◌ {A = ℕ} 0 1 = cc in absurd (omega arith)
    go true true true p q e = let z : ◌≡◌ {A = ℕ} 0 1 = cc in absurd (omega arith)
    go true true false p q e = record { letter = p; room = q }

module _ (c : Composition) (key n : ℕ) (s : is_sound c ≡ true) where
  -- in Vietnamese mode: the cells after the key are few enough, and fit
  few : c.settings.mode ≡ Vietnamese → is_full c key ≡ false → length (next_cells c key) ≤ limit
  unfolding is_full
  few m f = ltb-false limit (length (next_cells c key)) (sym (by c.settings.mode m) ∙ f)
    where
      by : (o : Mode) → o ≡ Vietnamese → in_mode o (ltb limit (length (next_cells c key))) false ≡ ltb limit (length (next_cells c key))
      by o e = rw e refl

  fit : in_alphabet key ≡ true → each is_cell (next_cells c key) ≡ true
  unfolding next_cells
  fit a = key_cells_kept c.settings (used c) (used_cells c s) key a

  pub key_sound : is_sound (keyed c key n).comp ≡ true
  unfolding keyed key_next
  key_sound =
      leaving_keeps (λ (d : Composition). is_sound d ≡ true) (answer (key_outcome c key) n) c _ s
      (λ k e. go c.settings.mode refl (taken c key n k e))
    where
      -- either the composition stays, or it holds the cells after the key
      go : (o : Mode) → c.settings.mode ≡ o → Taken c key → is_sound (in_mode o (holding c (next_cells c key)) c) ≡ true
      go English m t = s
      go Vietnamese m t = composed_sound c.settings (next_cells c key) (few m t.room) (fit t.letter)
