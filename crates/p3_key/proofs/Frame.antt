-- What a key leaves alone in a composition: the settings stay, and the cells do or are framed.
use Prim.Native.Nat.{ℕ}
use mathlib.Core.Path.{◌≡◌, refl}
use mathlib.Core.List.{List}
use mathlib.Core.Logic.{◌⊎◌, inl, inr}
use Rattle.p0_refusals.specs.Answers.{answer}
use Rattle.p3_cells.specs.Cells.{used, holding}
use Rattle.p3_cells.specs.declared.Cell.{Cell}
use Rattle.p3_cells.specs.declared.Composition.{Composition}
use Rattle.p3_cells.specs.declared.Mode.{Mode}
use Rattle.p3_cells.specs.declared.Mode.TheVariants.{Vietnamese, English}
use Rattle.p3_cells.proofs.Holding.{settings_held, used_held}
use Rattle.p3_cells.proofs.Leaving.{leaving_keeps}
use Rattle.p3_step.proofs.Frame.{Framed, key_frame}
use Rattle.p3_key.specs.Process.{in_mode, next_cells, key_outcome, key_next, keyed}

-- the composition d after a key, where c stood
pub record KeyFrame (c d : Composition) : Type 0 where
  pub settings : d.settings ≡ c.settings
  pub cells : (used d ≡ used c) ⊎ Framed (used c) (used d)

same_frame : (c : Composition) → KeyFrame c c
same_frame c = record { settings = refl; cells = inl refl }

holding_frame : (c : Composition) (xs : List Cell) → Framed (used c) xs → KeyFrame c (holding c xs)
holding_frame c xs f = record { settings = settings_held c.settings xs; cells = inr (rw (used_held c.settings xs) f) }

-- "English mode: the letter passes through, nothing changes."
pub english_stays : (c : Composition) (key n : ℕ) → c.settings.mode ≡ English → (keyed c key n).comp ≡ c
unfolding keyed key_next
english_stays c key n e =
    leaving_keeps (λ (d : Composition). d ≡ c) (answer (key_outcome c key) n) c _ refl (λ k q. rw e refl)

pub keyed_frame : (c : Composition) (key n : ℕ) → KeyFrame c (keyed c key n).comp
unfolding keyed key_next next_cells
keyed_frame c key n =
    leaving_keeps (KeyFrame c) (answer (key_outcome c key) n) c _ (same_frame c) (λ k q. go c.settings.mode)
  where
    go : (o : Mode) → KeyFrame c (in_mode o (holding c (next_cells c key)) c)
    go Vietnamese = holding_frame c (next_cells c key) (key_frame c.settings (used c) key)
    go English = same_frame c
