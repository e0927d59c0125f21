-- A removal takes back what a key appended: after a key that makes the cells one more it gives the composition back.
use Rattle.std.specs.Prelude.{Ok}
use Prim.Native.Nat.{ℕ, suc}
use mathlib.Core.Path.{◌≡◌, refl, ap, ◌∙◌}
use mathlib.Core.Bool.{true}
use mathlib.Core.List.{List, [], ◌∷◌, ◌++◌}
use native.Mathlib.Omega.{arith}
use lib.ListN.{length, set, length-append, length-set}
use Rattle.p0_refusals.specs.Answers.{answer}
use Rattle.p3_cells.specs.Cells.{is_sound, used, holding}
use Rattle.p3_cells.specs.declared.Cell.{Cell}
use Rattle.p3_cells.specs.declared.Composition.{Composition}
use Rattle.p3_cells.specs.declared.Mode.{Mode}
use Rattle.p3_cells.specs.declared.Mode.TheVariants.{Vietnamese, English}
use Rattle.p3_cells.proofs.Holding.{used_length, count_held}
use Rattle.p3_cells.proofs.Leaving.{done_leaves, leaving_keeps}
use Rattle.p3_step.specs.Key.{appended}
use Rattle.p3_step.proofs.Frame.{Framed, appends, changes, changes_two, key_frame}
use Rattle.p3_key.specs.Process.{in_mode, next_cells, key_outcome, key_next, keyed}
use Rattle.p3_calls.specs.Output.{removed}
use Rattle.p3_calls.proofs.Back.{removal_back}

-- cells that are one more are the cells before, and one after them
one_more : (cs : List Cell) {ds : List Cell} → Framed cs ds → length ds ≡ suc (length cs) → (x : Cell) × (ds ≡ cs ++ (x ∷ []))
one_more cs (appends x) e = (x, refl)
one_more cs (changes i x h) e = absurd (omega (arith, length-set cs i x))
one_more cs (changes_two i x y h) e = absurd (omega (arith, length-set (set cs (suc i) y) i x, length-set cs (suc i) y))

module _ (c : Composition) (s : is_sound c ≡ true) (key : ℕ) where
  appended_one : (holding c (next_cells c key)).count ≡ suc c.count → (x : Cell) × (next_cells c key ≡ used c ++ (x ∷ []))
  unfolding next_cells
  appended_one e =
      one_more (used c) (key_frame c.settings (used c) key) (omega (arith, count_held c.settings (next_cells c key), used_length c s))

  -- a key that no step fits, and that is not refused, makes the cells one more
  pub key_appends : (n k : ℕ) → c.settings.mode ≡ Vietnamese → next_cells c key ≡ appended (used c) key → (keyed c key n).answer ≡ Ok k
      → (keyed c key n).comp.count ≡ suc c.count
  unfolding keyed key_next appended
  key_appends n k m a e =
      let d : (keyed c key n).comp ≡ holding c (next_cells c key)
      = done_leaves (answer (key_outcome c key) n) c (key_next c key) k e ∙ ap (λ (o : Mode). in_mode o (holding c (next_cells c key)) c) m in
      ap (λ (x : Composition). x.count) d ∙ count_held c.settings (next_cells c key) ∙ ap length a
      ∙ rw length-append (omega (arith, used_length c s))

  abbrev Back : ℕ → ℕ → Composition → Type 0
  Back m j d = d.count ≡ suc c.count → (removed d m).answer ≡ Ok j → (removed d m).comp ≡ c

  -- no cell more: refused, or in English mode
  same : (m j : ℕ) → Back m j c
  same m j e f = absurd (omega arith)

  held : (m j : ℕ) → Back m j (holding c (next_cells c key))
  held m j e f = let a = appended_one e in removal_back c s a.0 (holding c (next_cells c key)) (ap (holding c) a.1) m j f

  pub key_back : (n m j : ℕ) → (keyed c key n).comp.count ≡ suc c.count → (removed (keyed c key n).comp m).answer ≡ Ok j
      → (removed (keyed c key n).comp m).comp ≡ c
  unfolding keyed key_next
  key_back n m j = leaving_keeps (Back m j) (answer (key_outcome c key) n) c (key_next c key) (same m j) (λ k e. go c.settings.mode)
    where
      go : (o : Mode) → Back m j (in_mode o (holding c (next_cells c key)) c)
      go English = same m j
      go Vietnamese = held m j
