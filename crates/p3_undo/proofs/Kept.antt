-- Undo keeps a composition sound.
use Rattle.std.specs.Prelude.{None, Option, Some}
use Prim.Native.Nat.{ℕ, ◌<◌, ◌≤◌}
use mathlib.Core.Path.{◌≡◌, refl}
use mathlib.Core.Bool.{Bool, true, false}
use mathlib.Core.List.{List}
use mathlib.Core.Logic.{inl}
use native.Mathlib.Omega.{arith}
use lib.Dec.{ltb}
use lib.ListN.{length, get_or, set, length-set}
use Rattle.p0_choice.specs.Choice.{pick}
use Rattle.p0_choice.proofs.Choices.{pick_both}
use Rattle.p0_refusals.specs.Limits.{letter_limit}
use Rattle.p0_refusals.specs.declared.Refusal.TheVariants.{Foreign, Long, Unsound}
use Rattle.p1_letters.specs.Alphabet.{in_alphabet, all_letters, ascii_lower, ascii_upper}
use Rattle.p3_cells.specs.Cells.{limit, blank, is_cell, is_sound, used, holding}
use Rattle.p3_cells.specs.declared.Cell.{Cell}
use Rattle.p3_cells.specs.declared.Composition.{Composition}
use Rattle.p0_choice.proofs.Tests.{both_are, each_at, each_set}
use Rattle.p3_cells.proofs.Soundness.{cell_is, is_cell_lem}
use Rattle.p3_cells.proofs.Made.{toneless_cell}
use Rattle.p3_cells.proofs.Holding.{count_fits, used_length, used_cells, composed_sound}
use Rattle.p3_undo.specs.Raw.{raw_lowered}
use Rattle.p3_undo.specs.Undo.{to_undo, tone_lost, restored, undone}
use Rattle.p3_undo.specs.Call.{not_undone, undo_found, undo_telex}
use Rattle.p3_undo.specs.declared.Undoing.{Undoing}
use Rattle.p3_undo.specs.declared.Undoing.TheVariants.{Tone, Mark}
use Rattle.p3_undo.proofs.Found.{gives, Fine, undo_fine}

restored_cell : (a : ℕ) (x : Cell) → gives a ≡ true → is_cell x ≡ true → is_cell (restored a x) ≡ true
unfolding restored
restored_cell a x g e =
    let b = both_are (in_alphabet a) (in_alphabet (ascii_upper a)) g in
    is_cell_lem (restored a x) (record {
      base = pick_both (λ (l : ℕ). in_alphabet l ≡ true) x.upper (ascii_upper a) a (λ q. b.1) (λ q. b.0);
      mark = inl refl;
      tone = (cell_is x e).tone;
    })

module _ (c : Composition) (s : is_sound c ≡ true) where
  -- another cell in use
  set_sound : (i : ℕ) (f : Cell → Cell) → i < length (used c) → ((x : Cell) → is_cell x ≡ true → is_cell (f x) ≡ true)
      → is_sound (holding c (set (used c) i (f (get_or (used c) i blank)))) ≡ true
  set_sound i f l g =
      let u = used_length c s in
      let h = count_fits c s in
      let m : length (set (used c) i (f (get_or (used c) i blank))) ≤ limit = rw length-set (omega arith) in
      composed_sound _ (set (used c) i (f (get_or (used c) i blank))) m
      (each_set is_cell (used c) i (f (get_or (used c) i blank)) (used_cells c s)
      (g (get_or (used c) i blank) (each_at is_cell blank (used c) (used_cells c s) i l)))

  found_sound : (u : Option Undoing) → Fine (length (used c)) u → is_sound (undo_found c u).comp ≡ true
  unfolding undo_found undone tone_lost
  found_sound None f = s
  found_sound (Some (Tone i)) f = set_sound i tone_lost f (λ x e. toneless_cell x e)
  found_sound (Some (Mark i r)) f = set_sound i (restored r.first) f.0 (λ x e. restored_cell r.first x f.1 e)

  pub undo_sound : (k : ℕ) (raw : List ℕ) → is_sound (undo_telex c k raw).comp ≡ true
  unfolding undo_telex
  undo_sound k raw =
      go (is_sound c) (ltb letter_limit (length raw)) (in_alphabet k) (all_letters raw)
      (found_sound u (undo_fine (used c) (raw_lowered raw) (ascii_lower k) c.settings.method))
    where
      u : Option Undoing
      u = to_undo c.settings.method (used c) (raw_lowered raw) (ascii_lower k)

      go : (a b d e : Bool) → is_sound (undo_found c u).comp ≡ true
          → is_sound (pick a (pick b (not_undone c Long) (pick d (pick e (undo_found c u) (not_undone c Foreign)) (not_undone c Foreign)))
          (not_undone c Unsound)).comp ≡ true
      go true true d e q = s
      go true false true true q = q
      go true false true false q = s
      go true false false e q = s
      go false b d e q = s
