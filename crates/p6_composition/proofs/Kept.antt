-- Every call leaves sound bytes where it finds them, and a new composition's are sound.
use Rattle.std.specs.Prelude.{Err, Ok, Result}
use Rattle.p0_refusals.specs.declared.Refusal.{Refusal}
use Prim.Native.Nat.{ℕ}
use mathlib.Core.Path.{◌≡◌}
use mathlib.Core.Bool.{true}
use mathlib.Core.List.{List}
use lib.Dec.{eqb, leb}
use lib.ListN.{length}
use Rattle.p0_choice.proofs.Choices.{pick_both}
use Rattle.p2_input_method.specs.declared.InputMethod.{InputMethod}
use Rattle.p3_cells.specs.Cells.{is_sound}
use Rattle.p3_cells.specs.declared.After.{After}
use Rattle.p3_cells.specs.declared.Composition.{Composition}
use Rattle.p3_calls.proofs.Kept.{new_sound, reset_sound, set_method_sound, set_enabled_sound, set_capitals_sound}
use Rattle.p3_calls.proofs.Kept.{literal_sound, removal_sound}
use Rattle.p3_calls.specs.Settings.{created}
use Rattle.p3_key.proofs.Kept.{key_sound}
use Rattle.p3_undo.proofs.Kept.{undo_sound}
use Rattle.p6_bytes.specs.Bytes.{composition_of, method_of, bytes_of, bytes_sound}
use Rattle.p6_bytes.proofs.Round.{written_sound}
use Rattle.p6_bytes.proofs.Sound.{sound_composition}
use Rattle.p6_composition.specs.UndoAnswer.{undo_leaving}
use Rattle.p6_composition.specs.Calls.{answer_on, bytes_after, bytes_on, key_on, reset_on, literal_on, removal_on, undo_on, or_unsound}
use Rattle.p6_composition.specs.Calls.{method_on, mode_on, capitals_on, new_on, new_bytes}

after_sound : (a : Result ℕ Refusal) (b : List ℕ) (d : Composition) → bytes_sound b ≡ true → is_sound d ≡ true → bytes_sound (bytes_after a b d) ≡ true
after_sound (Ok n) b d h s = written_sound d s
after_sound (Err r) b d h s = h

module _ (b : List ℕ) (h : bytes_sound b ≡ true) where
  on_sound : (s : After) → is_sound s.comp ≡ true → bytes_sound (bytes_on b s) ≡ true
  unfolding bytes_on
  on_sound s k = after_sound (answer_on b s) b s.comp h k

  or_sound : (n : ℕ) (p : After) → is_sound p.comp ≡ true → is_sound (or_unsound b n p).comp ≡ true
  unfolding or_unsound
  or_sound n p e = pick_both (λ (q : After). is_sound q.comp ≡ true) (leb n 1) p _ (λ l. e) (λ l. sound_composition b h)

  sound : is_sound (composition_of b) ≡ true
  sound = sound_composition b h

  pub key_step : (key : ℕ) (out : List ℕ) → is_sound (key_on b key out).comp ≡ true
  unfolding key_on
  key_step key out = key_sound (composition_of b) key (length out) sound

  pub reset_step : is_sound (reset_on b).comp ≡ true
  unfolding reset_on
  reset_step = reset_sound (composition_of b) sound

  pub literal_step : (l : ℕ) → is_sound (literal_on b l).comp ≡ true
  unfolding literal_on
  literal_step l = literal_sound (composition_of b) sound l

  pub removal_step : (out : List ℕ) → is_sound (removal_on b out).comp ≡ true
  unfolding removal_on
  removal_step out = removal_sound (composition_of b) sound (length out)

  pub undo_step : (t : ℕ) (raw : List ℕ) → is_sound (undo_on b t raw).comp ≡ true
  unfolding undo_on undo_leaving
  undo_step t raw = undo_sound (composition_of b) sound t raw

  pub method_step : (m : ℕ) → is_sound (method_on b m).comp ≡ true
  unfolding method_on
  method_step m = or_sound m _ (set_method_sound (composition_of b) sound (method_of m))

  pub mode_step : (o : ℕ) → is_sound (mode_on b o).comp ≡ true
  unfolding mode_on
  mode_step o = or_sound o _ (set_enabled_sound (composition_of b) sound (eqb o 0))

  pub capitals_step : (n : ℕ) → is_sound (capitals_on b n).comp ≡ true
  unfolding capitals_on
  capitals_step n = or_sound n _ (set_capitals_sound (composition_of b) sound (eqb n 1))

  pub key_kept : (key : ℕ) (out : List ℕ) → bytes_sound (bytes_on b (key_on b key out)) ≡ true
  key_kept key out = on_sound (key_on b key out) (key_step key out)

  pub reset_kept : bytes_sound (bytes_on b (reset_on b)) ≡ true
  reset_kept = on_sound (reset_on b) reset_step

  pub literal_kept : (l : ℕ) → bytes_sound (bytes_on b (literal_on b l)) ≡ true
  literal_kept l = on_sound (literal_on b l) (literal_step l)

  pub removal_kept : (out : List ℕ) → bytes_sound (bytes_on b (removal_on b out)) ≡ true
  removal_kept out = on_sound (removal_on b out) (removal_step out)

  pub undo_kept : (t : ℕ) (raw : List ℕ) → bytes_sound (bytes_on b (undo_on b t raw)) ≡ true
  undo_kept t raw = on_sound (undo_on b t raw) (undo_step t raw)

  pub method_kept : (m : ℕ) → bytes_sound (bytes_on b (method_on b m)) ≡ true
  method_kept m = on_sound (method_on b m) (method_step m)

  pub mode_kept : (o : ℕ) → bytes_sound (bytes_on b (mode_on b o)) ≡ true
  mode_kept o = on_sound (mode_on b o) (mode_step o)

  pub capitals_kept : (n : ℕ) → bytes_sound (bytes_on b (capitals_on b n)) ≡ true
  capitals_kept n = on_sound (capitals_on b n) (capitals_step n)

pub new_made : (m : InputMethod) → bytes_sound (bytes_of (created m)) ≡ true
new_made m = written_sound (created m) (new_sound m)

-- whatever the bytes were before it
pub new_makes_sound : (b : List ℕ) (m n : ℕ) → new_on b m ≡ Ok n → bytes_sound (new_bytes b m) ≡ true
unfolding new_bytes
new_makes_sound b m n e = rw e (new_made (method_of m))

-- ---- every call on a composition, by name: what it leaves of the bytes b
pub data Leaves (b : List ℕ) : List ℕ → Type 0 where
  by_new : (m : ℕ) → Leaves b (new_bytes b m)
  by_key : (key : ℕ) (out : List ℕ) → Leaves b (bytes_on b (key_on b key out))
  by_text : Leaves b b
  by_literal : (l : ℕ) → Leaves b (bytes_on b (literal_on b l))
  by_removal : (out : List ℕ) → Leaves b (bytes_on b (removal_on b out))
  by_undo : (t : ℕ) (raw : List ℕ) → Leaves b (bytes_on b (undo_on b t raw))
  by_reset : Leaves b (bytes_on b (reset_on b))
  by_method : (m : ℕ) → Leaves b (bytes_on b (method_on b m))
  by_mode : (o : ℕ) → Leaves b (bytes_on b (mode_on b o))
  by_capitals : (n : ℕ) → Leaves b (bytes_on b (capitals_on b n))

new_kept : (b : List ℕ) → bytes_sound b ≡ true → (m : ℕ) → bytes_sound (new_bytes b m) ≡ true
unfolding new_bytes
new_kept b h m = go (new_on b m)
  where
    go : (a : Result ℕ Refusal) → bytes_sound (bytes_after a b (created (method_of m))) ≡ true
    go (Ok n) = new_made (method_of m)
    go (Err r) = h

-- every call keeps a sound composition sound
pub calls_keep_sound : (b : List ℕ) {d : List ℕ} → bytes_sound b ≡ true → Leaves b d → bytes_sound d ≡ true
calls_keep_sound b h (by_new m) = new_kept b h m
calls_keep_sound b h (by_key key out) = key_kept b h key out
calls_keep_sound b h by_text = h
calls_keep_sound b h (by_literal l) = literal_kept b h l
calls_keep_sound b h (by_removal out) = removal_kept b h out
calls_keep_sound b h (by_undo t raw) = undo_kept b h t raw
calls_keep_sound b h by_reset = reset_kept b h
calls_keep_sound b h (by_method m) = method_kept b h m
calls_keep_sound b h (by_mode o) = mode_kept b h o
calls_keep_sound b h (by_capitals n) = capitals_kept b h n
