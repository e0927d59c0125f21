-- The setting itself: off at first; its own call leaves the cells, and setting it twice is setting it once; every other call keeps
-- it. And the calls that request 2026-01 does not widen do not look at it: under the one setting they answer what they answer
-- under the other, and leave what they leave there.
use Rattle.std.specs.Prelude.{None, Option, Some, Err, Ok, Result}
use Rattle.p0_refusals.specs.declared.Refusal.{Refusal}
use Prim.Native.Nat.{ℕ}
use mathlib.Core.Path.{◌≡◌, refl, sym, ap, ◌∙◌}
use mathlib.Core.Bool.{Bool, true, false}
use mathlib.Core.List.{List}
use lib.Dec.{eqb, ltb}
use lib.ListN.{length}
use Rattle.p0_choice.specs.Choice.{pick}
use Rattle.p0_refusals.specs.Answers.{writes, refuses, answer}
use Rattle.p0_refusals.specs.Limits.{letter_limit}
use Rattle.p0_refusals.specs.declared.Refusal.TheVariants.{Foreign, Long, Empty, Unsound}
use Rattle.p1_letters.specs.Alphabet.{in_alphabet, all_letters, ascii_lower}
use Rattle.p2_input_method.specs.declared.InputMethod.{InputMethod}
use Rattle.p3_calls.specs.Literal.{literal_outcome, literal}
use Rattle.p3_calls.specs.Output.{text_outcome, left, removal_outcome, removed}
use Rattle.p3_calls.specs.Settings.{created, settled, reset_to, method_set, turned, enabled_set, capitals_set}
use Rattle.p3_cells.specs.Cells.{is_sound, used, composed}
use Rattle.p3_cells.specs.Leaving.{leaving}
use Rattle.p3_cells.specs.Settings.{with_capitals}
use Rattle.p3_cells.specs.Text.{text_of}
use Rattle.p3_cells.specs.declared.After.{After}
use Rattle.p3_cells.specs.declared.Cell.{Cell}
use Rattle.p3_cells.specs.declared.Composition.{Composition}
use Rattle.p3_cells.proofs.Holding.{used_held, holding_under}
use Rattle.p3_cells.proofs.Leaving.{leaving_keeps}
use Rattle.p3_cells.proofs.Text.{text_length}
use Rattle.p3_calls.proofs.Kept.{set_capitals_sound}
use Rattle.p3_key.specs.Process.{keyed}
use Rattle.p3_key.proofs.Frame.{keyed_frame}
use Rattle.p3_step.specs.Mirror.{tone_for, uo_for, ua_for, mark_step, ua_step, uo_step, step_of}
use Rattle.p3_undo.specs.Call.{not_undone, undo_found, undo_telex}
use Rattle.p3_undo.specs.Raw.{raw_lowered}
use Rattle.p3_undo.specs.Undo.{to_undo}
use Rattle.p3_undo.specs.declared.Undoing.{Undoing}
use Rattle.p3_undo.specs.declared.Undoing.TheVariants.{Tone, Mark}
use Rattle.p3_capitals.specs.Apart.{under, left_under, undone_under}

-- ---- "off at first"
pub first_off : (m : InputMethod) → (created m).settings.capitals ≡ false
unfolding created composed
first_off m = refl

-- ---- the calls that do not look at it
leaving_under : (on : Bool) (a : Result ℕ Refusal) (c d : Composition) → leaving a (under on c) (under on d) ≡ left_under on (leaving a c d)
unfolding leaving
leaving_under on (Ok n) c d = refl
leaving_under on (Err r) c d = refl

module _ (on : Bool) (c : Composition) where
  pub literal_blind : (ch : ℕ) → literal (under on c) ch ≡ left_under on (literal c ch)
  unfolding literal literal_outcome is_sound used composed
  literal_blind ch = leaving_under on (answer (literal_outcome c ch) 0) c _

  pub reset_blind : reset_to (under on c) ≡ left_under on (reset_to c)
  unfolding reset_to settled is_sound composed
  reset_blind = leaving_under on (answer (settled c) 0) c _

  pub method_blind : (m : InputMethod) → method_set (under on c) m ≡ left_under on (method_set c m)
  unfolding method_set settled is_sound composed
  method_blind m = leaving_under on (answer (settled c) 0) c _

  turned_blind : (v : Bool) → turned (under on c) v ≡ under on (turned c v)
  unfolding turned used composed
  turned_blind true = refl
  turned_blind false = refl

  pub mode_blind : (v : Bool) → enabled_set (under on c) v ≡ left_under on (enabled_set c v)
  unfolding enabled_set settled is_sound
  mode_blind v = rw (turned_blind v) (leaving_under on (answer (settled c) 0) c (turned c v))

  -- the text and the removal write other letters, and no other number of them
  text_told : (xs : List Cell) (n : ℕ) → answer (writes (text_of on xs)) n ≡ answer (writes (text_of c.settings.capitals xs)) n
  unfolding answer
  text_told xs n = rw (text_length on xs, text_length c.settings.capitals xs) refl

  pub text_blind : (n : ℕ) → answer (text_outcome (under on c)) n ≡ answer (text_outcome c) n
  unfolding text_outcome is_sound used
  text_blind n = go (is_sound c)
    where
      go : (s : Bool) → answer (pick s (writes (text_of on (used c))) (refuses Unsound)) n
          ≡ answer (pick s (writes (text_of c.settings.capitals (used c))) (refuses Unsound)) n
      go true = text_told (used c) n
      go false = refl

  removal_told : (n : ℕ) → answer (removal_outcome (under on c)) n ≡ answer (removal_outcome c) n
  unfolding removal_outcome is_sound used left
  removal_told n = go (is_sound c) (eqb (length (used c)) 0)
    where
      go : (s b : Bool) → answer (pick s (pick b (refuses Empty) (writes (text_of on (left c)))) (refuses Unsound)) n
          ≡ answer (pick s (pick b (refuses Empty) (writes (text_of c.settings.capitals (left c)))) (refuses Unsound)) n
      go true true = refl
      go true false = text_told (left c) n
      go false b = refl

  pub removal_blind : (n : ℕ) → removed (under on c) n ≡ left_under on (removed c n)
  unfolding removed left used composed
  removal_blind n = rw (removal_told n) (leaving_under on (answer (removal_outcome c) n) c _)

  -- so is the step that a key finds: no finder looks at the setting
  pub step_blind : (cs : List Cell) (k : ℕ) → step_of (with_capitals c.settings on) cs k ≡ step_of c.settings cs k
  unfolding step_of uo_step ua_step mark_step tone_for uo_for ua_for
  step_blind cs k = refl

  found_blind : (u : Option Undoing) → undo_found (under on c) u ≡ undone_under on (undo_found c u)
  unfolding undo_found used composed
  found_blind None = refl
  found_blind (Some (Tone i)) = refl
  found_blind (Some (Mark i r)) = refl

  -- undo, "capital if flagged" under both
  pub undo_blind : (t : ℕ) (raw : List ℕ) → undo_telex (under on c) t raw ≡ undone_under on (undo_telex c t raw)
  unfolding undo_telex is_sound used
  undo_blind t raw =
      go (is_sound c) (ltb letter_limit (length raw)) (in_alphabet t) (all_letters raw)
    where
      u : Option Undoing
      u = to_undo c.settings.method (used c) (raw_lowered raw) (ascii_lower t)

      go : (s l a b : Bool)
          → pick s (pick l (not_undone (under on c) Long)
          (pick a (pick b (undo_found (under on c) u) (not_undone (under on c) Foreign)) (not_undone (under on c) Foreign)))
          (not_undone (under on c) Unsound)
          ≡ undone_under on (pick s (pick l (not_undone c Long) (pick a (pick b (undo_found c u) (not_undone c Foreign)) (not_undone c Foreign)))
          (not_undone c Unsound))
      go false l a b = refl
      go true true a b = refl
      go true false false b = refl
      go true false true false = refl
      go true false true true = found_blind u

-- ---- its own call
module _ (c : Composition) (on : Bool) where
  -- "Changing it leaves the cells."
  pub set_leaves_cells : used (capitals_set c on).comp ≡ used c
  unfolding capitals_set
  set_leaves_cells =
      leaving_keeps (λ (d : Composition). used d ≡ used c) (answer (settled c) 0) c _ refl (λ k e. used_held _ (used c))

  -- of a sound composition it changes the setting, and nothing else
  pub set_is_under : is_sound c ≡ true → capitals_set c on ≡ record { comp = under on c; answer = Ok 0 }
  unfolding capitals_set settled answer leaving
  set_is_under s = rw (s, ← holding_under c s (with_capitals c.settings on)) refl

  -- one that is not sound stays as it was
  set_unsound : is_sound c ≡ false → (capitals_set c on).comp ≡ c
  unfolding capitals_set settled answer leaving
  set_unsound s = rw s refl

-- setting it twice is setting it once: the last one stands
pub set_twice : (c : Composition) (a b : Bool) → capitals_set (capitals_set c a).comp b ≡ capitals_set c b
set_twice c a b = go (is_sound c) refl
  where
    go : (s : Bool) → is_sound c ≡ s → capitals_set (capitals_set c a).comp b ≡ capitals_set c b
    go false s = ap (λ (d : Composition). capitals_set d b) (set_unsound c a s)
    go true s =
        let d : (capitals_set c a).comp ≡ under a c = ap (λ (k : After). k.comp) (set_is_under c a s) in
        let t : is_sound (under a c) ≡ true = rw d at (set_capitals_sound c s a) in
        ap (λ (d : Composition). capitals_set d b) d ∙ set_is_under (under a c) b t ∙ sym (set_is_under c b s)

-- ---- every other call keeps it
abbrev Kept : Composition → Composition → Type 0
Kept c d = d.settings.capitals ≡ c.settings.capitals

module _ (c : Composition) where
  pub key_keeps : (key n : ℕ) → Kept c (keyed c key n).comp
  key_keeps key n = rw (keyed_frame c key n).settings refl

  pub literal_keeps : (ch : ℕ) → Kept c (literal c ch).comp
  unfolding literal composed
  literal_keeps ch = leaving_keeps (Kept c) (answer (literal_outcome c ch) 0) c _ refl (λ k e. refl)

  pub removal_keeps : (n : ℕ) → Kept c (removed c n).comp
  unfolding removed composed
  removal_keeps n = leaving_keeps (Kept c) (answer (removal_outcome c) n) c _ refl (λ k e. refl)

  pub reset_keeps : Kept c (reset_to c).comp
  unfolding reset_to composed
  reset_keeps = leaving_keeps (Kept c) (answer (settled c) 0) c _ refl (λ k e. refl)

  pub method_keeps : (m : InputMethod) → Kept c (method_set c m).comp
  unfolding method_set composed
  method_keeps m = leaving_keeps (Kept c) (answer (settled c) 0) c _ refl (λ k e. refl)

  turned_keeps : (v : Bool) → Kept c (turned c v)
  unfolding turned composed
  turned_keeps true = refl
  turned_keeps false = refl

  pub mode_keeps : (v : Bool) → Kept c (enabled_set c v).comp
  unfolding enabled_set
  mode_keeps v = leaving_keeps (Kept c) (answer (settled c) 0) c _ refl (λ k e. turned_keeps v)

  found_keeps : (u : Option Undoing) → Kept c (undo_found c u).comp
  unfolding undo_found composed
  found_keeps None = refl
  found_keeps (Some (Tone i)) = refl
  found_keeps (Some (Mark i r)) = refl

  pub undo_keeps : (t : ℕ) (raw : List ℕ) → Kept c (undo_telex c t raw).comp
  unfolding undo_telex
  undo_keeps t raw = go (is_sound c) (ltb letter_limit (length raw)) (in_alphabet t) (all_letters raw)
    where
      u : Option Undoing
      u = to_undo c.settings.method (used c) (raw_lowered raw) (ascii_lower t)

      go : (s l a b : Bool)
          → Kept c (pick s (pick l (not_undone c Long) (pick a (pick b (undo_found c u) (not_undone c Foreign)) (not_undone c Foreign)))
          (not_undone c Unsound)).comp
      go false l a b = refl
      go true true a b = refl
      go true false false b = refl
      go true false true false = refl
      go true false true true = found_keeps u
