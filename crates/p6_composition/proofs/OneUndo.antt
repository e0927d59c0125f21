-- Each way through undo on bytes. What it leaves is what the undo by value leaves (p3_undo, proofs/Call).
use Rattle.std.specs.Prelude.{Err, Ok, Result, Option, Some, None}
use Prim.Native.Nat.{ℕ, ◌-◌, ◌<◌, ◌≤◌}
use mathlib.Core.Path.{◌≡◌, refl, sym, ap, ◌∙◌}
use mathlib.Core.Bool.{Bool, true, false, not}
use mathlib.Core.List.{List}
use lib.ListN.{length, take, drop}
use mir.Syntax.{w8}
use mir.Val.{Fits}
use Rattle.p0_refusals.specs.Limits.{letter_limit}
use Rattle.p0_refusals.specs.declared.Refusal.{Refusal}
use Rattle.p0_refusals.specs.declared.Refusal.TheVariants.{Foreign, NoUndo as NothingToUndo, Long}
use Rattle.p1_letters.specs.Alphabet.{in_alphabet, all_letters, ascii_lower}
use Rattle.p2_input_method.specs.declared.MarkRule.{MarkRule}
use Rattle.p3_cells.specs.Cells.{limit, is_sound, used}
use Rattle.p3_cells.specs.Leaving.{refusing}
use Rattle.p3_cells.specs.Mirror.{cell_of, first_cells, with_cell}
use Rattle.p3_cells.specs.declared.Cell.{Cell}
use Rattle.p3_cells.specs.declared.Settings.{Settings}
use Rattle.p3_undo.specs.Call.{behaviour, not_undone, undo_telex}
use Rattle.p3_undo.specs.Mirror.{signs, sign_cells}
use Rattle.p3_undo.specs.Raw.{raw_lowered}
use Rattle.p3_undo.specs.Undo.{to_undo, tone_lost, restored}
use Rattle.p3_undo.specs.declared.TelexUndo.{TelexUndo}
use Rattle.p3_undo.specs.declared.Undoing.{Undoing}
use Rattle.p3_undo.specs.declared.Undoing.TheVariants.{Tone, Mark}
use Rattle.p3_undo.proofs.Call.{undo_nothing, undo_toneless, undo_restored, undo_long, undo_foreign, undo_raw, undo_done}
use Rattle.p3_undo.proofs.Found.{tone_place_lem, mark_place_lem}
use Rattle.p3_undo.proofs.Signs.{row_finds}
use Rattle.p6_bytes.specs.Bytes.{bytes_of, composition_of, bytes_sound}
use Rattle.p6_zeros.specs.Zeros.{byte_at}
use Rattle.p6_bytes.specs.Mirror.{stored}
use Rattle.p6_bytes.proofs.Sound.{sound_composition}
use Rattle.p6_composition.specs.UndoAnswer.{undo_number, undo_leaving}
use Rattle.p6_composition.specs.Calls.{answer_on, bytes_on, undo_on}
use Rattle.p6_composition.specs.Mirror.{found_on}
use Rattle.p6_composition.proofs.InPlace.{told, stays, becomes, cell_in}

-- ---- the row
pub undo_on_lem : (b : List ℕ) → bytes_sound b ≡ true → (z : Settings) (n : ℕ) (row part raw : List ℕ) (t : ℕ) (u : Option Undoing)
    → z ≡ (composition_of b).settings → n ≡ (composition_of b).count → take n row ≡ signs (first_cells (composition_of b) n)
    → part ≡ take (n - 0) (drop 0 row) → u ≡ to_undo z.method (sign_cells part) raw t
    → u ≡ to_undo (composition_of b).settings.method (used (composition_of b)) raw t
undo_on_lem b s z n row part raw t u p k f g h =
    row_finds (composition_of b) (sound_composition b s) z.method row part raw t u (ap (λ (y : Settings). y.method) p) (rw k at f)
    (rw k at g) h

-- ---- what is found is stored
module _ (b : List ℕ) (s : bytes_sound b ≡ true) (raw : List ℕ) (t : ℕ) (o : Option Undoing)
    (q : o ≡ to_undo (composition_of b).settings.method (used (composition_of b)) (raw_lowered raw) t) where
  nothing : o ≡ None → refusing (composition_of b) NothingToUndo ≡ found_on b raw t
  unfolding found_on undo_leaving
  nothing z = ap undo_leaving (undo_nothing (composition_of b) (raw_lowered raw) t o (sound_composition b s) q _ z refl)

  pub nothing_told : o ≡ None → Err NothingToUndo ≡ answer_on b (found_on b raw t)
  nothing_told z = told b s (found_on b raw t) _ (Err NothingToUndo) (nothing z)

  pub nothing_left : o ≡ None → b ≡ bytes_on b (found_on b raw t)
  nothing_left z = stays b s (found_on b raw t) NothingToUndo (nothing z)

  module _ (u : Undoing) (g : o ≡ Some u) where
    pub tone_there : (i : ℕ) → u ≡ Tone i → i < limit
    tone_there i z = tone_place_lem (composition_of b) (raw_lowered raw) t o (sound_composition b s) q u g i z

    pub mark_there : (i : ℕ) (r : MarkRule) → u ≡ Mark i r → i < limit
    mark_there i r z = mark_place_lem (composition_of b) (raw_lowered raw) t o (sound_composition b s) q u g i r z

    module _ (i : ℕ) where
      changed : (y : Cell) (new : List ℕ) → ((k : ℕ) → Fits w8 (byte_at b k)) → i < limit → new ≡ stored b i y
          → new ≡ bytes_of (with_cell (composition_of b) i y)
      changed y new f h m = m ∙ cell_in b f s i y h

      module _ (c : u ≡ Tone i) where
        toned : record { comp = with_cell (composition_of b) i (tone_lost (cell_of (composition_of b) i)); answer = Ok 0 } ≡ found_on b raw t
        unfolding found_on undo_leaving
        toned = ap undo_leaving (undo_toneless (composition_of b) (raw_lowered raw) t o (sound_composition b s) q u g i _ c refl)

        pub tone_told : Ok 0 ≡ answer_on b (found_on b raw t)
        tone_told = told b s (found_on b raw t) _ (Ok 0) toned

        pub tone_left : (x y : Cell) → x ≡ cell_of (composition_of b) i → y ≡ tone_lost x → (new : List ℕ) → ((k : ℕ) → Fits w8 (byte_at b k))
            → new ≡ stored b i y → new ≡ bytes_on b (found_on b raw t)
        tone_left x y e d new f m =
            becomes b s (found_on b raw t) _ 0 new toned (changed _ new f (tone_there i c) (m ∙ ap (stored b i) (d ∙ ap tone_lost e)))

      module _ (r : MarkRule) (w : TelexUndo) (c : u ≡ Mark i r) (d : w ≡ behaviour r) where
        marked : record { comp = with_cell (composition_of b) i (restored r.first (cell_of (composition_of b) i)); answer = Ok (undo_number w) }
            ≡ found_on b raw t
        unfolding found_on undo_leaving
        marked = ap undo_leaving (undo_restored (composition_of b) (raw_lowered raw) t o (sound_composition b s) q u g i r _ w c refl d)

        pub mark_told : (n : ℕ) → n ≡ undo_number w → Ok n ≡ answer_on b (found_on b raw t)
        mark_told n m = ap Ok m ∙ told b s (found_on b raw t) _ (Ok (undo_number w)) marked

        pub mark_left : (x y : Cell) → x ≡ cell_of (composition_of b) i → y ≡ restored r.first x → (new : List ℕ)
            → ((k : ℕ) → Fits w8 (byte_at b k)) → new ≡ stored b i y → new ≡ bytes_on b (found_on b raw t)
        mark_left x y e z new f m =
            becomes b s (found_on b raw t) _ (undo_number w) new marked
            (changed _ new f (mark_there i r c) (m ∙ ap (stored b i) (z ∙ ap (restored r.first) e)))

-- ---- the refusals
module _ (b : List ℕ) (s : bytes_sound b ≡ true) (k : ℕ) (raw : List ℕ) where
  whole : true ≡ is_sound (composition_of b)
  whole = sym (sound_composition b s)

  refused : (r : Refusal) → not_undone (composition_of b) r ≡ undo_telex (composition_of b) k raw
      → refusing (composition_of b) r ≡ undo_on b k raw
  unfolding undo_on undo_leaving
  refused r q = ap undo_leaving q

  refused_told : (r : Refusal) → not_undone (composition_of b) r ≡ undo_telex (composition_of b) k raw → Err r ≡ answer_on b (undo_on b k raw)
  refused_told r q = told b s (undo_on b k raw) _ (Err r) (refused r q)

  refused_left : (r : Refusal) → not_undone (composition_of b) r ≡ undo_telex (composition_of b) k raw → b ≡ bytes_on b (undo_on b k raw)
  refused_left r q = stays b s (undo_on b k raw) r (refused r q)

  pub long_told : letter_limit < length raw → Err Long ≡ answer_on b (undo_on b k raw)
  long_told l = refused_told Long (undo_long (composition_of b) k raw _ true whole refl l refl)

  pub long_left : letter_limit < length raw → b ≡ bytes_on b (undo_on b k raw)
  long_left l = refused_left Long (undo_long (composition_of b) k raw _ true whole refl l refl)

  module _ (l : length raw ≤ letter_limit) (x : Bool) (f : x ≡ in_alphabet k) where
    pub trigger_told : not x ≡ true → Err Foreign ≡ answer_on b (undo_on b k raw)
    trigger_told h = refused_told Foreign (undo_foreign (composition_of b) k raw _ true whole refl x l f h refl)

    pub trigger_left : not x ≡ true → b ≡ bytes_on b (undo_on b k raw)
    trigger_left h = refused_left Foreign (undo_foreign (composition_of b) k raw _ true whole refl x l f h refl)

    module _ (h : not x ≡ false) (y : Bool) (g : y ≡ all_letters raw) where
      pub raw_told : not y ≡ true → Err Foreign ≡ answer_on b (undo_on b k raw)
      raw_told j = refused_told Foreign (undo_raw (composition_of b) k raw _ true whole refl x l f y h g j refl)

      pub raw_left : not y ≡ true → b ≡ bytes_on b (undo_on b k raw)
      raw_left j = refused_left Foreign (undo_raw (composition_of b) k raw _ true whole refl x l f y h g j refl)

      module _ (j : not y ≡ false) (t : ℕ) (p : t ≡ ascii_lower k) where
        found : found_on b raw t ≡ undo_on b k raw
        unfolding found_on undo_on
        found = ap undo_leaving (undo_done (composition_of b) k raw _ true whole refl x l f y h g t j p refl)

        pub found_told : (r : Result ℕ Refusal) → r ≡ answer_on b (found_on b raw t) → r ≡ answer_on b (undo_on b k raw)
        found_told r q = q ∙ ap (answer_on b) found

        pub found_left : (new : List ℕ) → new ≡ bytes_on b (found_on b raw t) → new ≡ bytes_on b (undo_on b k raw)
        found_left new q = q ∙ ap (bytes_on b) found

pub ruleset stores = (tone_there, mark_there, nothing_told, nothing_left, tone_told, tone_left, mark_told, mark_left)

pub ruleset refusals = (long_told, long_left, trigger_told, trigger_left, raw_told, raw_left, found_told, found_left)
