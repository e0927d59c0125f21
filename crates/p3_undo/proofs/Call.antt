-- Each way through the call; and that it keeps a composition sound.
use Rattle.std.specs.Prelude.{None, Option, Some, Ok}
use Prim.Native.Nat.{ℕ, ◌<◌, ◌≤◌}
use mathlib.Core.Path.{◌≡◌, refl}
use mathlib.Core.Bool.{Bool, true, false, not}
use mathlib.Core.List.{List}
use lib.ListN.{length}
use borrow.Author.Tests.{lt-ltb, le-ltb, not-true, not-false}
use Rattle.p0_refusals.specs.Limits.{letter_limit}
use Rattle.p0_refusals.specs.declared.Refusal.TheVariants.{Foreign, NoUndo, Long}
use Rattle.p1_letters.specs.Alphabet.{in_alphabet, all_letters, ascii_lower}
use Rattle.p2_input_method.specs.declared.MarkRule.{MarkRule}
use Rattle.p3_cells.specs.Cells.{is_sound, used}
use Rattle.p3_cells.specs.Mirror.{cell_of, with_cell}
use Rattle.p3_cells.specs.declared.Cell.{Cell}
use Rattle.p3_cells.specs.declared.Composition.{Composition}
use Rattle.p3_cells.proofs.Holding.{used_at, holding_set}
use Rattle.p3_undo.specs.Raw.{raw_lowered}
use Rattle.p3_undo.specs.Undo.{to_undo, tone_lost, restored, undone}
use Rattle.p3_undo.specs.Call.{behaviour, not_undone, undo_found, undo_telex}
use Rattle.p3_undo.specs.declared.TelexUndo.{TelexUndo}
use Rattle.p3_undo.specs.declared.TelexUndo.TheVariants.{AppendTrigger}
use Rattle.p3_undo.specs.declared.Undoing.{Undoing}
use Rattle.p3_undo.specs.declared.Undoing.TheVariants.{Tone, Mark}
use Rattle.p3_undo.specs.declared.Undone.{Undone}
use Rattle.p3_undo.proofs.Found.{tone_in_use, mark_in_use}

-- ---- what is found is stored
module _ (c : Composition) (raw : List ℕ) (t : ℕ) (o : Option Undoing) (s : is_sound c ≡ true)
    (f : o ≡ to_undo c.settings.method (used c) raw t) where
  pub undo_nothing : (k : Undone) → o ≡ None → k ≡ not_undone c NoUndo → k ≡ undo_found c (to_undo c.settings.method (used c) raw t)
  unfolding undo_found
  undo_nothing k q e = rw (← f, q) e

  module _ (u : Undoing) (q : o ≡ Some u) where
    pub undo_toneless : (i : ℕ) (x : Cell) → u ≡ Tone i → x ≡ tone_lost (cell_of c i)
        → record { comp = with_cell c i x; answer = Ok AppendTrigger }
        ≡ undo_found c (to_undo c.settings.method (used c) raw t)
    unfolding undo_found undone
    undo_toneless i x h b =
        let m : i < c.count = tone_in_use c raw t o s f u q i h in
        rw (← f, q, h, holding_set c s i x m, b, ← used_at c i m) refl

    pub undo_restored : (i : ℕ) (r : MarkRule) (x : Cell) (w : TelexUndo)
        → u ≡ Mark i r → x ≡ restored r.first (cell_of c i) → w ≡ behaviour r
        → record { comp = with_cell c i x; answer = Ok w }
        ≡ undo_found c (to_undo c.settings.method (used c) raw t)
    unfolding undo_found undone
    undo_restored i r x w h b g =
        let m : i < c.count = mark_in_use c raw t o s f u q i r h in
        rw (← f, q, h, g, holding_set c s i x m, b, ← used_at c i m) refl

-- ---- the refusals
module _ (c : Composition) (k : ℕ) (raw : List ℕ) (r : Undone) (s : Bool) (e : s ≡ is_sound c) where
  module _ (h : not s ≡ false) where
    pub undo_long : letter_limit < length raw → r ≡ not_undone c Long → r ≡ undo_telex c k raw
    unfolding undo_telex
    undo_long l q = rw (← e, not-false s h, lt-ltb letter_limit (length raw) l) q

    module _ (v : Bool) (l : length raw ≤ letter_limit) (f : v ≡ in_alphabet k) where
      pub undo_foreign : not v ≡ true → r ≡ not_undone c Foreign → r ≡ undo_telex c k raw
      unfolding undo_telex
      undo_foreign p q = rw (← e, not-false s h, le-ltb letter_limit (length raw) l, ← f, not-true v p) q

      module _ (w : Bool) (p : not v ≡ false) (g : w ≡ all_letters raw) where
        pub undo_raw : not w ≡ true → r ≡ not_undone c Foreign → r ≡ undo_telex c k raw
        unfolding undo_telex
        undo_raw z q = rw (← e, not-false s h, le-ltb letter_limit (length raw) l, ← f, not-false v p, ← g, not-true w z) q

        pub undo_done : (t : ℕ) → not w ≡ false → t ≡ ascii_lower k
            → r ≡ undo_found c (to_undo c.settings.method (used c) (raw_lowered raw) t) → r ≡ undo_telex c k raw
        unfolding undo_telex
        undo_done t z d q = rw (← e, not-false s h, le-ltb letter_limit (length raw) l, ← f, not-false v p, ← g, not-false w z, ← d) q
