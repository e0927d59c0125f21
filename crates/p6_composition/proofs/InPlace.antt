-- Each way through a call that works on the bytes where they lie.
use Rattle.std.specs.Prelude.{Err, Ok, Result}
use Prim.Native.Nat.{ℕ, ◌+◌, ◌-◌, ◌<◌, ◌≤◌}
use mathlib.Core.Path.{◌≡◌, refl, sym, ap, ◌∙◌}
use mathlib.Core.Bool.{Bool, true, false, not}
use mathlib.Core.List.{List, [], ◌++◌}
use native.Mathlib.Omega.{arith}
use lib.Dec.{eqb}
use lib.ListN.{length, drop, set, length-set}
use borrow.Author.Tests.{eq-eqb, ne_eqb, le-leb}
use mir.Syntax.{w8}
use mir.Val.{Fits}
use Rattle.p0_refusals.specs.Answers.{Outcome, output}
use Rattle.p0_refusals.specs.declared.Refusal.{Refusal}
use Rattle.p0_refusals.specs.declared.Refusal.TheVariants.{Foreign, Full, Short, Empty}
use Rattle.p1_letters.specs.Alphabet.{in_alphabet}
use Rattle.p3_cells.specs.Cells.{limit, blank, typed, is_sound, used, composed}
use Rattle.p3_cells.specs.Leaving.{refusing}
use Rattle.p3_cells.specs.Text.{shown}
use Rattle.p3_cells.specs.declared.After.{After}
use Rattle.p3_cells.specs.Mirror.{cell_of, first_text, with_cell, with_count, with_settings, places}
use Rattle.p3_cells.specs.declared.Cell.{Cell}
use Rattle.p3_cells.specs.declared.Composition.{Composition}
use Rattle.p3_cells.specs.declared.Mode.TheVariants.{Vietnamese, English}
use Rattle.p3_cells.proofs.Leaving.{leaving_refused, leaving_nothing}
use Rattle.p3_cells.proofs.Text.{written_to, written_none, written_more}
use Rattle.p3_calls.specs.Literal.{literal}
use Rattle.p3_calls.specs.Output.{text_outcome, removal_outcome}
use Rattle.p3_cells.specs.Settings.{with_method, with_mode, with_capitals}
use Rattle.p3_calls.specs.Settings.{reset_to, method_set, turned, enabled_set, capitals_set}
use Rattle.p3_calls.proofs.Literal.{literal_foreign, literal_full, literal_done, literal_appended}
use Rattle.p3_calls.proofs.Output.{text_short, text_short_out, text_done, text_done_out, removal_empty, removal_empty_out, removal_short}
use Rattle.p3_calls.proofs.Output.{removal_short_out, removal_done, removal_done_out}
use Rattle.p3_calls.proofs.Settings.{set_done, turned_off, turned_on_lem, capitals_kept}
use Rattle.p6_bytes.specs.Bytes.{bytes_of, composition_of, method_of, bytes_sound}
use Rattle.p6_zeros.specs.Zeros.{byte_at}
use Rattle.p6_bytes.specs.Mirror.{stored, cleared}
use Rattle.p6_bytes.proofs.Round.{read_written, method_forth, flag_forth}
use Rattle.p6_bytes.proofs.Sound.{sound_composition, sound_count}
use Rattle.p6_bytes.proofs.Stored.{cells_all, cell_stored, count_stored, method_stored, mode_stored, capitals_stored, cells_cleared, lent}
use Rattle.p6_composition.specs.Calls.{answer_on, bytes_on, out_on, reset_on, literal_on, removal_on, or_unsound, method_on, mode_on}
use Rattle.p6_composition.specs.Calls.{capitals_on, text_on}

-- ---- the loop of the text
pub text_start : (b o : List ℕ) → o ≡ written_to (composition_of b) 0 o
text_start b o = written_none (composition_of b) o

pub text_on_lem : (b o out : List ℕ) (k : Bool) (i n v : ℕ) → out ≡ written_to (composition_of b) i o
    → k ≡ (composition_of b).settings.capitals → v ≡ shown k (cell_of (composition_of b) i) → i < n → n ≤ limit → n ≤ length o
    → set out i v ≡ written_to (composition_of b) (i + 1) o
unfolding written_to
text_on_lem b o out k i n v e g q h l m = written_more (with_count (composition_of b) n) o out i v e (rw g at q) (cells_all b) h l m

pub text_all : (b o out : List ℕ) (i n : ℕ) → out ≡ written_to (composition_of b) i o → i ≤ n → n ≤ i
    → out ≡ first_text (composition_of b) n ++ drop n o
unfolding written_to
text_all b o out i n e l h = let z : i ≡ n = omega arith in rw z at e

-- ---- lengths and bytes
pub few : (b : List ℕ) (n : ℕ) → n ≡ (composition_of b).count → bytes_sound b ≡ true → n ≤ limit
unfolding composition_of
few b n p s = rw p (sound_count b s)

-- one less: it is a byte, and with a cell there its place is in the array
module _ (b : List ℕ) (n : ℕ) (p : n ≡ (composition_of b).count) (s : bytes_sound b ≡ true) where
  pub less_few : n - 1 ≤ limit
  less_few = omega (arith, few b n p s)

  pub less_byte : Fits w8 (n - 1)
  less_byte = omega (arith, less_few)

  pub less_below : (n ≡ 0 → ⊥) → n - 1 < limit
  less_below z = omega (arith, few b n p s)

-- ---- what is told and left, where k is what the call by value leaves
module _ (b : List ℕ) (s : bytes_sound b ≡ true) (k : After) where
  pub told : (d : Composition) (a : Result ℕ Refusal) → record { comp = d; answer = a } ≡ k → a ≡ answer_on b k
  unfolding answer_on
  told d a p = rw (s, ← p) refl

  pub stays : (r : Refusal) → refusing (composition_of b) r ≡ k → b ≡ bytes_on b k
  unfolding bytes_on answer_on
  stays r p = rw (s, ← p) refl

  pub becomes : (d : Composition) (n : ℕ) (new : List ℕ) → record { comp = d; answer = Ok n } ≡ k → new ≡ bytes_of d → new ≡ bytes_on b k
  unfolding bytes_on answer_on
  becomes d n new p h = rw (s, ← p) h

written : (b : List ℕ) → bytes_sound b ≡ true → (w : Outcome) (o new : List ℕ) → new ≡ output w o → new ≡ out_on b w o
unfolding out_on
written b s w o new h = rw s h

-- a cell, and a cell and the count
pub cell_in : (b : List ℕ) → ((k : ℕ) → Fits w8 (byte_at b k)) → bytes_sound b ≡ true → (i : ℕ) (x : Cell) → i < limit
    → stored b i x ≡ bytes_of (with_cell (composition_of b) i x)
cell_in b f s i x h =
    ap (λ (l : List ℕ). stored l i x) (sym (lent b f s)) ∙ cell_stored (composition_of b) i x (omega (arith, cells_all b))

pub both_stored : (c : Composition) (b s1 : List ℕ) (i m : ℕ) (x : Cell) → bytes_of c ≡ b → i < places c → s1 ≡ stored b i x
    → set s1 2 m ≡ bytes_of (with_count (with_cell c i x) m)
both_stored c b s1 i m x q l h =
    rw (h, ← q) (ap (λ (y : List ℕ). set y 2 m) (cell_stored c i x l) ∙ count_stored _ m)

module _ (b : List ℕ) (s : bytes_sound b ≡ true) where
  whole : true ≡ is_sound (composition_of b)
  whole = sym (sound_composition b s)

  -- ---- the reset
  reset_leaves : record { comp = composed (composition_of b).settings []; answer = Ok 0 } ≡ reset_on b
  unfolding reset_on reset_to
  reset_leaves = leaving_nothing _ (composition_of b) _ 0 _ (set_done (composition_of b) true whole refl) refl

  pub reset_told : Ok 0 ≡ answer_on b (reset_on b)
  reset_told = told b s (reset_on b) _ (Ok 0) reset_leaves

  -- no cells, where one byte of the head was stored before
  emptied : ((k : ℕ) → Fits w8 (byte_at b k)) → (i n : ℕ) (d : Composition) → set (bytes_of (composition_of b)) i n ≡ bytes_of d
      → cleared (set b i n) ≡ bytes_of (composed d.settings [])
  emptied f i n d e = ap (λ (x : List ℕ). cleared (set x i n)) (sym (lent b f s)) ∙ ap cleared e ∙ cells_cleared d

  pub reset_cleared : ((k : ℕ) → Fits w8 (byte_at b k)) → (new : List ℕ) → new ≡ cleared b → new ≡ bytes_on b (reset_on b)
  reset_cleared f new h = becomes b s (reset_on b) _ 0 new reset_leaves
      (h ∙ ap cleared (sym (lent b f s)) ∙ cells_cleared (composition_of b))

  -- ---- the method
  module _ (n : ℕ) (l : n ≤ 1) where
    method_leaves : record { comp = composed (with_method (composition_of b).settings (method_of n)) []; answer = Ok 0 } ≡ method_on b n
    unfolding method_on or_unsound method_set
    method_leaves = rw (le-leb n 1 l) (leaving_nothing _ (composition_of b) _ 0 _ (set_done (composition_of b) true whole refl) refl)

    pub method_told : Ok 0 ≡ answer_on b (method_on b n)
    method_told = told b s (method_on b n) _ (Ok 0) method_leaves

    pub method_cleared : ((k : ℕ) → Fits w8 (byte_at b k)) → (new : List ℕ) → new ≡ cleared (set b 0 n) → new ≡ bytes_on b (method_on b n)
    method_cleared f new h = becomes b s (method_on b n) _ 0 new method_leaves
        (h ∙ emptied f 0 n _ (method_stored (composition_of b) (method_of n) n (sym (method_forth n l))))

    -- ---- the mode
    mode_leaves : (d : Composition) → ((on : Bool) → eqb n 0 ≡ on → d ≡ turned (composition_of b) on)
        → record { comp = d; answer = Ok 0 } ≡ mode_on b n
    unfolding mode_on or_unsound enabled_set
    mode_leaves d f =
        rw (le-leb n 1 l) (leaving_nothing _ (composition_of b) _ 0 d (set_done (composition_of b) true whole refl) (f (eqb n 0) refl))

    module _ (z : n ≡ 0) where
      vietnamese_leaves : record {
        comp = with_settings (composition_of b) (with_mode (composition_of b).settings Vietnamese);
        answer = Ok 0;
      }
          ≡ mode_on b n
      vietnamese_leaves = mode_leaves _ (λ on q. turned_on_lem (composition_of b) true whole on refl (rw (sym q ∙ eq-eqb n 0 z) refl))

      pub mode_kept_told : Ok 0 ≡ answer_on b (mode_on b n)
      mode_kept_told = told b s (mode_on b n) _ (Ok 0) vietnamese_leaves

      pub mode_kept_bytes : ((k : ℕ) → Fits w8 (byte_at b k)) → set b 1 n ≡ bytes_on b (mode_on b n)
      mode_kept_bytes f = becomes b s (mode_on b n) _ 0 (set b 1 n) vietnamese_leaves
          (ap (λ (x : List ℕ). set x 1 n) (sym (lent b f s)) ∙ mode_stored (composition_of b) Vietnamese n z)

    module _ (z : n ≡ 0 → ⊥) where
      english_leaves : record { comp = composed (with_mode (composition_of b).settings English) []; answer = Ok 0 } ≡ mode_on b n
      english_leaves = mode_leaves _ (λ on q. turned_off (composition_of b) _ on (rw (sym q ∙ ne_eqb n 0 z) refl) refl)

      pub mode_told : Ok 0 ≡ answer_on b (mode_on b n)
      mode_told = told b s (mode_on b n) _ (Ok 0) english_leaves

      pub mode_cleared : ((k : ℕ) → Fits w8 (byte_at b k)) → (new : List ℕ) → new ≡ cleared (set b 1 n) → new ≡ bytes_on b (mode_on b n)
      mode_cleared f new h = becomes b s (mode_on b n) _ 0 new english_leaves
          (h ∙ emptied f 1 n _ (mode_stored (composition_of b) English n (omega arith)))

    -- ---- capitals
    capitals_leaves : record {
      comp = with_settings (composition_of b) (with_capitals (composition_of b).settings (eqb n 1));
      answer = Ok 0;
    }
        ≡ capitals_on b n
    unfolding capitals_on or_unsound capitals_set
    capitals_leaves =
        rw (le-leb n 1 l)
        (leaving_nothing _ (composition_of b) _ 0 _ (set_done (composition_of b) true whole refl)
        (capitals_kept (composition_of b) true whole (eqb n 1) refl))

    pub capitals_told : Ok 0 ≡ answer_on b (capitals_on b n)
    capitals_told = told b s (capitals_on b n) _ (Ok 0) capitals_leaves

    pub capitals_bytes : ((k : ℕ) → Fits w8 (byte_at b k)) → set b 3 n ≡ bytes_on b (capitals_on b n)
    capitals_bytes f = becomes b s (capitals_on b n) _ 0 (set b 3 n) capitals_leaves
        (ap (λ (x : List ℕ). set x 3 n) (sym (lent b f s)) ∙ capitals_stored (composition_of b) (eqb n 1) n (sym (flag_forth n l)))

  -- ---- the literal
  module _ (ch : ℕ) (u : Bool) (a : u ≡ in_alphabet ch) where
    module _ (w : not u ≡ true) where
      foreign_leaves : refusing (composition_of b) Foreign ≡ literal_on b ch
      unfolding literal_on literal
      foreign_leaves = leaving_refused _ (composition_of b) _ 0 Foreign _ (literal_foreign (composition_of b) ch true whole u refl a w) refl

      pub foreign_told : Err Foreign ≡ answer_on b (literal_on b ch)
      foreign_told = told b s (literal_on b ch) _ (Err Foreign) foreign_leaves

      pub foreign_stays : b ≡ bytes_on b (literal_on b ch)
      foreign_stays = stays b s (literal_on b ch) Foreign foreign_leaves

    module _ (w : not u ≡ false) (n : ℕ) (p : n ≡ (composition_of b).count) where
      module _ (l : limit ≤ n) where
        full_leaves : refusing (composition_of b) Full ≡ literal_on b ch
        unfolding literal_on literal
        full_leaves =
            leaving_refused _ (composition_of b) _ 0 Full _ (literal_full (composition_of b) ch true whole u refl a w (rw (← p) l)) refl

        pub full_told : Err Full ≡ answer_on b (literal_on b ch)
        full_told = told b s (literal_on b ch) _ (Err Full) full_leaves

        pub full_stays : b ≡ bytes_on b (literal_on b ch)
        full_stays = stays b s (literal_on b ch) Full full_leaves

      module _ (l : n < limit) (x : Cell) (q : x ≡ typed ch) where
        literal_leaves : record {
          comp = with_count (with_cell (composition_of b) n x) (n + 1);
          answer = Ok 0;
        } ≡ literal_on b ch
        unfolding literal_on literal
        literal_leaves =
            leaving_nothing _ (composition_of b) _ 0 _
            (literal_done (composition_of b) ch true whole u refl a w (rw (← p) l))
            (rw p (literal_appended (composition_of b) ch true whole u refl a w x (rw (← p) l) q))

        pub literal_told : Ok 0 ≡ answer_on b (literal_on b ch)
        literal_told = told b s (literal_on b ch) _ (Ok 0) literal_leaves

        pub literal_stored : (s1 : List ℕ) → ((k : ℕ) → Fits w8 (byte_at b k)) → s1 ≡ stored b n x
            → set s1 2 (n + 1) ≡ bytes_on b (literal_on b ch)
        literal_stored s1 f h = becomes b s (literal_on b ch) _ 0 (set s1 2 (n + 1)) literal_leaves
            (both_stored (composition_of b) b s1 n (n + 1) x (lent b f s) (omega (arith, cells_all b)) h)

  -- ---- the text
  module _ (o : List ℕ) (n : ℕ) (p : n ≡ (composition_of b).count) where
    pub text_short_told : length o < n → Err Short ≡ text_on b (length o)
    unfolding text_on
    text_short_told l = rw s (text_short (composition_of b) true whole refl (length o) (rw (← p) l))

    pub text_short_stays : length o < n → o ≡ out_on b (text_outcome (composition_of b)) o
    text_short_stays l = written b s _ o o (text_short_out (composition_of b) true whole refl o (rw (← p) l))

    pub text_told : n ≤ length o → Ok n ≡ text_on b (length o)
    unfolding text_on
    text_told l = rw s (text_done (composition_of b) true whole refl (length o) n (rw (← p) l) p)

    pub text_written : (new : List ℕ) → n ≤ length o → new ≡ first_text (composition_of b) n ++ drop n o
        → new ≡ out_on b (text_outcome (composition_of b)) o
    unfolding used
    text_written new l h = written b s _ o new (text_done_out (composition_of b) true whole refl o new (rw (← p) l) (rw (← p) h))

    -- ---- the removal
    module _ (z : n ≡ 0) where
      empty_leaves : refusing (composition_of b) Empty ≡ removal_on b o
      unfolding removal_on
      empty_leaves = removal_empty (composition_of b) true whole refl (sym p ∙ z) (length o) _ refl

      pub empty_told : Err Empty ≡ answer_on b (removal_on b o)
      empty_told = told b s (removal_on b o) _ (Err Empty) empty_leaves

      pub empty_stays : b ≡ bytes_on b (removal_on b o)
      empty_stays = stays b s (removal_on b o) Empty empty_leaves

      pub empty_out : o ≡ out_on b (removal_outcome (composition_of b)) o
      empty_out = written b s _ o o (removal_empty_out (composition_of b) true whole refl (sym p ∙ z) o)

    module _ (z : n ≡ 0 → ⊥) where
      some : (composition_of b).count ≡ 0 → ⊥
      some h = z (p ∙ h)

      module _ (l : length o < n - 1) where
        short_leaves : refusing (composition_of b) Short ≡ removal_on b o
        unfolding removal_on
        short_leaves = removal_short (composition_of b) true whole refl some (length o) _ (rw (← p) l) refl

        pub short_told : Err Short ≡ answer_on b (removal_on b o)
        short_told = told b s (removal_on b o) _ (Err Short) short_leaves

        pub short_stays : b ≡ bytes_on b (removal_on b o)
        short_stays = stays b s (removal_on b o) Short short_leaves

        pub short_out : o ≡ out_on b (removal_outcome (composition_of b)) o
        short_out = written b s _ o o (removal_short_out (composition_of b) true whole refl some o (rw (← p) l))

      module _ (l : n - 1 ≤ length o) where
        removal_leaves : (x : Cell) → x ≡ blank → record {
          comp = with_count (with_cell (composition_of b) (n - 1) x) (n - 1);
          answer = Ok (n - 1);
        } ≡ removal_on b o
        unfolding removal_on
        removal_leaves x y = rw p (removal_done (composition_of b) true whole refl some (length o) _ x y (rw (← p) l) refl)

        pub removal_told : Ok (n - 1) ≡ answer_on b (removal_on b o)
        removal_told = told b s (removal_on b o) _ (Ok (n - 1)) (removal_leaves blank refl)

        module _ (x : Cell) (y : x ≡ blank) (s1 : List ℕ) (f : (k : ℕ) → Fits w8 (byte_at b k)) (h : s1 ≡ stored b (n - 1) x) where
          removal_bytes : set s1 2 (n - 1) ≡ bytes_of (with_count (with_cell (composition_of b) (n - 1) x) (n - 1))
          removal_bytes = both_stored (composition_of b) b s1 (n - 1) (n - 1) x (lent b f s)
              (omega (arith, cells_all b, few b n p s)) h

          pub removal_stored : set s1 2 (n - 1) ≡ bytes_on b (removal_on b o)
          removal_stored = becomes b s (removal_on b o) _ (n - 1) _ (removal_leaves x y) removal_bytes

          now_is : composition_of (set s1 2 (n - 1)) ≡ with_count (with_cell (composition_of b) (n - 1) x) (n - 1)
          now_is = ap composition_of removal_bytes ∙ read_written _ (length-set (composition_of b).cells (n - 1) x ∙ cells_all b)

          pub removal_written : (new : List ℕ) → new ≡ first_text (composition_of (set s1 2 (n - 1))) (n - 1) ++ drop (n - 1) o
              → new ≡ out_on b (removal_outcome (composition_of b)) o
          unfolding used
          removal_written new q =
              written b s _ o new
              (removal_done_out (composition_of b) true whole refl some o new x y (rw (← p) l) (rw (← p) (rw now_is at q)))

pub ruleset modes = (mode_kept_told, mode_kept_bytes, mode_told, mode_cleared)

pub ruleset literals = (foreign_told, foreign_stays, full_told, full_stays, literal_told, literal_stored)

pub ruleset removals = (
  empty_told,
  empty_stays,
  empty_out,
  short_told,
  short_stays,
  short_out,
  removal_told,
  removal_stored,
  removal_written,
)
