-- Each way through the key on bytes. What it leaves is what the stroke of a key leaves (p3_key, proofs/Right).
use Rattle.std.specs.Prelude.{Err, Ok}
use Prim.Native.Nat.{ℕ, ◌-◌, ◌<◌, ◌≤◌}
use mathlib.Core.Path.{◌≡◌, refl, sym, ap, ◌∙◌}
use mathlib.Core.Bool.{Bool, true, false, not}
use mathlib.Core.List.{List, [], ◌∷◌, ◌++◌, map}
use native.Mathlib.Omega.{arith}
use lib.ListN.{length, take, drop, set, length-set}
use lib.Dec.{eqb}
use borrow.Author.Tests.{lt-ltb, le-ltb, not-true, eqb-true, eqb-false}
use mir.Syntax.{w8}
use mir.Val.{Fits}
use Rattle.p0_refusals.specs.declared.Refusal.{Refusal}
use Rattle.p0_refusals.specs.declared.Refusal.TheVariants.{Foreign, Full, Short}
use Rattle.p1_letters.specs.Alphabet.{in_alphabet, ascii_lower}
use Rattle.p3_acts.specs.Mirror.{acts}
use Rattle.p3_acts.proofs.Idle.{idle_step}
use Rattle.p3_cells.specs.Cells.{limit, used}
use Rattle.p3_cells.specs.Leaving.{leaving}
use Rattle.p3_cells.specs.Mirror.{cell_of, first_cells, first_text, with_cell, row_cells}
use Rattle.p3_cells.specs.Row.{bases}
use Rattle.p3_cells.specs.declared.Cell.{Cell}
use Rattle.p3_cells.specs.declared.Composition.{Composition}
use Rattle.p3_cells.specs.declared.Mode.{Mode}
use Rattle.p3_cells.specs.declared.Mode.TheVariants.{Vietnamese, English}
use Rattle.p3_cells.specs.declared.Settings.{Settings}
use Rattle.p3_cells.proofs.Holding.{used_length, used_cells}
use Rattle.p3_cells.proofs.Row.{row_length, bases_length}
use Rattle.p3_key.specs.Process.{key_outcome, keyed}
use Rattle.p3_key.specs.Mirror.{letter_for, no_stroke, wrote, wrote_key, pass_stroke, step_stroke, stroke_of}
use Rattle.p3_key.specs.declared.Stroke.{Stroke}
use Rattle.p3_key.proofs.Frame.{english_stays}
use Rattle.p3_key.proofs.Letters.{letter_key, letters_to}
use Rattle.p3_key.proofs.Right.{stroked, Right, stroke_right, letters_vietnamese}
use Rattle.p3_key.proofs.Strokes.{step_full, step_short, step_done, stroke_foreign, stroke_step, stroke_pass}
use Rattle.p3_step.specs.Key.{key_cells}
use Rattle.p3_step.specs.Mirror.{appends_at, step_of, put_cell, also_cell, also_put}
use Rattle.p3_step.specs.declared.Step.{Step}
use Rattle.p3_step.proofs.Makes.{stepped, still_same, Makes, step_makes}
use Rattle.p3_step.proofs.Same.{step_same}
use Rattle.p6_bytes.specs.Bytes.{bytes_of, composition_of, bytes_sound}
use Rattle.p6_zeros.specs.Zeros.{byte_at}
use Rattle.p6_bytes.specs.Mirror.{stored}
use Rattle.p6_bytes.proofs.Round.{read_written}
use Rattle.p6_bytes.proofs.Sound.{sound_composition}
use Rattle.p6_bytes.proofs.Stored.{cells_all, lent}
use Rattle.p6_composition.specs.Calls.{answer_on, bytes_on, out_on, key_on}
use Rattle.p6_composition.specs.Mirror.{applied}
use Rattle.p6_composition.proofs.InPlace.{cell_in, both_stored}

-- ---- the loop of the row
-- ---- the step
module _ (b : List ℕ) (s : bytes_sound b ≡ true) (z : Settings) (k n : ℕ) (p : n ≡ (composition_of b).count) where
  row_long : length (row_cells (bases (used (composition_of b)))) ≡ n
  row_long = row_length (bases (used (composition_of b))) ∙ bases_length (used (composition_of b))
      ∙ used_length (composition_of b) (sound_composition b s) ∙ sym p

  pub idle_on : (v : Bool) → v ≡ acts z.method k → not v ≡ true
      → appends_at n ≡ step_of z (row_cells (bases (used (composition_of b)))) k
  idle_on v e t = idle_step z k (sym e ∙ not-true v t) (row_cells (bases (used (composition_of b)))) n row_long

  pub row_on : (row part : List ℕ) (r : Step) → take n row ≡ bases (first_cells (composition_of b) n) → part ≡ take (n - 0) (drop 0 row)
      → r ≡ step_of z (row_cells part) k → r ≡ step_of z (row_cells (bases (used (composition_of b)))) k
  unfolding used
  row_on row part r f g h =
      let d : n - 0 ≡ n = omega arith in
      h ∙ ap (λ (x : List ℕ). step_of z (row_cells x) k) (g ∙ rw d (f ∙ rw p refl))

-- ---- the mode
vietnamese : (m : Mode) → (m ≡ English → ⊥) → m ≡ Vietnamese
vietnamese Vietnamese e = refl
vietnamese English e = absurd (e refl)

-- ---- the room of a letter
pub no_room_in : (o : List ℕ) (v : Bool) → v ≡ eqb (length o) 0 → v ≡ true → length o < 1
no_room_in o v e t = let z : length o ≡ 0 = eqb-true (length o) 0 (sym e ∙ t) in omega (arith, z)

pub room_in : (o : List ℕ) (v : Bool) → v ≡ eqb (length o) 0 → v ≡ false → 1 ≤ length o
room_in o v e t = let z : length o ≡ 0 → ⊥ = eqb-false (length o) 0 (sym e ∙ t) in omega (arith, z)

-- ---- the letters
one_letter : (z : Settings) (key : ℕ) (cells : List Cell) (o : List ℕ) → z.mode ≡ English → 0 < length cells → 1 ≤ length o
    → set o 0 key ≡ map (letter_for z key) (take 1 cells) ++ drop 1 o
one_letter z key [] o m h l = absurd (omega arith)
one_letter z key (x ∷ xs) [] m h l = absurd (omega arith)
one_letter z key (x ∷ xs) (y ∷ o) m h l = ap (λ (k : ℕ). k ∷ o) (letter_key z key x m)

all_letters_lem : (key : ℕ) (c : Composition) (n : ℕ) (o : List ℕ) → c.settings.mode ≡ Vietnamese
    → first_text c n ++ drop n o ≡ letters_to c.settings key c n o
unfolding letters_to
all_letters_lem key c n o e = ap (λ (l : List ℕ). l ++ drop n o) (sym (letters_vietnamese c.settings key (first_cells c n) e))

no_letters_yet : (z : Settings) (key : ℕ) (c : Composition) (o : List ℕ) → o ≡ letters_to z key c 0 o
unfolding letters_to
no_letters_yet z key c o = refl

-- ---- what is told and left, where the key's stroke is e
module _ (b : List ℕ) (s : bytes_sound b ≡ true) (key : ℕ) (o : List ℕ) where
  abbrev IsStroke : Stroke → Type 0
  IsStroke d = d ≡ stroke_of true (composition_of b).settings (row_cells (bases (used (composition_of b)))) key
      (composition_of b).count (length o)

  right : (d : Stroke) → IsStroke d → Right (composition_of b) key o d
  right d q = rw q (rw (sound_composition b s) at (stroke_right (composition_of b) key o))

  told : (d : Stroke) → IsStroke d → d.answer ≡ answer_on b (key_on b key o)
  unfolding answer_on key_on keyed leaving
  told d q = rw s (right d q).told

  refused_told : (r : Refusal) → IsStroke (no_stroke r (composition_of b).count) → Err r ≡ answer_on b (key_on b key o)
  refused_told r q = told (no_stroke r (composition_of b).count) q

  refused_stays : (r : Refusal) → IsStroke (no_stroke r (composition_of b).count) → b ≡ bytes_on b (key_on b key o)
  unfolding bytes_on
  refused_stays r q = rw (← refused_told r q) refl

  letters_out : (d : Stroke) (new : List ℕ) → IsStroke d
      → new ≡ letters_to (composition_of b).settings key (stroked (composition_of b) d key) d.letters o
      → new ≡ out_on b (key_outcome (composition_of b) key) o
  unfolding out_on
  letters_out d new q h = rw s (h ∙ (right d q).out)

  refused_out : (r : Refusal) → IsStroke (no_stroke r (composition_of b).count) → o ≡ out_on b (key_outcome (composition_of b) key) o
  refused_out r q = letters_out (no_stroke r (composition_of b).count) o q (no_letters_yet (composition_of b).settings key _ o)

  -- a refusal: nothing changes
  abbrev Refuses : Refusal → Type 0
  Refuses r =
      (Err r ≡ answer_on b (key_on b key o)) × (b ≡ bytes_on b (key_on b key o)) × (o ≡ out_on b (key_outcome (composition_of b) key) o)

  refused : (r : Refusal) → IsStroke (no_stroke r (composition_of b).count) → Refuses r
  refused r q = (refused_told r q, refused_stays r q, refused_out r q)

  -- ---- a letter that is none
  module _ (u : Bool) (a : u ≡ in_alphabet key) where
    module _ (w : not u ≡ true) where
      foreign : IsStroke (no_stroke Foreign (composition_of b).count)
      foreign = stroke_foreign true _ _ key _ _ _ u refl a w refl

      pub foreign_key : Refuses Foreign
      foreign_key = refused Foreign foreign

    -- ---- English mode
    module _ (w : not u ≡ false) (y : Settings) (g : y ≡ (composition_of b).settings) where
      module _ (z : y.mode ≡ English) where
        english : (composition_of b).settings.mode ≡ English
        english = rw g at z

        module _ (l : length o < 1) where
          no_room : IsStroke (no_stroke Short (composition_of b).count)
          unfolding pass_stroke
          no_room = stroke_pass true _ _ key _ _ _ u refl a w english (rw (lt-ltb (length o) 1 l) refl)

          pub pass_short : Refuses Short
          pass_short = refused Short no_room

        module _ (l : 1 ≤ length o) where
          passes : IsStroke (wrote_key (composition_of b).count)
          unfolding pass_stroke
          passes = stroke_pass true _ _ key _ _ _ u refl a w english (rw (le-ltb (length o) 1 l) refl)

          pub pass_told : Ok 1 ≡ answer_on b (key_on b key o)
          pass_told = told _ passes

          pub pass_stays : ((j : ℕ) → Fits w8 (byte_at b j)) → b ≡ bytes_on b (key_on b key o)
          unfolding bytes_on key_on
          pass_stays f =
              rw (← pass_told) (sym (ap bytes_of (english_stays (composition_of b) key (length o) english) ∙ lent b f s))

          pub pass_out : set o 0 key ≡ out_on b (key_outcome (composition_of b) key) o
          unfolding letters_to
          pass_out = letters_out _ (set o 0 key) passes
              (rw (still_same (composition_of b) key (ascii_lower key))
              (one_letter (composition_of b).settings key (composition_of b).cells o english (omega (arith, cells_all b)) l))

      -- ---- Vietnamese
      module _ (z : y.mode ≡ English → ⊥) (k : ℕ) (r : Step) (x : k ≡ ascii_lower key)
          (q : r ≡ step_of y (row_cells (bases (used (composition_of b)))) k) where
        step_is : r ≡ step_of (composition_of b).settings (row_cells (bases (used (composition_of b)))) k
        step_is = q ∙ ap (λ (j : Settings). step_of j (row_cells (bases (used (composition_of b)))) k) g

        by_step : (d : Stroke) → d ≡ step_stroke r (composition_of b).count (length o) → IsStroke d
        by_step d j = stroke_step true _ _ key _ _ d u refl a k r w (vietnamese (composition_of b).settings.mode (rw g at z)) x step_is j

        makes : Makes (composition_of b).settings r (used (composition_of b))
            (key_cells (composition_of b).settings (used (composition_of b)) key) key (ascii_lower key)
        makes =
            rw (
              step_is,
              x,
              step_same (composition_of b).settings (used (composition_of b)) (ascii_lower key)
                  (used_cells (composition_of b) (sound_composition b s)),
            )
            (step_makes (composition_of b).settings (used (composition_of b)) key)

        module _ (l : limit < r.count) where
          full : IsStroke (no_stroke Full (composition_of b).count)
          full = by_step _ (step_full r (composition_of b).count (length o) _ l refl)

          pub full_key : Refuses Full
          full_key = refused Full full

        module _ (l : r.count ≤ limit) where
          module _ (l' : length o < r.count) where
            short : IsStroke (no_stroke Short (composition_of b).count)
            short = by_step _ (step_short r (composition_of b).count (length o) _ l l' refl)

            pub short_key : Refuses Short
            short_key = refused Short short

          -- the places
          place_below : r.at < limit
          place_below = omega (arith, makes.count, makes.at)

          other_below : r.also < limit
          other_below = omega (arith, makes.count, makes.also)

          pub places : (r.at < limit) × (r.also < limit)
          places = (place_below, other_below)

          module _ (l' : r.count ≤ length o) where
            writes : IsStroke (wrote r)
            writes = by_step _ (step_done r (composition_of b).count (length o) l l')

            key_told : Ok r.count ≡ answer_on b (key_on b key o)
            key_told = told (wrote r) writes

            module _ (new : List ℕ) (f : (j : ℕ) → Fits w8 (byte_at b j)) (h' : new ≡ applied b r key k) where
              after_is : stepped r (composition_of b) key k ≡ stroked (composition_of b) (wrote r) key
              after_is = rw x refl

              stores : new ≡ bytes_of (stepped r (composition_of b) key k)
              unfolding applied stepped
              stores = h' ∙ both_stored (with_cell (composition_of b) r.also (also_put r (composition_of b))) _ _ r.at r.count _
                  (sym (cell_in b f s r.also _ other_below)) (rw length-set (omega (arith, cells_all b, place_below))) refl

              key_stored : new ≡ bytes_on b (key_on b key o)
              unfolding bytes_on key_on
              key_stored = rw (← key_told) (stores ∙ ap bytes_of (after_is ∙ (right (wrote r) writes).comp))

              now_is : composition_of new ≡ stroked (composition_of b) (wrote r) key
              unfolding stepped
              now_is = ap composition_of stores ∙ read_written _ (rw (length-set, length-set) (cells_all b)) ∙ after_is

              key_written : (text : List ℕ) → text ≡ first_text (composition_of new) r.count ++ drop r.count o
                  → text ≡ out_on b (key_outcome (composition_of b) key) o
              unfolding stepped
              key_written text j =
                  letters_out (wrote r) text writes
                  (j ∙ ap (λ (d : Composition). first_text d r.count ++ drop r.count o) now_is
                  ∙ all_letters_lem key (stroked (composition_of b) (wrote r) key) r.count o (vietnamese (composition_of b).settings.mode (rw g at z)))

              pub done_key : (text : List ℕ) → text ≡ first_text (composition_of new) r.count ++ drop r.count o
                  → (Ok r.count ≡ answer_on b (key_on b key o)) × (new ≡ bytes_on b (key_on b key o))
                  × (text ≡ out_on b (key_outcome (composition_of b) key) o)
              done_key text j = (key_told, key_stored, key_written text j)

-- ---- the stores as the code makes them
pub applied_is : (b s1 s2 : List ℕ) (r : Step) (key k : ℕ) (c1 c2 p1 p2 : Cell) (u : Bool) → c1 ≡ cell_of (composition_of b) r.at
    → c2 ≡ cell_of (composition_of b) r.also → p1 ≡ put_cell r.change c1 c2 key k → u ≡ (composition_of b).settings.capitals
    → p2 ≡ also_cell r.change u c2
    → s1 ≡ stored b r.also p2 → s2 ≡ stored s1 r.at p1
    → set s2 2 r.count ≡ applied b r key k
unfolding applied
applied_is b s1 s2 r key k c1 c2 p1 p2 u e1 e2 e3 e7 e4 e5 e6 = rw (e6, e5, e4, e7, e3, e2, e1) refl
