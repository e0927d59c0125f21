-- The step as numbers is document 01's step: stored in an array that begins with the cells, it makes the cells after the key.
use Rattle.std.specs.Prelude.{None, Option, Some}
use Prim.Native.Nat.{ℕ, suc, ◌+◌, ◌%◌, ◌<◌, ◌≤◌}
use mathlib.Core.Path.{◌≡◌, refl, sym, ap, ◌∙◌}
use mathlib.Core.Bool.{Bool, true, false}
use mathlib.Core.List.{List, [], ◌∷◌, ◌++◌}
use native.Mathlib.Omega.{arith}
use lib.ListN.{length, get_or, set, length-append, length-set}
use lib.Seq.{set-set}
use Rattle.p0_choice.specs.Choice.{pick}
use Rattle.p1_letters.specs.Alphabet.{ascii_lower}
use Rattle.p2_input_method.specs.Rules.{is_tone_key, is_horn_key, mark_for}
use Rattle.p3_cells.specs.declared.Settings.{Settings}
use Rattle.p3_cells.specs.Cells.{limit, blank, typed, composed}
use Rattle.p3_cells.specs.Mirror.{cell_of, with_cell, with_count}
use Rattle.p3_cells.specs.Place.{place_or}
use Rattle.p3_cells.specs.declared.Cell.{Cell}
use Rattle.p3_cells.specs.declared.Composition.{Composition}
use Rattle.p3_cells.proofs.Holding.{cell_back, cell_again, count_again, cell_held, settings_held, composed_set, composed_append}
use Rattle.p3_cells.proofs.Made.{tone_key_small}
use Rattle.p3_tone.specs.TonePlace.{any_vowel, tone_place}
use Rattle.p3_tone.proofs.Bound.{vowel_some, tone_below}
use Rattle.p3_marks.specs.Uo.{base_at, uo_place, horn_u, horn_o, uo_made}
use Rattle.p3_marks.specs.Ua.{ua_place, marked, ua_made}
use Rattle.p3_marks.specs.Mark.{mark_place, mark_made}
use Rattle.p3_marks.proofs.Uo.{uo_below}
use Rattle.p3_marks.proofs.Ua.{ua_below}
use Rattle.p3_marks.proofs.Mark.{place_marks}
use Rattle.p3_step.specs.Key.{with_tone, tone_made, appended, mark_or_later, horn_or_later, key_cells}
use Rattle.p3_step.specs.Mirror.{still, tones_at, marks_at, pairs_at, appends_at, tone_for, uo_for, ua_for, mark_step, ua_step, uo_step, step_of}
use Rattle.p3_step.specs.Mirror.{put_cell, also_cell, put, also_put}
use Rattle.p3_step.specs.declared.Change.TheVariants.{Pair}
use Rattle.p3_step.specs.declared.Step.{Step}

-- the composition after a step's two stores, and its count
unfoldable pub stepped : Step → Composition → ℕ → ℕ → Composition
stepped s c key k = with_count (with_cell (with_cell c s.also (also_put s c)) s.at (put s c key k)) s.count

-- a step that changes nothing puts the cell at hand back, twice
pub still_same : (c : Composition) (key k : ℕ) → stepped (still c.count) c key k ≡ c
unfolding stepped put_cell also_cell
still_same c key k = cell_again c 0 (cell_of c 0) (cell_of c 0) ∙ cell_back c 0

-- under settings z the step makes the cells xs of the cells cs
pub record Makes (z : Settings) (s : Step) (cs xs : List Cell) (key k : ℕ) : Type 0 where
  pub count : s.count ≡ length xs
  pub at : s.at < length xs
  pub also : s.also < length xs
  pub cells : length xs ≤ limit → stepped s (composed z cs) key k ≡ composed z xs

-- ---- two cells of cs: x comes at the place, and y at the other one
two_make : (z : Settings) (s : Step) (cs : List Cell) (x y : Cell) (key k : ℕ) → s.count ≡ length cs → s.at < length cs
    → s.also < length cs → put s (composed z cs) key k ≡ x → also_put s (composed z cs) ≡ y
    → Makes z s cs (set (set cs s.also y) s.at x) key k
unfolding stepped
two_make z s cs x y key k n h j p q =
    let ds : List Cell = set cs s.also y in
    let a : length ds ≡ length cs = length-set cs s.also y in
    let l : length (set ds s.at x) ≡ length cs = length-set ds s.at x ∙ a in
    record {
      count = n ∙ sym l;
      at = rw l h;
      also = rw l j;
      cells = λ r. rw (p, q, n)
          (ap (λ (c : Composition). with_count (with_cell c s.at x) (length cs)) (composed_set z cs s.also y j)
          ∙ ap (λ (c : Composition). with_count c (length cs)) (composed_set z ds s.at x (rw a h))
          ∙ count_again z (set ds s.at x) (length cs) l);
    }

pair_makes : (z : Settings) (cs : List Cell) (i key k : ℕ) → suc i < length cs
    → Makes z (pairs_at (length cs) i) cs (uo_made z.capitals cs i) key k
unfolding put_cell also_cell uo_made
pair_makes z cs i key k h =
    let l : i < length cs = omega arith in
    let d : i + 1 ≡ suc i = omega arith in
    rw d
    (two_make z (record { change = Pair; at = i; also = suc i; count = length cs }) cs
    (horn_u (get_or cs i blank) (get_or cs (suc i) blank)) (horn_o z.capitals (get_or cs (suc i) blank)) key k refl l h
    (rw (cell_held z cs i l, cell_held z cs (suc i) h) refl)
    (rw (settings_held z cs, cell_held z cs (suc i) h) refl))

-- ---- one of them: the other place is the same, and what stands there stays until the last store
one_makes : (z : Settings) (s : Step) (cs : List Cell) (x : Cell) (key k : ℕ) → s.count ≡ length cs → s.also ≡ s.at
    → s.at < length cs → ((b : Bool) (y : Cell) → also_cell s.change b y ≡ y) → put s (composed z cs) key k ≡ x
    → Makes z s cs (set cs s.at x) key k
one_makes z s cs x key k n a h q p =
    let y : Cell = get_or cs s.at blank in
    let e : set (set cs s.also y) s.at x ≡ set cs s.at x = rw a (set-set cs s.at y x) in
    rw e at (two_make z s cs x y key k n h (rw a h) p (q _ _ ∙ rw a (cell_held z cs s.at h)))

tone_makes : (z : Settings) (cs : List Cell) (i key k : ℕ) → i < length cs → k < 256
    → Makes z (tones_at (length cs) i) cs (set cs i (with_tone (get_or cs i blank) k)) key k
unfolding put_cell also_cell with_tone
tone_makes z cs i key k h l =
    let e : k % 256 ≡ k = omega arith in
    one_makes z (tones_at (length cs) i) cs (with_tone (get_or cs i blank) k) key k refl refl h (λ b y. refl)
    (rw (e, cell_held z cs i h) refl)

mark_makes : (z : Settings) (cs : List Cell) (i l key k : ℕ) → i < length cs
    → Makes z (marks_at (length cs) l i) cs (set cs i (marked (get_or cs i blank) l)) key k
unfolding put_cell also_cell
mark_makes z cs i l key k h =
    one_makes z (marks_at (length cs) l i) cs (marked (get_or cs i blank) l) key k refl refl h (λ b y. refl)
    (rw (cell_held z cs i h) refl)

-- ---- one more cell
append_makes : (z : Settings) (cs : List Cell) (key k : ℕ) → Makes z (appends_at (length cs)) cs (appended cs key) key k
unfolding appended stepped put_cell also_cell
append_makes z cs key k =
    let n : length (cs ++ (typed key ∷ [])) ≡ length cs + 1 = rw (length-append cs (typed key ∷ [])) refl in
    record {
      count = sym n;
      at = rw n (omega arith);
      also = rw n (omega arith);
      cells = λ r.
          let l : length cs < limit = omega (arith, n, r) in
          ap (λ (c : Composition). with_count c (length cs + 1)) (cell_again (composed z cs) (length cs) (typed key) _)
          ∙ composed_append z cs (length cs) (typed key) refl l;
    }

-- ---- the steps in their order, by the places that are found
mark_step_makes : (z : Settings) (cs : List Cell) (key k : ℕ) → Makes z (mark_step z cs k) cs (mark_or_later z cs key k) key k
unfolding mark_step mark_or_later mark_made
mark_step_makes z cs key k = go (mark_place z.method cs k) refl
  where
    go : (p : Option ℕ) → mark_place z.method cs k ≡ p
        → Makes z (place_or p (λ i. marks_at (length cs) (mark_for z.method (base_at cs i) k) i) (appends_at (length cs))) cs
        (place_or p (λ i. set cs i (marked (get_or cs i blank) (mark_for z.method (base_at cs i) k))) (appended cs key)) key k
    go None e = append_makes z cs key k
    go (Some i) e = mark_makes z cs i (mark_for z.method (base_at cs i) k) key k (place_marks z.method cs k i e).below

uo_step_makes : (z : Settings) (cs : List Cell) (key k : ℕ) → Makes z (uo_step z cs k) cs (horn_or_later z cs key k) key k
unfolding uo_step ua_step uo_for ua_for horn_or_later ua_made
uo_step_makes z cs key k = go (is_horn_key z.method k) (uo_place cs) (ua_place cs) refl refl
  where
    go : (v : Bool) (p q : Option ℕ) → uo_place cs ≡ p → ua_place cs ≡ q
        → Makes z (place_or (pick v p None) (pairs_at (length cs))
        (place_or (pick v q None) (marks_at (length cs) 0x1b0) (mark_step z cs k))) cs
        (pick v
        (place_or p (uo_made z.capitals cs) (place_or q (λ i. set cs i (marked (get_or cs i blank) 0x1b0)) (mark_or_later z cs key k)))
        (mark_or_later z cs key k)) key k
    go false p q e f = mark_step_makes z cs key k
    go true (Some i) q e f = pair_makes z cs i key k (uo_below cs i e)
    go true None (Some i) e f = mark_makes z cs i 0x1b0 key k (ua_below cs i f)
    go true None None e f = mark_step_makes z cs key k

-- the step of a key makes the cells after the key
pub step_makes : (z : Settings) (cs : List Cell) (key : ℕ)
    → Makes z (step_of z cs (ascii_lower key)) cs (key_cells z cs key) key (ascii_lower key)
unfolding step_of tone_for key_cells tone_made
step_makes z cs key = go (is_tone_key z.method (ascii_lower key)) (any_vowel cs) refl refl
  where
    go : (u v : Bool) → is_tone_key z.method (ascii_lower key) ≡ u → any_vowel cs ≡ v
        → Makes z (place_or (pick u (pick v (Some (tone_place cs)) None) None)
        (tones_at (length cs)) (uo_step z cs (ascii_lower key)))
        cs
        (pick u (pick v (set cs (tone_place cs) (with_tone (get_or cs (tone_place cs) blank) (ascii_lower key)))
        (horn_or_later z cs key (ascii_lower key))) (horn_or_later z cs key (ascii_lower key)))
        key (ascii_lower key)
    go true true e f =
        tone_makes z cs (tone_place cs) key (ascii_lower key) (tone_below cs (vowel_some cs f))
        (tone_key_small z.method (ascii_lower key) e)
    go true false e f = uo_step_makes z cs key (ascii_lower key)
    go false v e f = uo_step_makes z cs key (ascii_lower key)
