-- What the owner does is document 01's key call: the answer, the composition and the output that a stroke leaves are those
-- of the definitions.
use Rattle.std.specs.Prelude.{Err, Ok}
use Prim.Native.Nat.{ℕ, ◌<◌, ◌≤◌}
use mathlib.Core.Path.{◌≡◌, refl, sym, ap, ◌∙◌}
use mathlib.Core.Bool.{Bool, true, false}
use mathlib.Core.List.{List, [], ◌∷◌, map}
use native.Mathlib.Omega.{arith}
use lib.Dec.{ltb}
use lib.ListN.{length, take}
use borrow.Author.Tests.{ltb-true, ltb-false}
use Rattle.p0_choice.specs.Choice.{pick}
use Rattle.p0_refusals.specs.declared.Refusal.{Refusal}
use Rattle.p0_refusals.specs.declared.Refusal.TheVariants.{Foreign, Full, Short, Unsound}
use Rattle.p1_letters.specs.Alphabet.{in_alphabet, ascii_lower}
use Rattle.p3_cells.specs.Cells.{limit, is_sound, used, composed, holding}
use Rattle.p3_cells.specs.Text.{shown, text_of}
use Rattle.p0_refusals.specs.Answers.{writes, refuses, answer, onto, output}
use Rattle.p0_refusals.proofs.Answers.{refuses_answer, short_answer, writes_answer, writes_output}
use Rattle.p3_cells.specs.Leaving.{leaving}
use Rattle.p3_cells.specs.declared.Cell.{Cell}
use Rattle.p3_cells.specs.declared.Composition.{Composition}
use Rattle.p3_cells.specs.declared.Mode.{Mode}
use Rattle.p3_cells.specs.declared.Settings.{Settings}
use Rattle.p3_cells.specs.declared.Mode.TheVariants.{Vietnamese, English}
use Rattle.p3_cells.proofs.Holding.{used_cells, used_held, holding_used}
use Rattle.p3_cells.proofs.Soundness.{sound_length}
use Rattle.p3_cells.proofs.Text.{text_length}
use Rattle.p3_cells.specs.Row.{bases}
use Rattle.p3_cells.specs.Mirror.{first_cells, row_cells, places}
use Rattle.p3_step.specs.Key.{key_cells}
use Rattle.p3_step.specs.Mirror.{step_of}
use Rattle.p3_step.specs.declared.Step.{Step}
use Rattle.p3_step.proofs.Makes.{stepped, still_same, Makes, step_makes}
use Rattle.p3_step.proofs.Same.{step_same}
use Rattle.p3_key.specs.Process.{in_mode, next_cells, written_for, is_full, key_outcome, key_next, keyed}
use Rattle.p3_key.specs.Mirror.{letter_for, no_stroke, wrote, wrote_key, step_stroke, pass_stroke, stroke_of}
use Rattle.p3_key.specs.declared.Stroke.{Stroke}
use Rattle.p3_key.proofs.Letters.{letter_shown, letter_key, letters_to}

-- ---- what a stroke leaves
abbrev pub stroked : Composition → Stroke → ℕ → Composition
stroked c e key = stepped e.step c key (ascii_lower key)

pub record Right (c : Composition) (key : ℕ) (o : List ℕ) (e : Stroke) : Type 0 where
  pub comp : stroked c e key ≡ (keyed c key (length o)).comp
  pub told : e.answer ≡ answer (key_outcome c key) (length o)
  pub out : letters_to c.settings key (stroked c e key) e.letters o ≡ output (key_outcome c key) o

-- ---- what there is to write, way by way
module _ (c : Composition) (key : ℕ) where
  outcome_unsound : is_sound c ≡ false → key_outcome c key ≡ refuses Unsound
  unfolding key_outcome
  outcome_unsound s = rw s refl

  module _ (s : is_sound c ≡ true) where
    outcome_foreign : in_alphabet key ≡ false → key_outcome c key ≡ refuses Foreign
    unfolding key_outcome
    outcome_foreign a = rw (s, a) refl

    module _ (a : in_alphabet key ≡ true) where
      outcome_full : is_full c key ≡ true → key_outcome c key ≡ refuses Full
      unfolding key_outcome
      outcome_full f = rw (s, a, f) refl

      outcome_writes : is_full c key ≡ false → key_outcome c key ≡ writes (written_for c key)
      unfolding key_outcome
      outcome_writes f = rw (s, a, f) refl

-- ---- nothing changes
kept_right : (c : Composition) (key : ℕ) (o : List ℕ) (r : Refusal) → Err r ≡ answer (key_outcome c key) (length o)
    → Right c key o (no_stroke r c.count)
unfolding letters_to keyed leaving output
kept_right c key o r e =
    record {
      comp = rw (still_same c key (ascii_lower key), ← e) refl;
      told = e;
      out = rw (← e) refl;
    }

refused_right : (c : Composition) (key : ℕ) (o : List ℕ) (r : Refusal) → key_outcome c key ≡ refuses r
    → Right c key o (no_stroke r c.count)
refused_right c key o r q = kept_right c key o r (refuses_answer _ r q (length o))

short_right : (c : Composition) (key : ℕ) (o : List ℕ) → key_outcome c key ≡ writes (written_for c key) → length o < length (written_for c key)
    → Right c key o (no_stroke Short c.count)
short_right c key o q l = kept_right c key o Short (short_answer _ _ q (length o) l)

-- ---- the composition and the output, where the letters are written
module _ (c : Composition) (key : ℕ) (o : List ℕ) (q : key_outcome c key ≡ writes (written_for c key))
    (l : length (written_for c key) ≤ length o) where
  told_written : (k : ℕ) → k ≡ length (written_for c key) → Ok k ≡ answer (key_outcome c key) (length o)
  told_written k e = writes_answer _ _ q (length o) k l e

  comp_written : (keyed c key (length o)).comp ≡ key_next c key
  unfolding keyed leaving
  comp_written = rw (← told_written _ refl) refl

  out_written : output (key_outcome c key) o ≡ onto (written_for c key) o
  out_written = sym (writes_output _ _ q o _ l refl)

-- ---- English mode: the letter passes through
one_letter : (z : Settings) (key : ℕ) (cells : List Cell) → z.mode ≡ English → 0 < length cells
    → map (letter_for z key) (take 1 cells) ≡ key ∷ []
one_letter z key [] m h = absurd (omega arith)
one_letter z key (x ∷ xs) m h = ap (λ (l : ℕ). l ∷ []) (sym (letter_key z key x m))

pass_right : (c : Composition) (key : ℕ) (o : List ℕ) → 0 < places c → c.settings.mode ≡ English
    → key_outcome c key ≡ writes (written_for c key) → length (written_for c key) ≤ length o
    → length (written_for c key) ≡ 1 → Right c key o (wrote_key c.count)
unfolding letters_to key_next written_for
pass_right c key o h m q l e =
    let same = still_same c key (ascii_lower key) in
    record {
      comp = rw (comp_written c key o q l, same, m) refl;
      told = told_written c key o q l 1 (sym e);
      out = rw (out_written c key o q l, same, one_letter c.settings key c.cells m h, m) refl;
    }

-- ---- Vietnamese: the step's cells
held : (c : Composition) → is_sound c ≡ true → (xs : List Cell) (key : ℕ) (t : Step) → Makes c.settings t (used c) xs key (ascii_lower key)
    → length xs ≤ limit → stroked c (wrote t) key ≡ holding c xs
held c s xs key t h l =
    ap (λ (d : Composition). stepped t d key (ascii_lower key)) (holding_used c s) ∙ h.cells l

-- what the definitions say where the answer is a number of letters
in_vietnamese : {A : Type 0} (m : Mode) (a b : A) → m ≡ Vietnamese → in_mode m a b ≡ a
in_vietnamese m a b e = rw e refl

in_english : {A : Type 0} (m : Mode) (a b : A) → m ≡ English → in_mode m a b ≡ b
in_english m a b e = rw e refl

pub letters_vietnamese : (z : Settings) (key : ℕ) (xs : List Cell) → z.mode ≡ Vietnamese
    → map (letter_for z key) xs ≡ text_of z.capitals xs
unfolding text_of
letters_vietnamese z key [] e = refl
letters_vietnamese z key (x ∷ xs) e =
    rw (← letter_shown z key (shown z.capitals x) x e refl, letters_vietnamese z key xs e) refl

module _ (c : Composition) (key : ℕ) (m : c.settings.mode ≡ Vietnamese) where
  written_vietnamese : written_for c key ≡ text_of c.settings.capitals (next_cells c key)
  unfolding written_for
  written_vietnamese = in_vietnamese c.settings.mode (text_of c.settings.capitals (next_cells c key)) (key ∷ []) m

  full_vietnamese : is_full c key ≡ ltb limit (length (next_cells c key))
  unfolding is_full
  full_vietnamese = in_vietnamese c.settings.mode (ltb limit (length (next_cells c key))) false m

  written_length : length (written_for c key) ≡ length (next_cells c key)
  written_length = rw written_vietnamese (text_length c.settings.capitals (next_cells c key))

  next_vietnamese : key_next c key ≡ holding c (next_cells c key)
  unfolding key_next
  next_vietnamese = in_vietnamese c.settings.mode (holding c (next_cells c key)) c m

front : (z : Settings) (xs : List Cell) → first_cells (composed z xs) (length xs) ≡ xs
unfolding used composed
front z xs = used_held z xs

step_right : (c : Composition) → is_sound c ≡ true → (key : ℕ) (t : Step)
    → Makes c.settings t (used c) (next_cells c key) key (ascii_lower key)
    → length (next_cells c key) ≤ limit → (o : List ℕ) → c.settings.mode ≡ Vietnamese → key_outcome c key ≡ writes (written_for c key)
    → length (written_for c key) ≤ length o → Right c key o (wrote t)
unfolding letters_to
step_right c s key t h l o m q r =
    let d = held c s (next_cells c key) key t h l in
    record {
      comp = d ∙ sym (comp_written c key o q r ∙ next_vietnamese c key m);
      told = told_written c key o q r t.count (h.count ∙ sym (written_length c key m));
      out =
          rw (d, h.count, front c.settings (next_cells c key), letters_vietnamese c.settings key (next_cells c key) m)
          (sym (out_written c key o q r ∙ rw (written_length c key m, written_vietnamese c key m) refl));
    }

-- ---- the stroke of a sound composition and a letter of the alphabet
module _ (c : Composition) (key : ℕ) (o : List ℕ) (s : is_sound c ≡ true) (a : in_alphabet key ≡ true) where
  module _ (m : c.settings.mode ≡ English) where
    full_english : is_full c key ≡ false
    unfolding is_full
    full_english = in_english c.settings.mode (ltb limit (length (next_cells c key))) false m

    written_english : length (written_for c key) ≡ 1
    unfolding written_for
    written_english = rw (in_english c.settings.mode (text_of c.settings.capitals (next_cells c key)) (key ∷ []) m) refl

    english_right : Right c key o (pass_stroke c.count (length o))
    unfolding pass_stroke
    english_right = go (ltb (length o) 1) refl
      where
        go : (b : Bool) → ltb (length o) 1 ≡ b
            → Right c key o (pick b (no_stroke Short c.count) (wrote_key c.count))
        go true q =
            let l : length o < length (written_for c key) = rw written_english (ltb-true (length o) 1 q) in
            short_right c key o (outcome_writes c key s a full_english) l
        go false q =
            let l : length (written_for c key) ≤ length o = rw written_english (ltb-false (length o) 1 q) in
            pass_right c key o (rw (sound_length c s) (omega arith)) m (outcome_writes c key s a full_english) l written_english

  module _ (m : c.settings.mode ≡ Vietnamese) (t : Step) (h : Makes c.settings t (used c) (next_cells c key) key (ascii_lower key)) where
    vietnamese_right : Right c key o (step_stroke t c.count (length o))
    unfolding step_stroke
    vietnamese_right = go (ltb limit t.count) (ltb (length o) t.count) refl refl
      where
        go : (b d : Bool) → ltb limit t.count ≡ b → ltb (length o) t.count ≡ d
            → Right c key o (pick b (no_stroke Full c.count) (pick d (no_stroke Short c.count) (wrote t)))
        go true d p q = refused_right c key o Full (outcome_full c key s a (full_vietnamese c key m ∙ rw h.count at p))
        go false true p q =
            let l : length o < length (written_for c key) = rw (written_length c key m, ← h.count) (ltb-true (length o) t.count q) in
            short_right c key o (outcome_writes c key s a (full_vietnamese c key m ∙ rw h.count at p)) l
        go false false p q =
            let l : length (written_for c key) ≤ length o = rw (written_length c key m, ← h.count) (ltb-false (length o) t.count q) in
            step_right c s key t h (rw h.count at (ltb-false limit t.count p)) o m
            (outcome_writes c key s a (full_vietnamese c key m ∙ rw h.count at p)) l

-- what the stroke leaves is right
pub stroke_right : (c : Composition) (key : ℕ) (o : List ℕ)
    → Right c key o (stroke_of (is_sound c) c.settings (row_cells (bases (used c))) key c.count (length o))
unfolding stroke_of next_cells
stroke_right c key o = go (is_sound c) (in_alphabet key) c.settings.mode refl refl refl
  where
    makes : is_sound c ≡ true
        → Makes c.settings (step_of c.settings (row_cells (bases (used c))) (ascii_lower key)) (used c)
        (key_cells c.settings (used c) key) key (ascii_lower key)
    makes s = rw (step_same c.settings (used c) (ascii_lower key) (used_cells c s)) (step_makes c.settings (used c) key)

    go : (s a : Bool) (m : Mode) → is_sound c ≡ s → in_alphabet key ≡ a → c.settings.mode ≡ m
        → Right c key o (pick s (pick a
        (in_mode m (step_stroke (step_of c.settings (row_cells (bases (used c))) (ascii_lower key)) c.count (length o))
        (pass_stroke c.count (length o))) (no_stroke Foreign c.count))
        (no_stroke Unsound c.count))
    go false a m e f g = refused_right c key o Unsound (outcome_unsound c key e)
    go true false m e f g = refused_right c key o Foreign (outcome_foreign c key e f)
    go true true English e f g = english_right c key o e f g
    go true true Vietnamese e f g =
        vietnamese_right c key o e f g (step_of c.settings (row_cells (bases (used c))) (ascii_lower key)) (makes e)
