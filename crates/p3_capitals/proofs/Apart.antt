-- The two settings leave compositions that differ in the flags of ơ alone, key by key, also where the setting changes between keys:
-- bases, marks and tones are one, and so is what a key answers.
use Rattle.std.specs.Prelude.{Err, None, Ok, Option, Result, Some}
use Rattle.p0_refusals.specs.declared.Refusal.{Refusal}
use Prim.Native.Nat.{ℕ, zero, suc, ◌<◌}
use Prim.Native.Char.{code}
use mathlib.Core.Path.{◌≡◌, refl, sym, ap, ◌∙◌}
use mathlib.Core.Bool.{Bool, true, false}
use mathlib.Core.List.{List, [], ◌∷◌, ◌++◌}
use native.Mathlib.Omega.{arith}
use lib.Dec.{ltb}
use lib.ListN.{length, get_or, set}
use Rattle.p0_choice.specs.Choice.{pick, each}
use Rattle.p0_choice.specs.Text.{word}
use Rattle.p0_refusals.specs.Answers.{writes, refuses, answer}
use Rattle.p0_refusals.specs.declared.Refusal.TheVariants.{Foreign, Full}
use Rattle.p1_letters.specs.Alphabet.{in_alphabet, is_ascii_capital, ascii_lower}
use Rattle.p2_input_method.specs.Rules.{is_tone_key, is_horn_key, mark_rule, mark_rules, mark_in, mark_for}
use Rattle.p2_input_method.specs.declared.InputMethod.{InputMethod}
use Rattle.p2_input_method.specs.declared.InputMethod.TheVariants.{Telex, Vni}
use Rattle.p3_cells.specs.Cells.{limit, blank, typed, is_cell, is_sound, used, composed, holding}
use Rattle.p3_cells.specs.Leaving.{leaving}
use Rattle.p3_cells.specs.Mirror.{row_cells}
use Rattle.p3_cells.specs.Place.{place_or}
use Rattle.p3_cells.specs.Row.{bases}
use Rattle.p3_cells.specs.declared.Cell.{Cell}
use Rattle.p3_cells.specs.declared.Composition.{Composition}
use Rattle.p3_cells.specs.declared.Mode.{Mode}
use Rattle.p3_cells.specs.declared.Mode.TheVariants.{Vietnamese, English}
use Rattle.p3_cells.specs.declared.Settings.{Settings}
use Rattle.p3_cells.proofs.Holding.{used_held, used_cells}
use Rattle.p3_cells.proofs.Text.{text_length}
use Rattle.p3_key.specs.Process.{in_mode, next_cells, written_for, is_full, key_outcome, key_next, keyed}
use Rattle.p3_marks.specs.Uo.{base_at, uo_place, horn_u, horn_o, uo_made}
use Rattle.p3_marks.specs.Ua.{ua_place, marked, ua_made}
use Rattle.p3_marks.specs.Mark.{mark_place, mark_made}
use Rattle.p3_marks.proofs.InWords.{uo_nearest, ua_exactly}
use Rattle.p3_marks.proofs.Mark.{mark_same, place_marks}
use Rattle.p3_marks.proofs.Ua.{ua_same}
use Rattle.p3_marks.proofs.Uo.{uo_same}
use Rattle.p3_step.specs.Key.{with_tone, tone_made, appended, mark_or_later, horn_or_later, key_cells}
use Rattle.p3_tone.specs.TonePlace.{any_vowel, tone_place}
use Rattle.p3_tone.proofs.Same.{any_same, tone_place_same}
use Rattle.p3_capitals.specs.Apart.{ApartCell, ApartCells, none, more, Apart}

-- ---- cells place by place
apart_same : (x : Cell) → ApartCell x x
apart_same x = record { base = refl; mark = refl; tone = refl; flag = λ h. refl }

apart_count : {xs ys : List Cell} → ApartCells xs ys → length xs ≡ length ys
apart_count none = refl
apart_count (more x r) = ap suc (apart_count r)

apart_at : {xs ys : List Cell} → ApartCells xs ys → (i : ℕ) → ApartCell (get_or xs i blank) (get_or ys i blank)
apart_at none i = apart_same blank
apart_at (more x r) zero = x
apart_at (more x r) (suc i) = apart_at r i

apart_set : {xs ys : List Cell} → ApartCells xs ys → (i : ℕ) {x y : Cell} → ApartCell x y → ApartCells (set xs i x) (set ys i y)
apart_set none i e = none
apart_set (more x r) zero e = more e r
apart_set (more x r) (suc i) e = more x (apart_set r i e)

apart_append : {xs ys : List Cell} → ApartCells xs ys → (z : Cell) → ApartCells (xs ++ (z ∷ [])) (ys ++ (z ∷ []))
apart_append none z = more (apart_same z) none
apart_append (more x r) z = more x (apart_append r z)

apart_bases : {xs ys : List Cell} → ApartCells xs ys → bases xs ≡ bases ys
unfolding bases
apart_bases none = refl
apart_bases (more x r) = rw (x.base, apart_bases r) refl

-- ---- a base that a step changes is no ơ
no_horn : (x : Cell) (b : ℕ) → ascii_lower x.base ≡ b → b < 0x80 → x.base ≡ code "ơ" → ⊥
unfolding ascii_lower is_ascii_capital
no_horn x b e l q = let h : 0x1a1 ≡ b = rw q at e in omega arith

no_rule_lem : (m : InputMethod) (k : ℕ) → mark_for m (ascii_lower (code "ơ")) k ≡ 0
unfolding ascii_lower is_ascii_capital mark_for mark_in mark_rules mark_rule word
no_rule_lem Telex k = refl
no_rule_lem Vni k = refl

-- ---- the cells that a step makes of two such cells
module _ {x y : Cell} (e : ApartCell x y) where
  toned_apart : (k : ℕ) → ApartCell (with_tone x k) (with_tone y k)
  unfolding with_tone
  toned_apart k = record { base = e.base; mark = e.mark; tone = refl; flag = e.flag }

  marked_apart : (l : ℕ) → (x.base ≡ code "ơ" → ⊥) → ApartCell (marked x l) (marked y l)
  unfolding marked
  marked_apart l h = record { base = refl; mark = refl; tone = e.tone; flag = λ q. e.flag h }

  module _ {u v : Cell} (f : ApartCell u v) (h : u.base ≡ code "ơ" → ⊥) where
    horn_u_apart : ApartCell (horn_u u x) (horn_u v y)
    unfolding horn_u
    horn_u_apart = record { base = refl; mark = refl; tone = e.tone; flag = λ q. f.flag h }

  -- here the settings a and b may differ
  horn_o_apart : (a b : Bool) → ApartCell (horn_o a x) (horn_o b y)
  unfolding horn_o
  horn_o_apart a b = record { base = refl; mark = refl; tone = refl; flag = λ q. absurd (q refl) }

-- ---- a step of two lists of cells, in use under settings of one method
place_two : (p q : Option ℕ) (f g : ℕ → List Cell) (a b : List Cell) → p ≡ q → ((i : ℕ) → p ≡ Some i → ApartCells (f i) (g i))
    → ApartCells a b → ApartCells (place_or p f a) (place_or q g b)
place_two p q f g a b e h r = rw (← e) (go p h)
  where
    go : (p : Option ℕ) → ((i : ℕ) → p ≡ Some i → ApartCells (f i) (g i)) → ApartCells (place_or p f a) (place_or p g b)
    go None h = r
    go (Some i) h = h i refl

pick_two : (t u : Bool) (a b c d : List Cell) → t ≡ u → ApartCells a c → ApartCells b d → ApartCells (pick t a b) (pick u c d)
pick_two t u a b c d e h k = rw (← e) (go t)
  where
    go : (t : Bool) → ApartCells (pick t a b) (pick t c d)
    go true = h
    go false = k

module _ (z w : Settings) (xs ys : List Cell) (r : ApartCells xs ys) (m : z.method ≡ w.method) (key : ℕ) where
  -- the finders go by the bases
  by_bases : {A : Type 0} (f : List Cell → A) → f (row_cells (bases xs)) ≡ f xs → f (row_cells (bases ys)) ≡ f ys → f xs ≡ f ys
  by_bases f p q = sym p ∙ ap (λ (b : List ℕ). f (row_cells b)) (apart_bases r) ∙ q

  base_one : (i : ℕ) → base_at xs i ≡ base_at ys i
  unfolding base_at
  base_one i = ap ascii_lower (apart_at r i).base

  appended_apart : ApartCells (appended xs key) (appended ys key)
  unfolding appended
  appended_apart = apart_append r (typed key)

  ruled : (k i : ℕ) → mark_place z.method xs k ≡ Some i → (get_or xs i blank).base ≡ code "ơ" → ⊥
  unfolding base_at
  ruled k i e q = (place_marks z.method xs k i e).rule (rw q (no_rule_lem z.method k))

  mark_apart : (k : ℕ) → ApartCells (mark_or_later z xs key k) (mark_or_later w ys key k)
  unfolding mark_or_later mark_made
  mark_apart k =
      place_two (mark_place z.method xs k) (mark_place w.method ys k) _ _ _ _
      (by_bases (λ (cs : List Cell). mark_place z.method cs k) (mark_same z.method xs k) (mark_same z.method ys k)
      ∙ ap (λ (n : InputMethod). mark_place n ys k) m)
      (λ i e. rw (← m, ← base_one i) (apart_set r i (marked_apart (apart_at r i) (mark_for z.method (base_at xs i) k) (ruled k i e))))
      appended_apart

  uo_apart : (i : ℕ) → uo_place xs ≡ Some i → ApartCells (uo_made z.capitals xs i) (uo_made w.capitals ys i)
  unfolding uo_made base_at
  uo_apart i e =
      let u = ((uo_nearest xs i).0 e).u in
      apart_set (apart_set r (suc i) (horn_o_apart (apart_at r (suc i)) z.capitals w.capitals)) i
      (horn_u_apart (apart_at r (suc i)) (apart_at r i) (no_horn (get_or xs i blank) (code "u") u (omega arith)))

  ua_apart : (i : ℕ) → ua_place xs ≡ Some i → ApartCells (ua_made xs i) (ua_made ys i)
  unfolding ua_made base_at
  ua_apart i e =
      apart_set r i
      (marked_apart (apart_at r i) (code "ư") (no_horn (get_or xs i blank) (code "u") ((ua_exactly xs i).0 e).u (omega arith)))

  horn_apart : (k : ℕ) → ApartCells (horn_or_later z xs key k) (horn_or_later w ys key k)
  unfolding horn_or_later
  horn_apart k =
      pick_two (is_horn_key z.method k) (is_horn_key w.method k) _ _ _ _ (ap (λ (n : InputMethod). is_horn_key n k) m)
      (place_two (uo_place xs) (uo_place ys) (uo_made z.capitals xs) (uo_made w.capitals ys) _ _
      (by_bases uo_place (uo_same xs) (uo_same ys)) uo_apart
      (place_two (ua_place xs) (ua_place ys) (ua_made xs) (ua_made ys) _ _ (by_bases ua_place (ua_same xs) (ua_same ys)) ua_apart
      (mark_apart k)))
      (mark_apart k)

  module _ (s : each is_cell xs ≡ true) (t : each is_cell ys ≡ true) where
    tone_apart : (k : ℕ) → ApartCells (tone_made xs k) (tone_made ys k)
    unfolding tone_made
    tone_apart k =
        rw (← by_bases tone_place (tone_place_same xs s) (tone_place_same ys t))
        (apart_set r (tone_place xs) (toned_apart (apart_at r (tone_place xs)) k))

    pub key_cells_apart : ApartCells (key_cells z xs key) (key_cells w ys key)
    unfolding key_cells
    key_cells_apart =
        pick_two (is_tone_key z.method (ascii_lower key)) (is_tone_key w.method (ascii_lower key)) _ _ _ _
        (ap (λ (n : InputMethod). is_tone_key n (ascii_lower key)) m)
        (pick_two (any_vowel xs) (any_vowel ys) _ _ _ _ (by_bases any_vowel (any_same xs s) (any_same ys t)) (tone_apart (ascii_lower key))
        (horn_apart (ascii_lower key)))
        (horn_apart (ascii_lower key))

-- ---- a key on two sound compositions
mode_two : {A : Type 0} (P : A → A → Type 0) (o q : Mode) (a b c d : A) → o ≡ q → P a c → P b d → P (in_mode o a b) (in_mode q c d)
mode_two P o q a b c d e h k = rw (← e) (go o)
  where
    go : (o : Mode) → P (in_mode o a b) (in_mode o c d)
    go Vietnamese = h
    go English = k

module _ (c d : Composition) (s : is_sound c ≡ true) (t : is_sound d ≡ true) (r : Apart c d) (key : ℕ) where
  next_apart : ApartCells (next_cells c key) (next_cells d key)
  unfolding next_cells
  next_apart = key_cells_apart c.settings d.settings (used c) (used d) r.cells r.method key (used_cells c s) (used_cells d t)

  full_one : is_full c key ≡ is_full d key
  unfolding is_full
  full_one =
      mode_two (λ (a b : Bool). a ≡ b) c.settings.mode d.settings.mode _ _ _ _ r.mode
      (ap (λ (n : ℕ). ltb limit n) (apart_count next_apart)) refl

  written_one : length (written_for c key) ≡ length (written_for d key)
  unfolding written_for
  written_one =
      mode_two (λ (a b : List ℕ). length a ≡ length b) c.settings.mode d.settings.mode _ _ _ _ r.mode
      (text_length _ (next_cells c key) ∙ apart_count next_apart ∙ sym (text_length _ (next_cells d key))) refl

  answer_one : (n : ℕ) → answer (key_outcome c key) n ≡ answer (key_outcome d key) n
  unfolding key_outcome answer
  answer_one n = rw (s, t, full_one) (go (in_alphabet key) (is_full d key))
    where
      go : (a f : Bool)
          → answer (pick a (pick f (refuses Full) (writes (written_for c key))) (refuses Foreign)) n
          ≡ answer (pick a (pick f (refuses Full) (writes (written_for d key))) (refuses Foreign)) n
      go false f = refl
      go true true = refl
      go true false = rw written_one refl

  held : Apart (holding c (next_cells c key)) (holding d (next_cells d key))
  unfolding composed
  held = record {
    method = r.method;
    mode = r.mode;
    cells = rw (used_held c.settings (next_cells c key), used_held d.settings (next_cells d key)) next_apart;
  }

  next_one : Apart (key_next c key) (key_next d key)
  unfolding key_next
  next_one = mode_two Apart c.settings.mode d.settings.mode _ _ _ _ r.mode held r

  -- the answers are one, and the compositions left are apart as those before were
  pub keys_apart : (n : ℕ) → ((keyed c key n).answer ≡ (keyed d key n).answer) × Apart (keyed c key n).comp (keyed d key n).comp
  unfolding keyed leaving
  keys_apart n = (answer_one n, rw (answer_one n) (go (answer (key_outcome d key) n)))
    where
      go : (a : Result ℕ Refusal) → Apart (leaving a c (key_next c key)).comp (leaving a d (key_next d key)).comp
      go (Ok k) = next_one
      go (Err q) = r
