-- Tone on and tone off as they are read off the block of p1_tone_block.
use Rattle.std.specs.Prelude.{Option, None, Some}
use Prim.Native.Nat.{ℕ, ◌+◌, ◌-◌, ◌*◌, ◌/◌, ◌%◌, ◌^◌, ◌<◌, ◌≤◌}
use mathlib.Core.Path.{◌≡◌, refl, sym, ap, ◌∙◌}
use mathlib.Core.Bool.{Bool, true, false, not}
use mathlib.Core.List.{List, []}
use mathlib.Core.Logic.{⊎_elim}
use native.Mathlib.Omega.{arith}
use lib.Dec.{T, ltb, leb, eqb}
use lib.ListN.{get_or}
use borrow.Author.Tests.{eqb-true, eqb-false, ltb-true, lt-leb, ne_eqb, not-true, not-false}
use Rattle.p0_choice.specs.Choice.{pick, among, each, from}
use Rattle.p0_choice.specs.Text.{word}
use Rattle.p0_choice.proofs.Choices.{picks}
use Rattle.p0_choice.proofs.Numbers.{below_or_not}
use Rattle.p0_choice.proofs.Tables.{each_among, each_count, among_above}
use Rattle.p0_choice.proofs.Tests.{holds}
use Rattle.p1_letters.specs.Alphabet.{ascii_lower, is_ascii_capital}
use Rattle.p1_letters.specs.Tones.{tone_rows, tone_column, row_of, tone_from, tone_on, off_in, tone_off}
use Rattle.p1_letters.specs.Mirror.{column_asked}
use Rattle.p1_letters.specs.Vowels.{vowels, is_vowel}
use Rattle.p1_letters.proofs.Tones.{from_none, toned, off_rows}
use Rattle.p1_letters.proofs.ToneOn.{keys, no_column, tone_leaves}
use Rattle.p1_letters.proofs.Vowels.{every_vowel}
use Rattle.p1_tone_block.specs.Mirror.{tone_block, letter_at, slot_of, place_in, letter_place}
use Rattle.p1_tone_block.proofs.Places.{place_below, place_right, place_only}

-- ---- the block has the letters of the rows, each in its row and column
in_place : ℕ → ℕ → Bool
in_place r c = eqb (letter_at (r * 6 + c)) (get_or (get_or tone_rows r []) c 0)

in_places : ℕ → Bool
in_places r = each (in_place r) (from 6 0)

places_test : T (each in_places (from 12 0))
unfolding in_places in_place letter_at tone_block tone_rows word
places_test = tt

pub block_rows : (r c : ℕ) → r < 12 → c < 6 → letter_at (r * 6 + c) ≡ get_or (get_or tone_rows r []) c 0
unfolding in_places in_place
block_rows r c h k =
    eqb-true _ _ (each_count (in_place r) 6 0 (holds _ (each_count in_places 12 0 places_test r (omega arith) h)) c (omega arith) k)

-- ---- the column of a tone key, range by range as the code has it
-- of the keys up to x
by_range : ℕ → ℕ
by_range t = pick (ltb t 49) 0 (pick (leb t 53) (t - 48) (pick (ltb t 102) 0 (0x10000b000005002 / 2 ^ (3 * (t - 102)) % 8)))

range_right : (t : ℕ) → t ≤ 120 → by_range t ≡ tone_column t
unfolding by_range tone_column word
range_right t h = eqb-true _ _ (each_count (λ (k : ℕ). eqb (by_range k) (tone_column k)) 121 0 tt t (omega arith) (omega arith))

pub column_past : (t : ℕ) → 120 < t → 0 ≡ tone_column t
unfolding keys word
column_past t h = no_column t t (among_above keys 120 tt t h)

pub column_below : (t : ℕ) → tone_column t < 6
unfolding tone_column word
column_below t =
    ⊎_elim
    (λ (h : t < 121). ltb-true _ _ (each_count (λ (k : ℕ). ltb (tone_column k) 6) 121 0 tt t (omega arith) (omega arith)))
    (λ (h : 121 ≤ t). rw (← column_past t (omega arith)) (omega arith)) (below_or_not t 121)

-- what is asked for, by the column
asked : (t c : ℕ) → c ≡ tone_column t → (c ≡ 0 → ⊥) → Some c ≡ column_asked t
unfolding column_asked
asked t c e z = rw (← e) (search picks)

none_asked : (t c : ℕ) → c ≡ tone_column t → c ≡ 0 → None ≡ column_asked t
unfolding column_asked
none_asked t c e z = rw (← e) (search picks)

pub asked_column : (t c : ℕ) → Some c ≡ column_asked t → (c ≡ tone_column t) × (c ≡ 0 → ⊥)
unfolding column_asked
asked_column t c = go (tone_column t) (eqb (tone_column t) 0) refl
  where
    go : (k : ℕ) (b : Bool) → eqb k 0 ≡ b → Some c ≡ pick b None (Some k) → (c ≡ k) × (c ≡ 0 → ⊥)
    go k true e q = let z : ◌≡◌ {A = ℕ} 0 1 = cc in absurd (omega arith)
    go k false e q = let d : c ≡ k = cc in (d, λ z. eqb-false k 0 e (sym d ∙ z))

pub none_column : (t : ℕ) → None ≡ column_asked t → tone_column t ≡ 0
unfolding column_asked
none_column t = go (tone_column t) (eqb (tone_column t) 0) refl
  where
    go : (k : ℕ) (b : Bool) → eqb k 0 ≡ b → ◌≡◌ {A = Option ℕ} None (pick b None (Some k)) → k ≡ 0
    go k true e q = eqb-true k 0 e
    go k false e q = let z : ◌≡◌ {A = ℕ} 0 1 = cc in absurd (omega arith)

module _ (t : ℕ) where
  pub column_low : t < 49 → 0 ≡ tone_column t
  unfolding by_range
  column_low h = rw (← range_right t (omega arith)) (search picks)

  pub column_digit : 49 ≤ t → t ≤ 53 → t - 48 ≡ tone_column t
  unfolding by_range
  column_digit l h = rw (← range_right t (omega arith)) (search picks)

  pub column_between : 49 ≤ t → 53 < t → t < 102 → 0 ≡ tone_column t
  unfolding by_range
  column_between k l h = rw (← range_right t (omega arith)) (search picks)

  pub column_letter : 102 ≤ t → t ≤ 120 → 0x10000b000005002 / 2 ^ (3 * (t - 102)) % 8 ≡ tone_column t
  unfolding by_range
  column_letter k h =
      let i : 49 ≤ t = omega arith in let j : 53 < t = omega arith in rw (← range_right t h) (search picks)

  pub asked_digit : 49 ≤ t → t ≤ 53 → Some (t - 48) ≡ column_asked t
  asked_digit l h = asked t (t - 48) (column_digit l h) (omega arith)

  pub asked_letter : (c : ℕ) → 102 ≤ t → t ≤ 120 → c ≡ 0x10000b000005002 / 2 ^ (3 * (t - 102)) % 8 → (c ≡ 0 → ⊥) → Some c ≡ column_asked t
  asked_letter c k h e z = asked t c (e ∙ column_letter k h) z

  pub no_letter : (c : ℕ) → 102 ≤ t → t ≤ 120 → c ≡ 0x10000b000005002 / 2 ^ (3 * (t - 102)) % 8 → c ≡ 0 → None ≡ column_asked t
  no_letter c k h e z = none_asked t c (e ∙ column_letter k h) z

  pub no_low : t < 49 → None ≡ column_asked t
  no_low h = none_asked t 0 (column_low h) refl

  pub no_between : 53 < t → t < 102 → None ≡ column_asked t
  no_between l h = none_asked t 0 (column_between (omega arith) l h) refl

  pub no_past : 120 < t → None ≡ column_asked t
  no_past h = none_asked t 0 (column_past t h) refl

-- ---- tone on
pub on_apart : (x t l : ℕ) (v : Bool) → l ≡ ascii_lower x → v ≡ among l vowels → not v ≡ true → x ≡ tone_on x t
unfolding is_vowel
on_apart x t l v e q n = sym (tone_leaves x t (rw (← e) (sym q ∙ not-true v n)))

pub on_no_key : (x t : ℕ) → None ≡ column_asked t → x ≡ tone_on x t
unfolding tone_on
on_no_key x t e = from_none x t (row_of tone_rows (ascii_lower x)) (sym (none_column t e))

-- the sum of the row's place and the column is a place too
pub on_place : (x t p c : ℕ) → p ≡ letter_place x → Some c ≡ column_asked t → p + c < 256
on_place x t p c a q = let f = (asked_column t c q).0 in rw (a, f) (omega (arith, place_below x, column_below t))

-- the letter in the vowel's row and a column
in_row : ℕ → ℕ → Bool
in_row x c = eqb (letter_at (letter_place (ascii_lower x) + c)) (get_or (row_of tone_rows (ascii_lower x)) c x)

rows_test : (x : ℕ) → is_vowel x ≡ true → each (in_row x) (from 5 1) ≡ true
unfolding in_row is_vowel vowels ascii_lower is_ascii_capital letter_at letter_place place_in slot_of tone_block tone_rows row_of word
rows_test x v = every_vowel (λ (y : ℕ). each (in_row y) (from 5 1)) tt x v

row_right : (x c : ℕ) → is_vowel x ≡ true → 0 < c → c < 6
    → letter_at (letter_place (ascii_lower x) + c) ≡ get_or (row_of tone_rows (ascii_lower x)) c x
unfolding in_row
row_right x c v l h = eqb-true _ _ (each_count (in_row x) 5 1 (holds _ (rows_test x v)) c (omega arith) (omega arith))

pub on_found : (x t l p c r : ℕ) (v : Bool) → l ≡ ascii_lower x → v ≡ among l vowels → not v ≡ false → p ≡ letter_place l
    → Some c ≡ column_asked t → r ≡ letter_at (p + c) → r ≡ tone_on x t
unfolding tone_on tone_from is_vowel
on_found x t l p c r v e q n a k h =
    let f = (asked_column t c k).0 in
    let z = (asked_column t c k).1 in
    rw (← f, ne_eqb c 0 z) (h ∙ rw (a, e) (row_right x c (rw (← e) (sym q ∙ not-false v n)) (omega arith) (rw f (column_below t))))

-- ---- tone off
pub off_low : (x : ℕ) → x < 0xe0 → x ≡ tone_off x
unfolding tone_off tone_rows word
off_low x h = off_rows (λ (y : ℕ). leb 0xe0 y) x tone_rows (lt-leb 0xe0 x h) tt

head : ℕ → Bool
head x = eqb (letter_at (letter_place x / 6 * 6)) (tone_off x)

heads_test : T (each head tone_block)
unfolding head letter_at letter_place place_in slot_of tone_block tone_off off_in tone_rows word
heads_test = tt

-- the vowel at the head of the row in which x stands
pub off_found : (x p f r : ℕ) → p ≡ letter_place x → f ≡ letter_at p → f ≡ x → r ≡ letter_at (p / 6 * 6) → r ≡ tone_off x
unfolding head
off_found x p f r a q e h = h ∙ rw a (eqb-true _ _ (each_among head tone_block heads_test x (place_only x (rw (← a) (sym q ∙ e)))))

rows_in : T (each (λ (r : List ℕ). each (λ (y : ℕ). among y tone_block) (toned r)) tone_rows)
unfolding tone_block tone_rows word
rows_in = tt

pub off_apart : (x p f : ℕ) → p ≡ letter_place x → f ≡ letter_at p → (f ≡ x → ⊥) → x ≡ tone_off x
unfolding tone_off
off_apart x p f a q n = go (among x tone_block) refl
  where
    go : (b : Bool) → among x tone_block ≡ b → x ≡ off_in tone_rows x
    go true m = absurd (n (q ∙ (ap letter_at a ∙ place_right x m)))
    go false m = off_rows (λ (y : ℕ). among y tone_block) x tone_rows m rows_in
