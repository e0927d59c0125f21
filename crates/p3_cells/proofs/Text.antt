-- The text of a cell, and writing the text of the cells in use from the start of an output.
use Prim.Native.Nat.{ℕ, zero, suc, ◌+◌, ◌^◌, ◌<◌, ◌≤◌}
use mathlib.Core.Path.{◌≡◌, refl, sym, ap, ◌∙◌}
use mathlib.Core.Bool.{Bool, true, false, not}
use mathlib.Core.List.{List, [], ◌∷◌, ◌++◌, map}
use native.Mathlib.Omega.{arith}
use native.Mathlib.Numerals.{add-one}
use lib.ListN.{length, get_or, take, drop, set, length-map}
use Rattle.std.proofs.Math.Seq.{take-length}
use Rattle.std.proofs.lemmas.List.{length-take-le}
use borrow.Author.Tests.{not-true, ne_eqb}
use Rattle.p0_choice.proofs.Choices.{pick_false}
use Rattle.p1_letters.proofs.ToneOn.{no_tone}
use Rattle.p3_cells.specs.Cells.{limit, blank, used}
use Rattle.p3_cells.specs.Mirror.{packed_cell, cell_of, first_text}
use Rattle.p3_cells.specs.Text.{letter_of, toned_letter, shown, text_of}
use Rattle.p3_cells.specs.declared.Cell.{Cell}
use Rattle.p3_cells.specs.declared.Composition.{Composition}

pub toned_none : (x : Cell) (l : ℕ) → l ≡ letter_of x → x.tone ≡ 0 → l ≡ toned_letter x
unfolding toned_letter
toned_none x l e h = rw (← e, h) (sym (no_tone l))

-- ---- a cell as one number below 2^48
flag_off : (x : Cell) → packed_cell x < 281474976710656 → x.upper ≡ false
unfolding packed_cell
flag_off x h = go x.upper refl
  where
    go : (u : Bool) → x.upper ≡ u → u ≡ false
    go true p = absurd (let k = rw p at h in omega arith)
    go false p = refl

tone_off_lem : (x : Cell) → packed_cell x < 281474976710656 → x.tone ≡ 0
unfolding packed_cell
tone_off_lem x h = omega arith

-- and below 2^32
base_letter : (x : Cell) → packed_cell x < 4294967296 → x.base ≡ letter_of x
unfolding packed_cell letter_of
base_letter x h = let z : x.mark ≡ 0 = omega arith in rw z refl

mark_some : (x : Cell) → x.base < 2 ^ 32 → 4294967296 ≤ packed_cell x → packed_cell x < 281474976710656 → x.mark ≡ 0 → ⊥
unfolding packed_cell
mark_some x b m h z = let t = tone_off_lem x h in let f = flag_off x h in let k = rw f at m in omega arith

mark_letter : (x : Cell) → (x.mark ≡ 0 → ⊥) → x.mark ≡ letter_of x
unfolding letter_of
mark_letter x d = rw (ne_eqb x.mark 0 d) refl

-- ---- a cell, under either setting
module _ (k : Bool) (x : Cell) where
  pub shown_small : (t : ℕ) → t ≡ toned_letter x → not x.upper ≡ true → t ≡ shown k x
  unfolding shown
  shown_small t e h = rw (← e) (pick_false x.upper t _ t (not-true x.upper h) refl)

  -- neither a tone nor a flag
  pub shown_bare : (l : ℕ) → x.tone ≡ 0 → x.upper ≡ false → l ≡ letter_of x → l ≡ shown k x
  shown_bare l t u q = shown_small l (toned_none x l q t) (ap not u)

  pub shown_plain : (w l : ℕ) → w ≡ packed_cell x → w < 281474976710656 → l ≡ letter_of x → l ≡ shown k x
  shown_plain w l e h q = let p = rw e at h in shown_bare l (tone_off_lem x p) (flag_off x p) q

  -- nor a mark; and a mark alone
  pub shown_base : (w : ℕ) → w ≡ packed_cell x → w < 4294967296 → x.base ≡ shown k x
  shown_base w e h = shown_plain w x.base e (omega arith) (base_letter x (rw e at h))

  pub shown_mark : (w : ℕ) → w ≡ packed_cell x → x.base < 2 ^ 32 → 4294967296 ≤ w → w < 281474976710656 → x.mark ≡ shown k x
  shown_mark w e b m h = shown_plain w x.mark e h (mark_letter x (mark_some x b (rw e at m) (rw e at h)))

pub text_length : (k : Bool) (xs : List Cell) → length (text_of k xs) ≡ length xs
unfolding text_of
text_length k xs = length-map xs (shown k)

-- ---- the first i letters are written
unfoldable pub written_to : Composition → ℕ → List ℕ → List ℕ
written_to c i o = first_text c i ++ drop i o

pub written_none : (c : Composition) (o : List ℕ) → o ≡ written_to c 0 o
unfolding written_to text_of
written_none c o = refl

-- one letter more, whatever f writes for a cell
pub map_more : (f : Cell → ℕ) (xs : List Cell) (o : List ℕ) (i : ℕ) → i < length xs → i < length o
    → set (map f (take i xs) ++ drop i o) i (f (get_or xs i blank)) ≡ map f (take (suc i) xs) ++ drop (suc i) o
map_more f [] o i h l = absurd (omega arith)
map_more f (x ∷ xs) [] i h l = absurd (omega arith)
map_more f (x ∷ xs) (y ∷ o) zero h l = refl
map_more f (x ∷ xs) (y ∷ o) (suc i) h l = ap (λ (t : List ℕ). f x ∷ t) (map_more f xs o i (omega arith) (omega arith))

pub written_more : (c : Composition) (o out : List ℕ) (i v : ℕ) → out ≡ written_to c i o → v ≡ shown c.settings.capitals (cell_of c i)
    → length c.cells ≡ limit
    → i < c.count → c.count ≤ limit → c.count ≤ length o → set out i v ≡ written_to c (i + 1) o
unfolding written_to text_of
written_more c o out i v e q n h l m =
    rw (e, q, add-one i) (map_more (shown c.settings.capitals) c.cells o i (omega arith) (omega arith))

-- the letters of the first cells of a list are written, one more, and those of the cells in use
pub text_more : (k : Bool) (xs : List Cell) (o out : List ℕ) (i v : ℕ) → out ≡ text_of k (take i xs) ++ drop i o
    → v ≡ shown k (get_or xs i blank) → i < length xs → i < length o → set out i v ≡ text_of k (take (i + 1) xs) ++ drop (i + 1) o
unfolding text_of
text_more k xs o out i v e q h l = rw (e, q, add-one i) (map_more (shown k) xs o i h l)

pub text_done : (c : Composition) (o out : List ℕ) (i : ℕ)
    → out ≡ text_of c.settings.capitals (take i (take c.count c.cells)) ++ drop i o
    → length c.cells ≡ limit → c.count ≤ limit → i ≤ length (take c.count c.cells) → length (take c.count c.cells) ≤ i
    → out ≡ text_of c.settings.capitals (used c) ++ drop c.count o
unfolding used
text_done c o out i e n h l m =
    let d : length (take c.count c.cells) ≡ c.count = length-take-le c.count c.cells (omega arith) in
    let j : i ≡ c.count = omega arith in
    let t : take c.count (take c.count c.cells) ≡ take c.count c.cells
    = ap (λ (n : ℕ). take n (take c.count c.cells)) (sym d) ∙ take-length (take c.count c.cells) in
    e ∙ rw (j, t) refl

-- the length of an array of structs, from that of its list under a map
pub length_under : {A B : Type 0} (f : A → B) (l : List A) (n : ℕ) → length (map f l) ≡ n → length l ≡ n
length_under f l n e = sym (length-map l f) ∙ e
