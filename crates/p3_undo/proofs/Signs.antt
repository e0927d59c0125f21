-- The row of signs: how it is filled, what a finder reads in it, and that it finds what the cells themselves do.
use Rattle.std.specs.Prelude.{Option}
use Prim.Native.Nat.{ℕ, zero, suc, ◌+◌, ◌-◌, ◌*◌, ◌/◌, ◌%◌, ◌<◌, ◌≤◌}
use mathlib.Core.Path.{◌≡◌, refl, ◌∙◌}
use mathlib.Core.Bool.{Bool, true}
use mathlib.Core.List.{List, [], ◌∷◌, map-append}
use mathlib.Core.Logic.{⊎_elim}
use native.Mathlib.Omega.{arith}
use native.Mathlib.Numerals.{add-one}
use lib.Dec.{ltb}
use lib.ListN.{length, get_or, take, drop, set, length-map, get_or-map}
use lib.Seq.{take-suc, take-suc-set}
use borrow.Author.Tests.{ltb-true}
use Rattle.std.proofs.lemmas.List.{length-take-le, get_or-take}
use Rattle.p0_choice.specs.Choice.{each, among}
use Rattle.p0_choice.specs.Text.{word}
use Rattle.p0_choice.proofs.Tables.{each_among}
use Rattle.p0_choice.proofs.Tests.{each_at}
use Rattle.p2_input_method.specs.Rules.{mark_rules}
use Rattle.p2_input_method.specs.declared.InputMethod.{InputMethod}
use Rattle.p2_input_method.specs.declared.InputMethod.TheVariants.{Telex, Vni}
use Rattle.p2_input_method.specs.declared.MarkRule.{MarkRule}
use Rattle.p3_cells.specs.Cells.{blank, marks, is_cell, is_sound, used}
use Rattle.p3_cells.specs.Mirror.{cell_of, first_cells, places}
use Rattle.p3_cells.specs.declared.Cell.{Cell}
use Rattle.p3_cells.specs.declared.Composition.{Composition}
use Rattle.p3_cells.proofs.Holding.{used_cells}
use Rattle.p3_cells.proofs.Soundness.{cell_is}
use Rattle.p3_undo.specs.Mirror.{sign, signs, bearing, sign_cells}
use Rattle.p3_undo.specs.Undo.{last_with, has_tone, has_mark, rule_at, by_rules, tone_at, to_undo}
use Rattle.p3_undo.specs.declared.Undoing.{Undoing}

-- ---- the first i of a row are the cells' signs
unfoldable pub Signed : Composition → List ℕ → ℕ → Type 0
Signed c row i = take i row ≡ signs (first_cells c i)

pub signed_none : (c : Composition) (row : List ℕ) → Signed c row 0
unfolding Signed signs
signed_none c row = refl

pub signed_more : (c : Composition) (row : List ℕ) (i n v : ℕ) (x : Cell) → Signed c row i → x ≡ cell_of c i → v ≡ sign x
    → i < n → n ≤ length row → n ≤ places c → Signed c (set row i v) (i + 1)
unfolding Signed signs
signed_more c row i n v x e p q h k l =
    let a : i < length row = omega arith in
    let b : i < places c = omega arith in
    rw (add-one i, take-suc-set row i v a, take-suc c.cells i blank b, map-append sign (first_cells c i) (cell_of c i ∷ []), e, q, p) refl

-- a cell of those in use
pub signed_front : (c : Composition) (row : List ℕ) (i v : ℕ) → Signed c row i → v ≡ sign (get_or (take c.count c.cells) i blank)
    → i < length (take c.count c.cells) → c.count ≤ places c → c.count ≤ length row → Signed c (set row i v) (i + 1)
signed_front c row i v p q h k l =
    let n : length (take c.count c.cells) ≡ c.count = length-take-le c.count c.cells k in
    signed_more c row i c.count v (get_or (take c.count c.cells) i blank) p (get_or-take c.count c.cells i blank (omega arith)) q (omega arith) l k

pub signed_all : (c : Composition) (row : List ℕ) (i n : ℕ) → Signed c row i → i ≤ n → n ≤ i → take n row ≡ signs (first_cells c n)
unfolding Signed
signed_all c row i n e l h = let z : i ≡ n = omega arith in rw z at e

-- ---- what a finder reads
pub row_length : (row : List ℕ) → length (sign_cells row) ≡ length row
unfolding sign_cells
row_length row = length-map row bearing

pub row_at : (row : List ℕ) (i : ℕ) → get_or (sign_cells row) i blank ≡ bearing (get_or row i 0)
unfolding sign_cells
row_at row i = get_or-map bearing row i 0

-- ---- cells, and the row of their signs
last_same : (p : Cell → Bool) (cs ds : List Cell) (n : ℕ) → ((i : ℕ) → i < n → p (get_or cs i blank) ≡ p (get_or ds i blank))
    → last_with p cs n ≡ last_with p ds n
unfolding last_with
last_same p cs ds zero f = refl
last_same p cs ds (suc n) f = rw (f n (omega arith), last_same p cs ds n (λ i h. f i (omega arith))) refl

mark_small : (x : Cell) → is_cell x ≡ true → x.mark < 65536
unfolding marks word
mark_small x e =
    ⊎_elim (λ (h : x.mark ≡ 0). omega arith)
    (λ (h : (x.mark ≡ x.base) × (among x.mark marks ≡ true)).
    ltb-true x.mark 65536 (each_among (λ (m : ℕ). ltb m 65536) marks tt x.mark h.1))
    (cell_is x e).mark

module _ (cs : List Cell) (e : each is_cell cs ≡ true) where
  length_same : length (sign_cells (signs cs)) ≡ length cs
  unfolding signs
  length_same = row_length (signs cs) ∙ length-map cs sign

  -- a test of mark and tone alone
  test_same : (p : Cell → Bool) → ((x : Cell) → x.mark < 65536 → p (bearing (sign x)) ≡ p x)
      → last_with p (sign_cells (signs cs)) (length cs) ≡ last_with p cs (length cs)
  unfolding signs sign
  test_same p f =
      last_same p (sign_cells (signs cs)) cs (length cs)
      (λ i h. rw (row_at (signs cs) i, get_or-map sign cs i blank)
      (f (get_or cs i blank) (mark_small (get_or cs i blank) (each_at is_cell blank cs e i h))))

  tone_same : (t : ℕ) → last_with (has_tone t) (sign_cells (signs cs)) (length cs) ≡ last_with (has_tone t) cs (length cs)
  unfolding sign has_tone
  tone_same t = test_same (has_tone t) (λ x h. let d : (x.mark + x.tone * 65536) / 65536 ≡ x.tone = omega arith in rw d refl)

  mark_same : (m : ℕ) → last_with (has_mark m) (sign_cells (signs cs)) (length cs) ≡ last_with (has_mark m) cs (length cs)
  unfolding sign has_mark
  mark_same m = test_same (has_mark m) (λ x h.
      let d : (x.mark + x.tone * 65536) / 65536 ≡ x.tone = omega arith in
      let q : (x.mark + x.tone * 65536) % 65536 ≡ x.mark = omega arith in
      rw (d, q) refl)

  rules_same : (raw : List ℕ) (t : ℕ) (rs : List MarkRule) → by_rules (sign_cells (signs cs)) raw t rs ≡ by_rules cs raw t rs
  unfolding by_rules rule_at
  rules_same raw t [] = refl
  rules_same raw t (r ∷ rs) = rw (length_same, mark_same r.result, rules_same raw t rs) refl

  pub undo_same : (m : InputMethod) (raw : List ℕ) (t : ℕ) → to_undo m (sign_cells (signs cs)) raw t ≡ to_undo m cs raw t
  unfolding to_undo tone_at
  undo_same Telex raw t = rw (length_same, tone_same t, rules_same raw t (mark_rules Telex)) refl
  undo_same Vni raw t = refl

-- what the part of a row in use finds is what the cells in use do
pub row_finds : (c : Composition) → is_sound c ≡ true → (m : InputMethod) (row part raw : List ℕ) (t : ℕ) (u : Option Undoing)
    → m ≡ c.settings.method
    → take c.count row ≡ signs (first_cells c c.count) → part ≡ take (c.count - 0) (drop 0 row)
    → u ≡ to_undo m (sign_cells part) raw t → u ≡ to_undo c.settings.method (used c) raw t
unfolding used
row_finds c s m row part raw t u p f g h =
    let d : c.count - 0 ≡ c.count = omega arith in
    h ∙ rw (p, g, d, f) (undo_same (used c) (used_cells c s) c.settings.method raw t)

pub row_found : (c : Composition) → is_sound c ≡ true → (row raw : List ℕ) (t : ℕ) (u : Option Undoing)
    → take c.count row ≡ signs (first_cells c c.count) → u ≡ to_undo c.settings.method (sign_cells (take c.count row)) raw t
    → u ≡ to_undo c.settings.method (used c) raw t
row_found c s row raw t u f h =
    let d : c.count - 0 ≡ c.count = omega arith in
    row_finds c s c.settings.method row (take c.count row) raw t u refl f (rw d refl) h
