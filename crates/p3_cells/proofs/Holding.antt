-- A sound composition is its cells in use: what it holds, and how a store, an append and a removal in the array change it.
use Prim.Native.Nat.{ℕ, zero, suc, ◌+◌, ◌-◌, ◌<◌, ◌≤◌}
use mathlib.Core.Path.{◌≡◌, refl, sym, ap, ◌∙◌}
use mathlib.Core.Bool.{true}
use mathlib.Core.List.{List, [], ◌∷◌, ◌++◌, append_assoc}
use native.Mathlib.Omega.{arith}
use lib.ListN.{length, get_or, take, drop, set, length-append, length-drop, length-take, length-set, take-append-drop}
use lib.ListN.{drop_of_length-le, get_or-append}
use lib.Seq.{length-take-le, take-append_seam, get_or-take, get_or-drop, get_or-append-add, ext_get_or}
use lib.Seq.{set-append_left, set-get_or, set-set, set_split, set_at}
use Rattle.p0_choice.specs.Choice.{each}
use Rattle.p3_cells.specs.Cells.{limit, blank, blanks, is_cell, is_sound, used, composed, holding}
use Rattle.p3_cells.specs.Mirror.{cell_of, with_cell, with_count, with_settings}
use Rattle.p3_cells.specs.declared.Cell.{Cell}
use Rattle.p3_cells.specs.declared.Composition.{Composition}
use Rattle.p3_cells.specs.declared.Settings.{Settings}
use Rattle.p0_choice.proofs.Tests.{each_at, at_each}
use Rattle.p3_cells.proofs.Soundness.{sound_is, is_sound_lem, cell_is, is_cell_lem, sound_length}

-- ---- blank cells
pub length_blanks : (n : ℕ) → length (blanks n) ≡ n
length_blanks zero = refl
length_blanks (suc n) = ap suc (length_blanks n)

pub blanks_at : (n i : ℕ) → get_or (blanks n) i blank ≡ blank
blanks_at zero i = refl
blanks_at (suc n) zero = refl
blanks_at (suc n) (suc i) = blanks_at n i

-- a list of blank cells
blanks_are : (xs : List Cell) (n : ℕ) → length xs ≡ n → ((i : ℕ) → i < n → get_or xs i blank ≡ blank) → xs ≡ blanks n
blanks_are xs n e f =
    ext_get_or blank xs (blanks n) (e ∙ sym (length_blanks n)) (λ i h. f i (omega arith) ∙ sym (blanks_at n i))

-- ---- the cells in use
pub used_count : (c : Composition) → c.count ≤ length c.cells → length (used c) ≡ c.count
unfolding used
used_count c h = length-take-le c.count c.cells h

pub used_few : (c : Composition) → length (used c) ≤ c.count
unfolding used
used_few c = omega (arith, length-take c.count c.cells)

pub used_at : (c : Composition) (i : ℕ) → i < c.count → get_or (used c) i blank ≡ cell_of c i
unfolding used
used_at c i h = get_or-take c.count c.cells i blank h

module _ (c : Composition) (s : is_sound c ≡ true) where
  pub count_fits : c.count ≤ limit
  count_fits = (sound_is c s).few

  pub cell_fits_lem : (i : ℕ) → i < c.count → is_cell (cell_of c i) ≡ true
  cell_fits_lem i h = is_cell_lem (cell_of c i) ((sound_is c s).in_use i h)

  pub used_length : length (used c) ≡ c.count
  used_length = used_count c (omega (arith, count_fits, sound_length c s))

  rest_blank : drop c.count c.cells ≡ blanks (limit - c.count)
  rest_blank =
      let h = count_fits in
      let n = sound_length c s in
      blanks_are (drop c.count c.cells) (limit - c.count) (rw length-drop (omega arith))
      (λ i l. rw get_or-drop ((sound_is c s).past (c.count + i) (omega arith) (omega arith)))

  -- the array is the cells in use, and blank cells
  parted : c.cells ≡ used c ++ blanks (limit - c.count)
  unfolding used
  parted = rw (← rest_blank) (sym (take-append-drop c.count c.cells))

  pub used_cells : each is_cell (used c) ≡ true
  used_cells = let u = used_length in at_each is_cell blank (used c) (λ i h. rw (used_at c i (omega arith)) (cell_fits_lem i (omega arith)))

-- ---- a composition of settings and cells
-- cells that are xs and blank ones
pub made : (z : Settings) (xs cells : List Cell) (k : ℕ) → cells ≡ xs ++ blanks (limit - k) → length xs ≡ k
    → record { cells = cells; settings = z; count = k } ≡ composed z xs
unfolding composed
made z xs cells k e l = rw (e, ← l) refl

pub settings_held : (z : Settings) (xs : List Cell) → (composed z xs).settings ≡ z
unfolding composed
settings_held z xs = refl

pub count_held : (z : Settings) (xs : List Cell) → (composed z xs).count ≡ length xs
unfolding composed
count_held z xs = refl

pub used_held : (z : Settings) (xs : List Cell) → used (composed z xs) ≡ xs
unfolding used composed
used_held z xs = take-append_seam xs (blanks (limit - length xs))

pub length_held : (z : Settings) (xs : List Cell) → length xs ≤ limit → length (composed z xs).cells ≡ limit
unfolding composed
length_held z xs h = rw (length-append, length_blanks) (omega arith)

pub composed_sound : (z : Settings) (xs : List Cell) → length xs ≤ limit → each is_cell xs ≡ true → is_sound (composed z xs) ≡ true
unfolding composed
composed_sound z xs h e =
    is_sound_lem (composed z xs) (record {
      whole = length_held z xs h;
      few = h;
      in_use = λ i l. rw (get_or-append xs (blanks (limit - length xs)) blank i l)
          (cell_is (get_or xs i blank) (each_at is_cell blank xs e i l));
      past = λ i l k. let d : i ≡ length xs + (i - length xs) = omega arith in
          rw (d, get_or-append-add) (blanks_at (limit - length xs) (i - length xs));
    })

-- ---- a cell of it, another one instead, and one more
pub cell_back : (c : Composition) (i : ℕ) → with_cell c i (cell_of c i) ≡ c
cell_back c i = rw (set-get_or c.cells i blank) refl

pub cell_again : (c : Composition) (i : ℕ) (x y : Cell) → with_cell (with_cell c i y) i x ≡ with_cell c i x
cell_again c i x y = rw (set-set c.cells i y x) refl

module _ (z : Settings) (xs : List Cell) where
  pub count_again : (n : ℕ) → length xs ≡ n → with_count (composed z xs) n ≡ composed z xs
  unfolding composed
  count_again n e = rw (← e) refl

  pub cell_held : (i : ℕ) → i < length xs → cell_of (composed z xs) i ≡ get_or xs i blank
  unfolding composed
  cell_held i h = get_or-append xs (blanks (limit - length xs)) blank i h

  pub composed_set : (i : ℕ) (x : Cell) → i < length xs → with_cell (composed z xs) i x ≡ composed z (set xs i x)
  unfolding composed
  composed_set i x h =
      made z (set xs i x) (set (xs ++ blanks (limit - length xs)) i x) (length xs)
      (set-append_left xs (blanks (limit - length xs)) i x h) (length-set xs i x)

  pub composed_append : (n : ℕ) (x : Cell) → length xs ≡ n → n < limit
      → with_count (with_cell (composed z xs) n x) (n + 1) ≡ composed z (xs ++ (x ∷ []))
  unfolding composed
  composed_append n x e h =
      let d : limit - length xs ≡ suc (limit - (n + 1)) = omega arith in
      made z (xs ++ (x ∷ [])) (set (xs ++ blanks (limit - length xs)) n x) (n + 1)
      (ap (λ (m : ℕ). set (xs ++ blanks m) n x) d ∙ set_at xs blank (blanks (limit - (n + 1))) x n e
      ∙ sym (append_assoc xs (x ∷ []) (blanks (limit - (n + 1)))))
      (rw length-append (omega arith))

module _ (c : Composition) (s : is_sound c ≡ true) where
  -- the same cells, under other settings
  pub holding_under : (z : Settings) → with_settings c z ≡ composed z (used c)
  holding_under z = made z (used c) c.cells c.count (parted c s) (used_length c s)

  pub holding_used : c ≡ holding c (used c)
  holding_used = holding_under c.settings

  -- another cell at a place in use
  pub holding_set : (i : ℕ) (x : Cell) → i < c.count → with_cell c i x ≡ holding c (set (used c) i x)
  holding_set i x h =
      ap (λ (d : Composition). with_cell d i x) holding_used ∙ composed_set c.settings (used c) i x (rw (used_length c s) h)

  -- one more cell
  pub holding_append : (x : Cell) → c.count < limit
      → with_count (with_cell c c.count x) (c.count + 1) ≡ holding c (used c ++ (x ∷ []))
  holding_append x h =
      ap (λ (d : Composition). with_count (with_cell d c.count x) (c.count + 1)) holding_used
      ∙ composed_append c.settings (used c) c.count x (used_length c s) h

  -- one cell less, "Removing the last cell blanks it."
  pub holding_less : 0 < c.count
      → with_count (with_cell c (c.count - 1) blank) (c.count - 1) ≡ holding c (take (c.count - 1) (used c))
  holding_less h =
      let u = used_length c s in
      let f = count_fits c s in
      let l : c.count - 1 < length (used c) = omega arith in
      let d : limit - (c.count - 1) ≡ suc (limit - c.count) = omega arith in
      let m : length (used c) ≤ suc (c.count - 1) = omega arith in
      let z : drop (suc (c.count - 1)) (used c) ≡ [] = drop_of_length-le (used c) m in
      made c.settings (take (c.count - 1) (used c)) (set c.cells (c.count - 1) blank) (c.count - 1)
      (ap (λ (l : List Cell). set l (c.count - 1) blank) (parted c s)
      ∙ set-append_left (used c) (blanks (limit - c.count)) (c.count - 1) blank l
      ∙ ap (λ (l : List Cell). l ++ blanks (limit - c.count))
      (set_split (used c) (c.count - 1) blank l ∙ ap (λ (l : List Cell). take (c.count - 1) (used c) ++ blank ∷ l) z)
      ∙ append_assoc (take (c.count - 1) (used c)) (blank ∷ []) (blanks (limit - c.count))
      ∙ ap (λ (m : ℕ). take (c.count - 1) (used c) ++ blanks m) (sym d))
      (length-take-le (c.count - 1) (used c) (omega arith))
