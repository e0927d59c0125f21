-- The last syllable: where the code finds its start, from the end of the row back.
use Prim.Native.Nat.{ℕ, zero, suc, ◌+◌, ◌-◌, ◌<◌, ◌≤◌}
use mathlib.Core.Path.{◌≡◌, refl, sym, ◌∙◌}
use mathlib.Core.Bool.{Bool, true, false}
use mathlib.Core.List.{List, [], ◌∷◌}
use native.Mathlib.Omega.{arith}
use lib.ListN.{length, get_or, drop, length-drop, drop_of_length-le}
use Rattle.p0_choice.specs.Choice.{pick}
use Rattle.p1_letters.specs.Alphabet.{is_separator}
use Rattle.p3_cells.specs.Cells.{blank}
use Rattle.p3_cells.specs.Text.{letter_of}
use Rattle.p3_cells.specs.declared.Cell.{Cell}
use Rattle.p3_cells.specs.Mirror.{row_cells}
use Rattle.p3_cells.specs.Mirror.{bare}
use Rattle.p3_cells.proofs.Row.{row_length, row_at, row_turn}
use Rattle.p3_tone.specs.TonePlace.{separates, any_separates, last_syllable, syllable_start}

-- ---- a separator
separates_bare : (x : ℕ) → is_separator x ≡ separates (bare x)
unfolding separates letter_of
separates_bare x = refl

-- ---- what follows the last one
pub neither : (a b : Bool) → pick a true b ≡ false → (a ≡ false) × (b ≡ false)
neither true b e = let z : ◌≡◌ {A = ℕ} 0 1 = cc in absurd (omega arith)
neither false b e = (refl, e)

pub either : (a b : Bool) → b ≡ true → pick a true b ≡ true
either true b e = refl
either false b e = e

any_at : (cs : List Cell) (i : ℕ) → i < length cs → separates (get_or cs i blank) ≡ true → any_separates cs ≡ true
unfolding any_separates
any_at [] i h e = absurd (omega arith)
any_at (x ∷ xs) zero h e = rw e refl
any_at (x ∷ xs) (suc i) h e = either (separates x) (any_separates xs) (any_at xs i (omega arith) e)

after_last : (cs : List Cell) (i : ℕ) → i < length cs → separates (get_or cs i blank) ≡ true → any_separates (drop (suc i) cs) ≡ false
    → last_syllable cs ≡ drop (suc i) cs
unfolding last_syllable
after_last [] i h e f = absurd (omega arith)
after_last (x ∷ xs) zero h e f = rw (f, e) refl
after_last (x ∷ xs) (suc i) h e f = rw (any_at xs i (omega arith) e) (after_last xs i (omega arith) e f)

pub whole : (cs : List Cell) → any_separates cs ≡ false → last_syllable cs ≡ cs
unfolding last_syllable any_separates
whole [] e = refl
whole (x ∷ xs) e = let q = neither (separates x) (any_separates xs) e in rw (q.1, q.0) refl

-- ---- the code's scan: there is no separator from i on
none_turn : (row : List ℕ) (i : ℕ) → i < length row
    → any_separates (drop i (row_cells row)) ≡ pick (separates (bare (get_or row i 0))) true (any_separates (drop (i + 1) (row_cells row)))
unfolding any_separates
none_turn row i h = rw (row_turn row i h) refl

pub none_yet : (row : List ℕ) → any_separates (drop (length row) (row_cells row)) ≡ false
unfolding any_separates
none_yet row =
    let l : length (row_cells row) ≤ length row = rw (row_length row) (omega arith) in rw (drop_of_length-le (row_cells row) l) refl

started : (row : List ℕ) (i : ℕ) → i ≤ length row → last_syllable (row_cells row) ≡ drop i (row_cells row) → i ≡ syllable_start (row_cells row)
unfolding syllable_start
started row i h e = rw (e, length-drop i (row_cells row), row_length row) (omega arith)

-- the place i is looked at
module _ (row : List ℕ) (i : ℕ) (e : any_separates (drop (i + 1) (row_cells row)) ≡ false) (h : i < length row) (v : Bool)
    (q : v ≡ is_separator (get_or row i 0)) where
  pub start_found : v ≡ true → i + 1 ≡ syllable_start (row_cells row)
  start_found t =
      let d : i + 1 ≡ suc i = omega arith in
      let l : i < length (row_cells row) = rw (row_length row) h in
      let s : separates (get_or (row_cells row) i blank) ≡ true = rw (row_at row i, ← separates_bare (get_or row i 0)) (sym q ∙ t) in
      started row (i + 1) (omega arith) (rw d (after_last (row_cells row) i l s (rw d at e)))

  pub start_on : v ≡ false → any_separates (drop i (row_cells row)) ≡ false
  start_on t = rw (none_turn row i h, ← separates_bare (get_or row i 0), ← q, t) e

pub start_whole : (row : List ℕ) (i : ℕ) → any_separates (drop i (row_cells row)) ≡ false → i ≤ 0 → 0 ≡ syllable_start (row_cells row)
start_whole row i e z =
    let d : i ≡ 0 = omega arith in started row 0 (omega arith) (whole (row_cells row) (rw d at e))

pub ruleset starts = (none_yet, start_found, start_on, start_whole)

-- the syllable is what stands from its start on
pub last_length : (cs : List Cell) → length (last_syllable cs) ≤ length cs
unfolding last_syllable
last_length [] = omega arith
last_length (x ∷ xs) = go (any_separates xs) (separates x) (last_length xs)
  where
    go : (a b : Bool) → length (last_syllable xs) ≤ length xs → length (pick a (last_syllable xs) (pick b xs (x ∷ xs))) ≤ suc (length xs)
    go true b h = omega arith
    go false true h = omega arith
    go false false h = omega arith

pub last_drop : (cs : List Cell) → last_syllable cs ≡ drop (syllable_start cs) cs
unfolding last_syllable syllable_start
last_drop [] = refl
last_drop (x ∷ xs) = go (any_separates xs) (separates x) (last_length xs) (last_drop xs)
  where
    go : (a b : Bool) → length (last_syllable xs) ≤ length xs → last_syllable xs ≡ drop (length xs - length (last_syllable xs)) xs
        → pick a (last_syllable xs) (pick b xs (x ∷ xs)) ≡ drop (suc (length xs) - length (pick a (last_syllable xs) (pick b xs (x ∷ xs))))
        (x ∷ xs)
    go true b h e = let d : suc (length xs) - length (last_syllable xs) ≡ suc (length xs - length (last_syllable xs)) = omega arith in rw d e
    go false true h e = let d : suc (length xs) - length xs ≡ 1 = omega arith in rw d refl
    go false false h e = let d : suc (length xs) - suc (length xs) ≡ 0 = omega arith in rw d refl
