-- What the owner knows where it returns, and that its composition, answer and output are then those of the key call.
use Prim.Native.Nat.{ℕ, ◌+◌, ◌-◌, ◌≤◌, min}
use mathlib.Core.Path.{◌≡◌, refl, ap, ◌∙◌}
use mathlib.Core.Bool.{Bool, true, false}
use mathlib.Core.List.{List}
use native.Mathlib.Omega.{arith}
use lib.ListN.{length, take, drop}
use Rattle.p1_letters.specs.Alphabet.{ascii_lower}
use Rattle.p0_refusals.specs.Answers.{output}
use Rattle.p3_cells.specs.Cells.{limit, is_sound, used}
use Rattle.p3_cells.specs.Leaving.{leaving}
use Rattle.p3_cells.specs.declared.Cell.{Cell}
use Rattle.p3_cells.specs.declared.Composition.{Composition}
use Rattle.p3_cells.proofs.Holding.{count_fits}
use Rattle.p3_cells.proofs.SoundTest.{fits_from}
use Rattle.p3_cells.specs.Row.{bases}
use Rattle.p3_cells.specs.Mirror.{with_cell, with_count, row_cells, places}
use Rattle.p3_cells.proofs.Fill.{Filled, filled}
use Rattle.p3_step.specs.Mirror.{put, also_put}
use Rattle.p3_step.proofs.Makes.{stepped}
use Rattle.p3_key.specs.Process.{key_outcome, keyed}
use Rattle.p3_key.specs.Mirror.{sound_by, stroke_of}
use Rattle.p3_key.specs.declared.Stroke.{Stroke}
use Rattle.p3_key.proofs.Faults.{faults_by, sum_from, faults_sound}
use Rattle.p3_key.proofs.Letters.{letters_to}
use Rattle.p3_key.proofs.Right.{stroked, Right, stroke_right}

-- a sound composition's row is that of its cells in use
used_row : (c : Composition) (b : List ℕ) (u i : ℕ) → is_sound c ≡ true → u ≡ min c.count limit → Filled c b i → i ≤ u → u ≤ i
    → take (u - 0) (drop 0 b) ≡ bases (used c)
unfolding used
used_row c b u i s h f l g =
    let n = count_fits c s in
    let d : u - 0 ≡ i = omega arith in
    let e : i ≡ c.count = omega arith in
    rw (d, filled c b i f, e) refl

unsound : (m n : List Cell) (c : Composition) (key r : ℕ)
    → stroke_of false c.settings m key c.count r ≡ stroke_of false c.settings n key c.count r
unfolding stroke_of
unsound m n c key r = refl

-- the stroke: s is the answer of the soundness test, and the row has u bases
stroke_known : (c : Composition) (key : ℕ) (o b : List ℕ) (trusted s : Bool) (t w i u : ℕ) (e : Stroke)
    → places c ≡ limit → fits_from c 0 ≡ faults_by c t i → w ≡ sum_from c i
    → (trusted ≡ true → is_sound c ≡ true) → s ≡ sound_by trusted c.count (t + w)
    → u ≡ min c.count limit → Filled c b i → i ≤ u → u ≤ i
    → e ≡ stroke_of s c.settings (row_cells (take (u - 0) (drop 0 b))) key c.count (length o)
    → e ≡ stroke_of (is_sound c) c.settings (row_cells (bases (used c))) key c.count (length o)
stroke_known c key o b trusted s t w i u e n f l p q h g k m r =
    r ∙ ap (λ (v : Bool). stroke_of v c.settings (row_cells (take (u - 0) (drop 0 b))) key c.count (length o))
    (faults_sound c t w i u n h k m f l trusted s p q)
    ∙ go (is_sound c) refl
  where
    go : (v : Bool) → is_sound c ≡ v
        → stroke_of v c.settings (row_cells (take (u - 0) (drop 0 b))) key c.count (length o)
        ≡ stroke_of v c.settings (row_cells (bases (used c))) key c.count (length o)
    go true z = ap (λ (row : List ℕ). stroke_of true c.settings (row_cells row) key c.count (length o))
        (used_row c b u i z h g k m)
    go false z = unsound (row_cells (take (u - 0) (drop 0 b))) (row_cells (bases (used c))) c key (length o)

-- ---- the stores, and the text of the composition d after them
abbrev Stored : Composition → Stroke → Cell → Cell → Composition → Type 0
Stored c e q p d = d ≡ with_count (with_cell (with_cell c e.step.also q) e.step.at p) e.step.count

-- ---- the return; the row is what was lent
pub owner_right : (c d : Composition) (key : ℕ) (o out b row : List ℕ) (trusted s : Bool) (t t' i u k r : ℕ) (e : Stroke) (p q : Cell)
    → places c ≡ limit → fits_from c 0 ≡ faults_by c t i → t' ≡ sum_from c i
    → (trusted ≡ true → is_sound c ≡ true) → s ≡ sound_by trusted c.count (t + t')
    → u ≡ min c.count limit → Filled c b i → i ≤ u → u ≤ i
    → row ≡ take (u - 0) (drop 0 b) → e ≡ stroke_of s c.settings (row_cells row) key c.count (length o)
    → k ≡ ascii_lower key → p ≡ put e.step c key k → q ≡ also_put e.step c → Stored c e q p d
    → out ≡ letters_to c.settings key d r o → r ≤ e.letters → e.letters ≤ r
    → (record { comp = d; answer = e.answer } ≡ keyed c key (length o)) × (out ≡ output (key_outcome c key) o)
unfolding keyed leaving stepped
owner_right c d key o out b row trusted s t t' i u k r e p q n f l z y h g a v w x' m x x'' y'' y' r' r'' =
    let d' : r ≡ e.letters = omega arith in
    let known = stroke_known c key o b trusted s t t' i u e n f l z y h g a v (rw w at x') in
    let right : Right c key o e = rw known (stroke_right c key o) in
    let left : d ≡ stroked c e key = y'' ∙ rw (x'', x, m) refl in
    (rw left (λ δ. record { comp = right.comp δ; answer = right.told δ }), y' ∙ rw (left, d') right.out)
