-- Writing the letters of cells from the start of an output.
use Prim.Native.Nat.{ℕ, ◌+◌, ◌<◌}
use mathlib.Core.Path.{◌≡◌, refl}
use mathlib.Core.List.{List, ◌++◌, map}
use native.Mathlib.Numerals.{add-one}
use lib.ListN.{length, get_or, take, drop, set}
use mathlib.Core.Path.{sym, ap, ◌∙◌}
use native.Mathlib.Omega.{arith}
use Prim.Native.Nat.{◌≤◌}
use Rattle.p3_cells.specs.Cells.{blank}
use Rattle.p3_cells.specs.Text.{shown}
use Rattle.p3_cells.specs.Mirror.{first_cells, places}
use Rattle.p3_cells.specs.declared.Cell.{Cell}
use Rattle.p3_cells.specs.declared.Composition.{Composition}
use Rattle.p3_cells.specs.declared.Mode.TheVariants.{Vietnamese, English}
use Rattle.p3_cells.specs.declared.Settings.{Settings}
use Rattle.p3_cells.proofs.Text.{map_more}
use Rattle.std.proofs.Math.Seq.{take-length}
use Rattle.std.proofs.lemmas.List.{length-take, length-take-le}
use Rattle.p3_key.specs.Mirror.{letter_for}

pub letter_shown : (z : Settings) (key r : ℕ) (x : Cell) → z.mode ≡ Vietnamese → r ≡ shown z.capitals x → r ≡ letter_for z key x
unfolding letter_for
letter_shown z key r x e q = rw e q

pub letter_key : (z : Settings) (key : ℕ) (x : Cell) → z.mode ≡ English → key ≡ letter_for z key x
unfolding letter_for
letter_key z key x e = rw e refl

-- the first j letters are written
unfoldable pub letters_to : Settings → ℕ → Composition → ℕ → List ℕ → List ℕ
letters_to z key c j o = map (letter_for z key) (first_cells c j) ++ drop j o

-- of the first cells of a list, which are those of d in the end
unfoldable pub letters_in : Settings → ℕ → List Cell → ℕ → List ℕ → List ℕ
letters_in z key xs j o = map (letter_for z key) (take j xs) ++ drop j o

pub none_in : (z : Settings) (key : ℕ) (xs : List Cell) (o : List ℕ) → o ≡ letters_in z key xs 0 o
unfolding letters_in
none_in z key xs o = refl

pub more_in : (z : Settings) (key : ℕ) (ds : List Cell) (o out : List ℕ) (r j v : ℕ) → out ≡ letters_in z key (take r ds) j o
    → v ≡ letter_for z key (get_or (take r ds) j blank) → j < length (take r ds) → r ≤ length o
    → set out j v ≡ letters_in z key (take r ds) (j + 1) o
unfolding letters_in
more_in z key ds o out r j v e q h l =
    rw (e, q, add-one j) (map_more (letter_for z key) (take r ds) o j h (omega (arith, length-take r ds)))

pub all_in : (z : Settings) (key : ℕ) (d : Composition) (o out : List ℕ) (r j : ℕ) → out ≡ letters_in z key (take r d.cells) j o
    → r ≤ places d → j ≤ length (take r d.cells) → length (take r d.cells) ≤ j → out ≡ letters_to z key d r o
unfolding letters_in letters_to
all_in z key d o out r j e l h m =
    let n : length (take r d.cells) ≡ r = length-take-le r d.cells l in
    let i : j ≡ r = omega arith in
    let t : take r (take r d.cells) ≡ take r d.cells = ap (λ (n : ℕ). take n (take r d.cells)) (sym n) ∙ take-length (take r d.cells) in
    e ∙ rw (i, t) refl
