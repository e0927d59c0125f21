-- A matrix of row numbers as one of yes and no, which is what the code has. A row that it has not goes with none.
use Prim.Native.Nat.{ℕ, zero, suc, ◌+◌, ◌≤◌, ◌<◌}
use mathlib.Core.Path.{◌≡◌, refl, sym, ap, ◌∙◌}
use mathlib.Core.Bool.{Bool, true, false, ◌||◌}
use mathlib.Core.List.{List, [], ◌∷◌, map}
use mathlib.Core.Logic.{⊎_elim}
use native.Mathlib.Omega.{arith}
use lib.Dec.{T, leb}
use lib.ListN.{length, get_or}
use Rattle.std.specs.List.{list_any}
use Rattle.std.proofs.lemmas.List.Recursion.{or_at, or_from_places}
use Rattle.p0_choice.specs.Choice.{pick, among, from, each}
use Rattle.p0_choice.proofs.Numbers.{below_or_not}
use Rattle.p0_choice.proofs.Tables.{among_above, pick_first, pick_second}
use Rattle.p4_rows.specs.Lookup.{allows, allows_any, go_together}
use Rattle.p4_rows.specs.Rows.{onset_to_vowels, vowels_to_coda}
use Rattle.p4_rows.specs.Mirror.{entry, any_entry}

-- w columns wide
unfoldable pub yes_no : ℕ → List (List ℕ) → List (List Bool)
yes_no w g = map (λ (row : List ℕ). map (λ (j : ℕ). among j row) (from w 0)) g

column : (f : ℕ → Bool) (w k j x : ℕ) → k + j ≡ x → j < w → get_or (map f (from w k)) j false ≡ f x
column f zero k j x e h = absurd (omega arith)
column f (suc w) k zero x e h = let d : k ≡ x = omega arith in ap f d
column f (suc w) k (suc j) x e h = column f w (suc k) j x (omega arith) (omega arith)

no_column : (f : ℕ → Bool) (w k j : ℕ) → w ≤ j → get_or (map f (from w k)) j false ≡ false
no_column f zero k j h = refl
no_column f (suc w) k zero h = absurd (omega arith)
no_column f (suc w) k (suc j) h = no_column f w (suc k) j (omega arith)

module _ (n : ℕ) where
  -- n is the greatest number of each row
  abbrev pub Fits : List (List ℕ) → Type 0
  Fits g = T (each (λ (row : List ℕ). each (λ (y : ℕ). leb y n) row) g)

  -- so the matrix as yes and no says the same of any two rows
  told_as : (g : List (List ℕ)) → Fits g → (i j : ℕ) → entry (yes_no (suc n) g) i j ≡ allows g i j
  unfolding yes_no allows
  told_as [] t i j = refl
  told_as (row ∷ g) t zero j =
      ⊎_elim (λ h. column (λ (x : ℕ). among x row) (suc n) 0 j j (omega arith) h)
      (λ h. no_column (λ (x : ℕ). among x row) (suc n) 0 j h
      ∙ sym (among_above row n (rw (pick_first (each (λ (y : ℕ). leb y n) row) _ t) tt) j (omega arith)))
      (below_or_not j (suc n))
  told_as (row ∷ g) t (suc i) j = told_as g (pick_second (each (λ (y : ℕ). leb y n) row) _ t) i j

  either : (a b c d : Bool) → a ≡ b → c ≡ d → a || c ≡ pick b true d
  either true b c d e f = rw (← e)
  either false b c d e f = rw (← e) f

  row_told_as : (g : List (List ℕ)) → Fits g → (i : ℕ) (js : List ℕ) → list_any (entry (yes_no (suc n) g) i) js ≡ allows_any g i js
  unfolding allows_any
  row_told_as g t i [] = refl
  row_told_as g t i (j ∷ js) = either _ _ _ _ (told_as g t i j) (row_told_as g t i js)

  -- and of any two parts
  any_told_as : (g : List (List ℕ)) → Fits g → (is js : List ℕ) → any_entry (yes_no (suc n) g) is js ≡ go_together g is js
  unfolding go_together
  any_told_as g t [] js = refl
  any_told_as g t (i ∷ is) js = either _ _ _ _ (row_told_as g t i js) (any_told_as g t is js)

-- ---- a search by the code
module _ (p : ℕ → Bool) (xs : List ℕ) where
  pub none_told : ((k : ℕ) → k < length xs → p (get_or xs k 0) ≡ false) → list_any p xs ≡ false
  none_told h = or_from_places (list_any p) p refl (λ x xs. refl) xs 0 h

  pub one_told : (i : ℕ) → i < length xs → p (get_or xs i 0) ≡ true → list_any p xs ≡ true
  one_told i h e = or_at (list_any p) p refl (λ x xs. refl) xs i 0 h e

-- ---- the code's two matrices
module _ (is js : List ℕ) (r : Bool) where
  pub cv_told : r ≡ any_entry (yes_no 8 onset_to_vowels) is js → r ≡ go_together onset_to_vowels is js
  unfolding onset_to_vowels
  cv_told e = e ∙ any_told_as 7 onset_to_vowels tt is js

  pub vc_told : r ≡ any_entry (yes_no 5 vowels_to_coda) is js → r ≡ go_together vowels_to_coda is js
  unfolding vowels_to_coda
  vc_told e = e ∙ any_told_as 4 vowels_to_coda tt is js
