-- Canonical equality on the alphabet: what is taken apart is apart, and no two letters are canonically equal.
use Prim.Native.Nat.{ℕ}
use mathlib.Core.Path.{◌≡◌, refl, sym, ap, ◌∙◌}
use mathlib.Core.Bool.{Bool, true, false}
use mathlib.Core.List.{List, [], ◌∷◌}
use native.Mathlib.Omega.{arith}
use lib.Dec.{eqb}
use borrow.Author.Tests.{eqb-true}
use Rattle.p0_choice.specs.Choice.{pick, each}
use Rattle.p0_choice.specs.Text.{word}
use Rattle.p1_letters.specs.Alphabet.{small_by32, small_by1, small_high, small_next, is_small, is_ascii_capital, is_capital, in_alphabet}
use Rattle.p1_letters.proofs.Alphabet.{every_letter}
use Rattle.p1_unicode.specs.Ucd.{Decomposition, decompositions, classes}
use Rattle.p1_unicode.specs.Canonical.{decomposition_in, decomposition_of, apart, class_in, class_of, reorderable, exchanged, run}
use Rattle.p1_unicode.specs.Canonical.{ordered, canonical, CanonicallyEqual}

-- two lists of the same code points
unfoldable pub same_list_lem : List ℕ → List ℕ → Bool
same_list_lem [] [] = true
same_list_lem [] (y ∷ ys) = false
same_list_lem (x ∷ xs) [] = false
same_list_lem (x ∷ xs) (y ∷ ys) = pick (eqb x y) (same_list_lem xs ys) false

pub same_list : (xs ys : List ℕ) → same_list_lem xs ys ≡ true → xs ≡ ys
unfolding same_list_lem
same_list [] [] e = refl
same_list [] (y ∷ ys) e = let z : ◌≡◌ {A = ℕ} 0 1 = cc in absurd (omega arith)
same_list (x ∷ xs) [] e = let z : ◌≡◌ {A = ℕ} 0 1 = cc in absurd (omega arith)
same_list (x ∷ xs) (y ∷ ys) e = go (eqb x y) refl e (same_list xs ys)
  where
    go : (b : Bool) → eqb x y ≡ b → pick b (same_list_lem xs ys) false ≡ true → (same_list_lem xs ys ≡ true → xs ≡ ys) → x ∷ xs ≡ y ∷ ys
    go true q h f = rw (eqb-true x y q, f h) refl
    go false q h f = let z : ◌≡◌ {A = ℕ} 0 1 = cc in absurd (omega arith)

-- four steps take every letter apart as far as it goes
pub apart_fully : (x : ℕ) → in_alphabet x ≡ true → each (λ (y : ℕ). eqb (decomposition_of y).second 0) (apart 4 x) ≡ true
unfolding small_by32 small_by1 small_high small_next is_small is_ascii_capital is_capital in_alphabet word decomposition_in decomposition_of apart
    decompositions
apart_fully x e = every_letter (λ (z : ℕ). each (λ (y : ℕ). eqb (decomposition_of y).second 0) (apart 4 z)) tt tt x e

-- the letter that decomposes into two code points, or 0
unfoldable join_in : List Decomposition → ℕ → ℕ → ℕ
join_in [] a b = 0
join_in (d ∷ ds) a b = elim (pick (eqb a d.first) (eqb b d.second) false) [ true ↦ d.code | false ↦ join_in ds a b ]

-- a letter put together again from its canonical form
unfoldable joined : ℕ → List ℕ → ℕ
joined x [] = x
joined x (y ∷ ys) = joined (join_in decompositions x y) ys

unfoldable together : List ℕ → ℕ
together [] = 0
together (x ∷ xs) = joined x xs

together_back : (x : ℕ) → in_alphabet x ≡ true → together (canonical (x ∷ [])) ≡ x
unfolding small_by32 small_by1 small_high small_next is_small is_ascii_capital is_capital in_alphabet word decomposition_in decomposition_of apart
    decompositions class_in class_of classes reorderable exchanged run ordered canonical join_in joined together
together_back x e = eqb-true (together (canonical (x ∷ []))) x (every_letter (λ (y : ℕ). eqb (together (canonical (y ∷ []))) y) tt tt x e)

pub letters_differ : (x y : ℕ) → in_alphabet x ≡ true → in_alphabet y ≡ true → CanonicallyEqual (x ∷ []) (y ∷ []) → x ≡ y
letters_differ x y d e h = sym (together_back x d) ∙ ap together h ∙ together_back y e
