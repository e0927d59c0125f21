-- The Canonical Ordering Algorithm (D109) on any sequence: nothing but Reorderable Pairs is exchanged, and none is left.
use Prim.Native.Nat.{ℕ, zero, suc, ◌+◌, ◌<◌, ◌≤◌}
use mathlib.Core.Path.{◌≡◌, refl, sym, ap, subst, ◌∙◌}
use mathlib.Core.Bool.{Bool, true, false}
use mathlib.Core.List.{List, [], ◌∷◌}
use native.Mathlib.Omega.{arith}
use lib.Dec.{ltb, eqb}
use lib.ListN.{length}
use borrow.Author.Tests.{lt-ltb, le-ltb, ltb-true, ltb-false, eqb-false, ne_eqb}
use Rattle.p0_choice.specs.Choice.{pick}
use Rattle.p0_choice.proofs.Tests.{both_are}
use Rattle.p1_unicode.specs.Canonical.{decomposed, class_of, reorderable, exchanged, run, ordered, canonical}

-- D108: "a Reorderable Pair, if ccc(A) > ccc(B) > 0"
abbrev pub Reorderable : ℕ → ℕ → Type 0
Reorderable a b = (class_of b < class_of a) × (0 < class_of b)

-- D109: "exchange the positions of the characters in each Reorderable Pair" ..
pub data Exchanges : List ℕ → List ℕ → Type 0 where
  nothing : {s : List ℕ} → Exchanges s s
  pair : {a b : ℕ} {s : List ℕ} → Reorderable a b → Exchanges (a ∷ (b ∷ s)) (b ∷ (a ∷ s))
  later : {a : ℕ} {s t : List ℕ} → Exchanges s t → Exchanges (a ∷ s) (a ∷ t)
  both : {s t u : List ℕ} → Exchanges s t → Exchanges t u → Exchanges s u

-- .. "until the sequence contains no more"
abbrev pub Settled : List ℕ → Type 0
Settled [] = Unit {0}
Settled (a ∷ []) = Unit {0}
Settled (a ∷ (b ∷ s)) = (Reorderable a b → ⊥) × Settled (b ∷ s)

-- ---- a pair
is_pair : (a b : ℕ) → reorderable a b ≡ true → Reorderable a b
unfolding reorderable
is_pair a b e = let h = both_are (ltb (class_of b) (class_of a)) (ltb 0 (class_of b)) e in (ltb-true _ _ h.0, ltb-true _ _ h.1)

no_pair : (a b : ℕ) → reorderable a b ≡ false → 0 < class_of b → class_of a ≤ class_of b
unfolding reorderable
no_pair a b e p = go (ltb (class_of b) (class_of a)) refl e
  where
    go : (t : Bool) → ltb (class_of b) (class_of a) ≡ t → pick t (ltb 0 (class_of b)) false ≡ false → class_of a ≤ class_of b
    go true q h = let z : true ≡ false = sym (lt-ltb 0 (class_of b) p) ∙ h in let y : ◌≡◌ {A = ℕ} 0 1 = cc in absurd (omega arith)
    go false q h = ltb-false (class_of b) (class_of a) q

-- ---- nothing but pairs is exchanged
exchanged_pairs : (x : ℕ) (ys : List ℕ) → Exchanges (x ∷ ys) (exchanged x ys)
unfolding exchanged
exchanged_pairs x [] = nothing
exchanged_pairs x (y ∷ ys) = go (reorderable x y) refl (exchanged_pairs x ys) (exchanged_pairs y ys)
  where
    go : (t : Bool) → reorderable x y ≡ t → Exchanges (x ∷ ys) (exchanged x ys) → Exchanges (y ∷ ys) (exchanged y ys)
        → Exchanges (x ∷ (y ∷ ys)) (elim t [ true ↦ y ∷ exchanged x ys | false ↦ x ∷ exchanged y ys ])
    go true e f g = both (pair (is_pair x y e)) (later f)
    go false e f g = later g

run_pairs : (s : List ℕ) → Exchanges s (run s)
unfolding run
run_pairs [] = nothing
run_pairs (x ∷ xs) = exchanged_pairs x xs

ordered_pairs : (n : ℕ) (s : List ℕ) → Exchanges s (ordered n s)
unfolding ordered
ordered_pairs zero s = nothing
ordered_pairs (suc n) s = both (run_pairs s) (ordered_pairs n (run s))

-- ---- none is left
-- how many of the marks since the last character of class 0 have a class greater than k; and one character on
abbrev Greater : Type 0
Greater = ℕ → ℕ

abbrev none : Greater
none k = 0

abbrev push : ℕ → Greater → Greater
push c g k = pick (ltb k c) 1 0 + g k

abbrev after : Greater → ℕ → Greater
after g x = pick (eqb (class_of x) 0) none (push (class_of x) g)

-- each mark of the sequence has at most n of them before it
abbrev Within : ℕ → Greater → List ℕ → Type 0
Within n g [] = Unit {0}
Within n g (x ∷ xs) = (0 < class_of x → g (class_of x) ≤ n) × Within n (after g x) xs

after_mark : (g : Greater) (x : ℕ) → 0 < class_of x → after g x ≡ push (class_of x) g
after_mark g x p = rw (ne_eqb (class_of x) 0 (omega arith)) refl

-- a mark counts among those before a lesser one
after_less : (g : Greater) (x k : ℕ) → k < class_of x → after g x k ≡ suc (g k)
after_less g x k h = ap (λ (u : Greater). u k) (after_mark g x (omega arith)) ∙ rw (lt-ltb k (class_of x) h) (omega arith)

after_none : (g : Greater) (x k : ℕ) → class_of x ≤ k → (0 < class_of x → g k ≡ 0) → after g x k ≡ 0
after_none g x k l f = go (eqb (class_of x) 0) refl
  where
    go : (t : Bool) → eqb (class_of x) 0 ≡ t → pick t none (push (class_of x) g) k ≡ 0
    go true e = refl
    go false e = rw (le-ltb k (class_of x) l, f (omega (arith, eqb-false (class_of x) 0 e))) refl

after_swap : (g : Greater) (x y : ℕ) → 0 < class_of x → 0 < class_of y → after (after g x) y ≡ after (after g y) x
after_swap g x y p q =
    after_mark (after g x) y q
    ∙ ap (push (class_of y)) (after_mark g x p)
    ∙ (λ i k. at k i)
    ∙ sym (after_mark (after g y) x p ∙ ap (push (class_of x)) (after_mark g y q))
  where
    at : (k : ℕ) → push (class_of y) (push (class_of x) g) k ≡ push (class_of x) (push (class_of y) g) k
    at k = omega arith

after_most : (g : Greater) (x m : ℕ) → ((k : ℕ) → g k ≤ m) → (k : ℕ) → after g x k ≤ suc m
after_most g x m f k = go (eqb (class_of x) 0)
  where
    one : (t : Bool) → pick t 1 0 + g k ≤ suc m
    one true = omega (arith, f k)
    one false = omega (arith, f k)

    go : (t : Bool) → pick t none (push (class_of x) g) k ≤ suc m
    go true = omega arith
    go false = one (ltb k (class_of x))

-- one run: the greatest mark so far is carried on, and passes each mark that has a greater one before it
exchanged_within : (n : ℕ) (ys : List ℕ) (x : ℕ) (g : Greater) → (0 < class_of x → (k : ℕ) → class_of x ≤ k → g k ≡ 0)
    → Within (suc n) (after g x) ys → Within n g (exchanged x ys)
unfolding exchanged
exchanged_within n [] x g f h = (λ p. omega (arith, f p (class_of x) (omega arith)), tt)
exchanged_within n (y ∷ ys) x g f h = go (reorderable x y) refl (exchanged_within n ys)
  where
    go : (t : Bool) → reorderable x y ≡ t
        → ((z : ℕ) (u : Greater) → (0 < class_of z → (k : ℕ) → class_of z ≤ k → u k ≡ 0) → Within (suc n) (after u z) ys
        → Within n u (exchanged z ys))
        → Within n g (elim t [ true ↦ y ∷ exchanged x ys | false ↦ x ∷ exchanged y ys ])
    go true e rec =
        let r = is_pair x y e in (
          λ q. omega (arith, h.0 q, after_less g x (class_of y) r.0),
          rec x (after g y) (λ p k l. after_none g y k (omega arith) (λ q. f p k l))
              (subst (λ (u : Greater). Within (suc n) u ys) (after_swap g x y (omega arith) r.1) h.1),
        )
    go false e rec = (
      λ p. omega (arith, f p (class_of x) (omega arith)),
      rec y (after g x) (λ q k l. after_none g x k (omega (arith, no_pair x y e q)) (λ p. f p k (omega (arith, no_pair x y e q)))) h.1,
    )

run_within : (n : ℕ) (s : List ℕ) → Within (suc n) none s → Within n none (run s)
unfolding run
run_within n [] h = tt
run_within n (x ∷ xs) h = exchanged_within n xs x none (λ p k l. refl) h.1

-- as many runs as there are characters are enough
all_within : (s : List ℕ) (m n : ℕ) (g : Greater) → ((k : ℕ) → g k ≤ m) → m + length s ≤ n → Within n g s
all_within [] m n g f l = tt
all_within (x ∷ xs) m n g f l = (λ p. omega (arith, f (class_of x)), all_within xs (suc m) n (after g x) (after_most g x m f) (omega arith))

settled : (s : List ℕ) (g : Greater) → Within 0 g s → Settled s
settled [] g h = tt
settled (x ∷ []) g h = tt
settled (x ∷ (y ∷ ys)) g h =
    (λ r. omega (arith, h.1.0 r.1, after_less g x (class_of y) r.0), settled (y ∷ ys) (after g x) h.1)

ordered_settled : (n : ℕ) (s : List ℕ) → Within n none s → Settled (ordered n s)
unfolding ordered
ordered_settled zero s h = settled s none h
ordered_settled (suc n) s h = ordered_settled n (run s) (run_within n s h)

-- a canonical form is the Canonical Ordering of the decomposed sequence
pub canonical_order : (s : List ℕ) → Exchanges (decomposed s) (canonical s) × Settled (canonical s)
unfolding canonical
canonical_order s =
    let n = length (decomposed s) in
    (ordered_pairs n (decomposed s), ordered_settled n (decomposed s) (all_within (decomposed s) 0 n none (λ k. omega arith) (omega arith)))
