-- A rule of a whole table, proved by one test that antt computes, and read off at each entry.
use mathlib.Core.Path.{◌≡◌, refl, sym, ap, ◌∙◌}
use mathlib.Core.Bool.{Bool, true, false}
use mathlib.Core.List.{List, [], ◌∷◌, ◌++◌, map}
use Prim.Native.Nat.{ℕ, zero, suc, ◌+◌, ◌≤◌, ◌<◌}
use native.Mathlib.Omega.{arith}
use lib.Dec.{T, eqb, leb}
use borrow.Author.Tests.{eqb-true, eqb-false, leb-true}
use Rattle.p0_choice.specs.Choice.{pick, among, each, from, same}

pub pick_first : (a b : Bool) → T (pick a b false) → a ≡ true
pick_first true b t = refl
pick_first false b t = absurd t

pub pick_second : (a b : Bool) → T (pick a b false) → T b
pick_second true b t = t
pick_second false b t = absurd t

-- what passes at each of a list passes at one that is among them
pub each_among : (p : ℕ → Bool) (ys : List ℕ) → T (each p ys) → (x : ℕ) → among x ys ≡ true → p x ≡ true
each_among p [] t x e = let z : ◌≡◌ {A = ℕ} 0 1 = cc in absurd (omega arith)
each_among p (y ∷ ys) t x e = go (eqb x y) refl e (each_among p ys (pick_second (p y) _ t) x)
  where
    go : (b : Bool) → eqb x y ≡ b → pick b true (among x ys) ≡ true → (among x ys ≡ true → p x ≡ true) → p x ≡ true
    go true q h f = ap p (eqb-true x y q) ∙ pick_first (p y) _ t
    go false q h f = f h

no : {m n : ℕ} (b : Bool) → (b ≡ true → n ≤ m) → m < n → b ≡ false
no true f h = absurd (omega (arith, f refl))
no false f h = refl

-- what passes at n numbers from i on passes at each of them
pub each_count : (p : ℕ → Bool) (n i : ℕ) → T (each p (from n i)) → (x : ℕ) → i ≤ x → x < i + n → p x ≡ true
each_count p zero i t x l h = absurd (omega arith)
each_count p (suc n) i t x l h =
    go (eqb i x) refl (λ (k : suc i ≤ x). each_count p n (suc i) (pick_second (p i) _ t) x k (omega arith))
  where
    go : (b : Bool) → eqb i x ≡ b → (suc i ≤ x → p x ≡ true) → p x ≡ true
    go true q f = ap p (sym (eqb-true i x q)) ∙ pick_first (p i) _ t
    go false q f = f (omega (arith, eqb-false i x q))

-- two tests that say the same are equal
pub same_true : (a b : Bool) → same a b ≡ true → a ≡ b
same_true true true e = refl
same_true true false e = sym e
same_true false true e = e
same_true false false e = refl

-- a number below, or above, every number of a list is not among them
pub among_below : (ys : List ℕ) (n : ℕ) → T (each (λ (y : ℕ). leb n y) ys) → (x : ℕ) → x < n → among x ys ≡ false
among_below ys n t x h = no (among x ys) (λ (e : among x ys ≡ true). leb-true n x (each_among (λ (y : ℕ). leb n y) ys t x e)) h

pub among_above : (ys : List ℕ) (n : ℕ) → T (each (λ (y : ℕ). leb y n) ys) → (x : ℕ) → n < x → among x ys ≡ false
among_above ys n t x h = no (among x ys) (λ (e : among x ys ≡ true). leb-true x n (each_among (λ (y : ℕ). leb y n) ys t x e)) h

-- ---- among the numbers of two lists, of a list that was mapped, of a run
pub among_left : (x : ℕ) (ys zs : List ℕ) → among x ys ≡ true → among x (ys ++ zs) ≡ true
among_left x [] zs e = let z : ◌≡◌ {A = ℕ} 0 1 = cc in absurd (omega arith)
among_left x (y ∷ ys) zs e = go (eqb x y) e (λ q. among_left x ys zs q)
  where
    go : (b : Bool) → pick b true (among x ys) ≡ true → (among x ys ≡ true → among x (ys ++ zs) ≡ true)
        → pick b true (among x (ys ++ zs)) ≡ true
    go true q f = refl
    go false q f = f q

pub among_right : (x : ℕ) (ys zs : List ℕ) → among x zs ≡ true → among x (ys ++ zs) ≡ true
among_right x [] zs e = e
among_right x (y ∷ ys) zs e = go (eqb x y) (among_right x ys zs e)
  where
    go : (b : Bool) → among x (ys ++ zs) ≡ true → pick b true (among x (ys ++ zs)) ≡ true
    go true q = refl
    go false q = q

pub among_map : (f : ℕ → ℕ) (x : ℕ) (ys : List ℕ) → among x ys ≡ true → among (f x) (map f ys) ≡ true
among_map f x [] e = let z : ◌≡◌ {A = ℕ} 0 1 = cc in absurd (omega arith)
among_map f x (y ∷ ys) e = go (eqb x y) refl (eqb (f x) (f y)) refl e (λ q. among_map f x ys q)
  where
    go : (b : Bool) → eqb x y ≡ b → (c : Bool) → eqb (f x) (f y) ≡ c → pick b true (among x ys) ≡ true
        → (among x ys ≡ true → among (f x) (map f ys) ≡ true) → pick c true (among (f x) (map f ys)) ≡ true
    go b p true r q g = refl
    go true p false r q g = absurd (eqb-false (f x) (f y) r (ap f (eqb-true x y p)))
    go false p false r q g = g q

pub among_count : (n i x : ℕ) → i ≤ x → x < i + n → among x (from n i) ≡ true
among_count zero i x l h = absurd (omega arith)
among_count (suc n) i x l h = go (eqb x i) refl (λ (k : suc i ≤ x). among_count n (suc i) x k (omega arith))
  where
    go : (b : Bool) → eqb x i ≡ b → (suc i ≤ x → among x (from n (suc i)) ≡ true) → pick b true (among x (from n (suc i))) ≡ true
    go true e f = refl
    go false e f = f (let d : (x ≡ i → ⊥) = eqb-false x i e in omega arith)
