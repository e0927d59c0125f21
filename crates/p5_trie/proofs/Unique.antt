-- Whatever numbers the words of a property as demand 3 says numbers them in one way: each has one number, none stands
-- between neighbours, and two numberings have one total and name the same words. The word that follows is one too.
use Prim.Native.Nat.{ℕ, zero, suc, ◌≤◌, ◌<◌}
use mathlib.Core.Path.{◌≡◌, refl, sym, ap, ◌∙◌, subst}
use mathlib.Core.Logic.{⊎_elim}
use mathlib.Core.List.{List}
use native.Mathlib.Omega.{arith}
use Rattle.p0_choice.proofs.Numbers.{three_ways}
use Rattle.p5_trie.specs.Order.{Before}
use Rattle.p5_trie.specs.Numbering.{Found, Numbering, Many, Named, Unnamed, Follows, Last}
use Rattle.p5_trie.proofs.Order.{before_one_way, at_most_both}

never_self : (u : List ℕ) → Before u u → ⊥
never_self u b = before_one_way u u b b

module _ {P : List ℕ → Type 0} {f : ℕ → List ℕ} {total : ℕ} (p : Numbering P f total) where
  -- numbers go up exactly as the order does
  pub goes_up : (m n : ℕ) → m < total → n < total → Before (f m) (f n) → m < n
  goes_up m n hm hn b =
      ⊎_elim (λ l. l)
      (⊎_elim (λ e. absurd (never_self (f n) (subst (λ (k : ℕ). Before (f k) (f n)) e b)))
      (λ l. absurd (before_one_way (f m) (f n) b (p.ascends n m l hm)))) (three_ways m n)

  pub one_number : (m n : ℕ) → m < total → n < total → f m ≡ f n → m ≡ n
  one_number m n hm hn e =
      ⊎_elim (λ l. absurd (never_self (f n) (subst (λ (u : List ℕ). Before u (f n)) e (p.ascends m n l hn))))
      (⊎_elim (λ q. q) (λ l. absurd (never_self (f n) (subst (λ (u : List ℕ). Before (f n) u) e (p.ascends n m l hm))))) (three_ways m n)

  pub none_between : (n : ℕ) → suc n < total → (u : List ℕ) → P u → Before (f n) u → Before u (f (suc n)) → ⊥
  none_between n h u l a b =
      let r : Found f total u = p.every u l in
      let low : n < r.number = goes_up n r.number (omega arith) r.small (rw r.is a) in
      let high : r.number < suc n = goes_up r.number (suc n) r.small h (rw r.is b) in
      omega arith

-- a numbering's words have numbers in another, no lower ones
module _ {P : List ℕ → Type 0} {f g : ℕ → List ℕ} {m n : ℕ} (p : Numbering P f m) (q : Numbering P g n) where
  there : (k : ℕ) → k < m → Found g n (f k)
  there k h = q.every (f k) (p.names k h)

  rises : (j k : ℕ) (hj : j < m) (hk : k < m) → j < k → (there j hj).number < (there k hk).number
  rises j k hj hk l =
      let a : Found g n (f j) = there j hj in
      let b : Found g n (f k) = there k hk in
      goes_up q a.number b.number a.small b.small (rw (a.is, b.is) (p.ascends j k l hk))

  no_lower : (k : ℕ) (h : k < m) → k ≤ (there k h).number
  no_lower zero h = omega arith
  no_lower (suc k) h = omega (arith, rises k (suc k) (omega arith) h (omega arith), no_lower k (omega arith))

  no_more : m ≤ n
  no_more = go m refl
    where
      go : (k : ℕ) → k ≡ m → k ≤ n
      go zero e = omega arith
      go (suc k) e = omega (arith, no_lower k (omega arith), (there k (omega arith)).small)

-- "a lemma shows that no second answer fits"
module _ {P : List ℕ → Type 0} {f g : ℕ → List ℕ} {m n : ℕ} (p : Numbering P f m) (q : Numbering P g n) where
  pub one_total : m ≡ n
  one_total = omega (arith, no_more p q, no_more q p)

  pub one_numbering : (k : ℕ) → k < m → f k ≡ g k
  one_numbering k h =
      let a : Found g n (f k) = there p q k h in
      let b : Found f m (g a.number) = there q p a.number a.small in
      let e : b.number ≡ k = one_number p b.number k b.small h (b.is ∙ a.is) in
      let s : a.number ≡ k = omega (arith, no_lower p q k h, no_lower q p a.number a.small, e) in
      sym a.is ∙ ap g s

-- ---- the same of words by their numbers
module _ {P : List ℕ → Type 0} where
  pub one_many : (m n : ℕ) → Many P m → Many P n → m ≡ n
  one_many m n p q = one_total p.1 q.1

  pub has_name : (total : ℕ) → Many P total → (u : List ℕ) → P u → (n : ℕ) × Named P n u
  has_name total m u p =
      let r : Found m.0 total u = m.1.every u p in
      (r.number, record { order = m.0; total = total; numbers = m.1; small = r.small; is = r.is })

  pub name_has : (n : ℕ) (u : List ℕ) → Named P n u → P u
  name_has n u a = subst P a.is (a.numbers.names n a.small)

  module _ (m n : ℕ) (u v : List ℕ) (a : Named P m u) (b : Named P n v) where
    below : n < a.total
    below = omega (arith, b.small, one_total a.numbers b.numbers)

    there_too : a.order n ≡ v
    there_too = one_numbering a.numbers b.numbers n below ∙ b.is

    pub one_name : u ≡ v → m ≡ n
    one_name e = one_number a.numbers m n a.small below (a.is ∙ e ∙ sym there_too)

    pub names_ascend : m < n → Before u v
    names_ascend l = rw (← a.is, ← there_too) (a.numbers.ascends m n l below)

    pub no_name_between : suc m ≡ n → (x : List ℕ) → P x → Before u x → Before x v → ⊥
    no_name_between e x p l h =
        none_between a.numbers m (omega (arith, below)) x p (rw a.is l) (rw (e, there_too) h)

  pub one_named : (n : ℕ) (u v : List ℕ) → Named P n u → Named P n v → u ≡ v
  one_named n u v a b = sym a.is ∙ there_too n n u v a b

  pub named_or_not : (n : ℕ) (u : List ℕ) → Named P n u → Unnamed P n → ⊥
  named_or_not n u a b = omega (arith, a.small, b.past, one_total a.numbers b.many.1)

  pub one_follows : (w r s : List ℕ) → Follows P w r → Follows P w s → r ≡ s
  one_follows w r s p q = at_most_both r s (p.first s q.has q.after) (q.first r p.has p.after)

  pub follows_or_last : (w r : List ℕ) → Follows P w r → Last P w → ⊥
  follows_or_last w r p q = q r p.has p.after
