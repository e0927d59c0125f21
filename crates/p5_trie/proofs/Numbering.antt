-- A trie that holds the words of a property, and no others, with letters that ascend, numbers them; the word at number
-- `up_to t w` follows w.
use Prim.Native.Nat.{ℕ, ◌+◌, ◌-◌, ◌≤◌, ◌<◌}
use mathlib.Core.Path.{◌≡◌, refl, ap, subst}
use mathlib.Core.Logic.{inl, inr, ⊎_elim}
use mathlib.Core.Bool.{Bool, true, false, ◌||◌}
use mathlib.Core.List.{List, [], ◌∷◌}
use native.Mathlib.Omega.{arith}
use lib.Dec.{T}
use borrow.Author.Tests.{eq-eqb, ne_eqb}
use Rattle.p0_choice.proofs.Numbers.{below_or_not}
use Rattle.p5_trie.specs.Order.{Before, AtMost}
use Rattle.p5_trie.specs.Mirror.{Trie, none, node, one, trie_size, nth, up_to}
use Rattle.p5_trie.specs.Numbering.{Found, Numbering, Many, Follows, Last}
use Rattle.p5_trie.proofs.Tests.{ends_here, in_trie}
use Rattle.p5_trie.proofs.Order.{not_after}
use Rattle.p5_trie.proofs.Words.{Sorted, Headed, Numbered, size_none, size_node, nth_end, nth_into, nth_past, headed, cuts, up_to_nth}
use Rattle.p5_trie.proofs.Words.{numbered}

-- ---- the word of a number is held
pub or_left : (a b : Bool) → T a → T (a || b)
or_left true b t = tt
or_left false b t = absurd t

pub or_right : (a b : Bool) → T b → T (a || b)
or_right true b t = tt
or_right false b t = t

module _ (c : ℕ) (a : Bool) (d s : Trie) where
  holds_end : T a → T (in_trie (node c a d s) (c ∷ []))
  unfolding in_trie
  holds_end t = rw (eq-eqb c c refl, in_trie) (or_left a (in_trie d []) t)

  holds_into : (w : List ℕ) → T (in_trie d w) → T (in_trie (node c a d s) (c ∷ w))
  unfolding in_trie
  holds_into w t = rw (eq-eqb c c refl, in_trie) (or_right (ends_here w a) (in_trie d w) t)

  holds_past : (x : ℕ) (w : List ℕ) → c < x → T (in_trie s (x ∷ w)) → T (in_trie (node c a d s) (x ∷ w))
  unfolding in_trie
  holds_past x w l t = rw (ne_eqb c x (λ (e : c ≡ x). omega arith), in_trie) t

some : (b : Bool) (n : ℕ) → n < one b → T b
some true n l = tt
some false n l = absurd (omega arith)

beside : (c : ℕ) (a : Bool) (d s : Trie) (v : List ℕ) → Headed c v → T (in_trie s v) → T (in_trie (node c a d s) v)
beside c a d s v r t = rw r.is (holds_past c a d s r.head r.tail r.above (rw r.is at t))

pub nth_held : (t : Trie) → Sorted t → (n : ℕ) → n < trie_size t → T (in_trie t (nth t n))
nth_held none o n h = absurd (let z : trie_size none ≡ 0 = size_none in omega arith)
nth_held (node c a d s) o n h =
    ⊎_elim (λ l. rw (nth_end c a d s n l) (holds_end c a d s (some a n l)))
    (λ l.
    ⊎_elim (λ m. rw (nth_into c a d s n l m) (holds_into c a d s (nth d (n - one a)) (nth_held d o.1.0 (n - one a) (omega arith))))
    (λ m.
    let k : n - (one a + trie_size d) < trie_size s = omega (arith, size_node c a d s) in
    rw (nth_past c a d s n m)
    (beside c a d s (nth s (n - (one a + trie_size d))) (headed c s o.0 o.1.1 _ k)
    (nth_held s o.1.1 (n - (one a + trie_size d)) k)))
    (below_or_not n (one a + trie_size d)))
    (below_or_not n (one a))

-- ---- the trie holds the words of the property, and no others
pub record Lists (P : List ℕ → Type 0) (t : Trie) : Type 0 where
  pub sorted : Sorted t
  pub only : (u : List ℕ) → T (in_trie t u) → P u
  pub all : (u : List ℕ) → P u → T (in_trie t u)

module _ {P : List ℕ → Type 0} {t : Trie} (l : Lists P t) where
  found : (u : List ℕ) → P u → Found (nth t) (trie_size t) u
  found u p = let r : Numbered t u = numbered t u (l.all u p) in record { number = r.number; small = r.small; is = r.is }

  pub numbering : Numbering P (nth t) (trie_size t)
  numbering = record {
    names = λ n h. l.only (nth t n) (nth_held t l.sorted n h);
    ascends = λ m n k h. (cuts t l.sorted (nth t m) n h).high (omega (arith, up_to_nth t l.sorted m (omega arith)));
    every = found;
  }

  pub many : (n : ℕ) → trie_size t ≡ n → Many P n
  many n e = (nth t, subst (Numbering P (nth t)) e numbering)

  -- a word of the property after w has a number from `up_to t w` on
  from_up_to : (w u : List ℕ) (r : Found (nth t) (trie_size t) u) → Before w u → up_to t w ≤ r.number
  from_up_to w u r b =
      ⊎_elim (λ k. absurd (not_after (nth t r.number) w ((cuts t l.sorted w r.number r.small).low k) (rw r.is b)))
      (λ k. k) (below_or_not r.number (up_to t w))

  at_most : (n : ℕ) (u : List ℕ) (r : Found (nth t) (trie_size t) u) → n ≤ r.number → AtMost (nth t n) u
  at_most n u r h =
      subst (λ (v : List ℕ). AtMost (nth t n) v) r.is
      (⊎_elim (λ k. inl (numbering.ascends n r.number k r.small)) (λ k. inr (ap (nth t) (omega arith))) (below_or_not n r.number))

  pub follows : (w : List ℕ) → up_to t w < trie_size t → Follows P w (nth t (up_to t w))
  follows w h = record {
    has = numbering.names (up_to t w) h;
    after = (cuts t l.sorted w (up_to t w) h).high (omega arith);
    first = λ u p b. at_most (up_to t w) u (found u p) (from_up_to w u (found u p) b);
  }

  pub last : (w : List ℕ) → trie_size t ≤ up_to t w → Last P w
  last w h u p b =
      let r : Found (nth t) (trie_size t) u = found u p in
      omega (arith, from_up_to w u r b, r.small)
