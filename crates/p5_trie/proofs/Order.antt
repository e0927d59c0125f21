-- Dictionary order is strict, and two words that are at most each other are one.
use Prim.Native.Nat.{ℕ}
use mathlib.Core.Path.{◌≡◌}
use mathlib.Core.Logic.{inl, inr, ⊎_elim}
use mathlib.Core.List.{List, [], ◌∷◌}
use native.Mathlib.Omega.{arith}
use Rattle.p5_trie.specs.Order.{Before, AtMost}

pub before_one_way : (u w : List ℕ) → Before u w → Before w u → ⊥
before_one_way u [] p q = p
before_one_way [] (y ∷ w) p q = q
before_one_way (x ∷ u) (y ∷ w) p q =
    ⊎_elim (λ l. ⊎_elim (λ m. omega arith) (λ m. let e : y ≡ x = m.0 in omega arith) q)
    (λ l. ⊎_elim (λ m. let e : x ≡ y = l.0 in omega arith) (λ m. before_one_way u w l.1 m.1) q) p

pub not_after : (u w : List ℕ) → AtMost u w → Before w u → ⊥
not_after u w (inl p) q = before_one_way u w p q
not_after u w (inr e) q = before_one_way w u q (rw e (rw e at q))

pub at_most_both : (u w : List ℕ) → AtMost u w → AtMost w u → u ≡ w
at_most_both u w (inl p) q = absurd (not_after w u q p)
at_most_both u w (inr e) q = e
