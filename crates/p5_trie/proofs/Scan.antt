-- A scan: from node `from` a walk has passed nodes with letters below y, and through them most - left words, and stands at
-- node e, beside them.
use Prim.Native.Nat.{ℕ, ◌+◌, ◌-◌, ◌≤◌, ◌<◌}
use mathlib.Core.Path.{◌≡◌, refl, ◌∙◌}
use mathlib.Core.Logic.{◌⊎◌}
use mathlib.Core.Bool.{Bool}
use mathlib.Core.List.{List, ◌∷◌}
use native.Mathlib.Omega.{arith}
use borrow.Author.Tests.{lt-ltb}
use Rattle.p5_trie.specs.Mirror.{Trie, node, trie_size, nth, following, Table, trie_at}
use Rattle.p5_trie.proofs.Tests.{depth}
use Rattle.p5_trie.proofs.Words.{nth_past}
use Rattle.p5_trie.proofs.Table.{Sound, opens, size_at, depth_at}

pub record Passed (t : Table) (from y most e left : ℕ) : Type 0 where
  pub small : e ≤ t.count
  pub fits : left ≤ most
  pub following_is : (p w z : List ℕ) → following p (trie_at t from) (y ∷ w) z ≡ following p (trie_at t e) (y ∷ w) z
  pub nth_is : nth (trie_at t from) most ≡ nth (trie_at t e) left
  pub size_is : trie_size (trie_at t from) ≡ (most - left) + trie_size (trie_at t e)
  pub depth_is : depth (trie_at t e) ≤ depth (trie_at t from)

-- why it stops at node e
abbrev pub Halts : Table → ℕ → ℕ → ℕ → Type 0
Halts t y e left = (y ≤ (t.at e).letter) ⊎ (left < (t.at e).words)

pub begin : (t : Table) (from y most : ℕ) → from ≤ t.count → Passed t from y most from most
begin t from y most h = record {
  small = h;
  fits = omega arith;
  following_is = λ p w z. refl;
  nth_is = refl;
  size_is = omega arith;
  depth_is = omega arith;
}

following_past : (c : ℕ) (a : Bool) (d s : Trie) (p : List ℕ) (y : ℕ) (w z : List ℕ) → c < y
    → following p (node c a d s) (y ∷ w) z ≡ following p s (y ∷ w) z
unfolding following
following_past c a d s p y w z h = rw (lt-ltb c y h) refl

module _ (t : Table) (s : Sound t) (e : ℕ) (h : e < t.count) where
  past_following : (p : List ℕ) (y : ℕ) (w z : List ℕ) → (t.at e).letter < y
      → following p (trie_at t e) (y ∷ w) z ≡ following p (trie_at t (t.at e).next) (y ∷ w) z
  past_following p y w z l =
      rw (opens t s e h)
      (following_past (t.at e).letter (t.at e).ends (trie_at t (t.at e).down) (trie_at t (t.at e).next) p y w z l)

  past_nth : (k : ℕ) → (t.at e).words ≤ k → nth (trie_at t e) k ≡ nth (trie_at t (t.at e).next) (k - (t.at e).words)
  past_nth k l =
      rw (opens t s e h, (s e h).words_are)
      (nth_past (t.at e).letter (t.at e).ends (trie_at t (t.at e).down) (trie_at t (t.at e).next) k
      (omega (arith, (s e h).words_are)))

  -- node e is passed
  pub went_on : (from y most left : ℕ) → Passed t from y most e left → (t.at e).letter < y → (t.at e).words ≤ left
      → Passed t from y most (t.at e).next (left - (t.at e).words)
  went_on from y most left q l m = record {
    small = (s e h).next_within;
    fits = omega (arith, q.fits);
    following_is = λ p w z. q.following_is p w z ∙ past_following p y w z l;
    nth_is = q.nth_is ∙ past_nth left m;
    size_is = omega (arith, q.fits, q.size_is, size_at t s e h);
    depth_is = omega (arith, q.depth_is, depth_at t s e h);
  }
