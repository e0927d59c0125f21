-- The trie of a node, in any table whose steps rise and whose counts are so (`Sound`).
use Prim.Native.Nat.{ℕ, zero, suc, max, ◌+◌, ◌≤◌, ◌<◌}
use mathlib.Core.Path.{◌≡◌, refl, sym, subst, ap₂, ◌∙◌}
use mathlib.Core.Logic.{⊎_elim}
use mathlib.Core.Bool.{Bool}
use native.Mathlib.Omega.{arith}
use borrow.Author.Tests.{lt-ltb, le-ltb}
use Rattle.p0_choice.proofs.Numbers.{below_or_not}
use Rattle.p5_trie.specs.Mirror.{Trie, none, node, one, trie_size, Table, grow, trie_at}
use Rattle.p5_trie.proofs.Tests.{depth}
use Rattle.p5_trie.proofs.Words.{size_node}
use Rattle.p5_trie.proofs.Following.{Live}

pub record SoundAt (t : Table) (e : ℕ) : Type 0 where
  pub down_rises : e < (t.at e).down
  pub down_within : (t.at e).down ≤ t.count
  pub next_rises : e < (t.at e).next
  pub next_within : (t.at e).next ≤ t.count
  pub words_are : (t.at e).words ≡ one (t.at e).ends + trie_size (trie_at t (t.at e).down)
  pub live : 0 < (t.at e).words

abbrev pub Sound : Table → Type 0
Sound t = (e : ℕ) → e < t.count → SoundAt t e

depth_none : depth none ≡ 0
unfolding depth
depth_none = refl

depth_node : (c : ℕ) (a : Bool) (d s : Trie) → depth (node c a d s) ≡ max (suc (depth d)) (depth s)
unfolding depth
depth_node c a d s = refl

module _ (t : Table) where
  grown : (k e : ℕ) → e < t.count
      → grow t (suc k) e ≡ node (t.at e).letter (t.at e).ends (grow t k (t.at e).down) (grow t k (t.at e).next)
  unfolding grow
  grown k e h = rw (lt-ltb e t.count h, grow) refl

  past : (k e : ℕ) → t.count ≤ e → grow t k e ≡ none
  unfolding grow
  past zero e h = refl
  past (suc k) e h = rw (le-ltb e t.count h, grow) refl

  pub at_none : (e : ℕ) → t.count ≤ e → trie_at t e ≡ none
  unfolding trie_at
  at_none e h = past t.count e h

  pub no_depth : (e : ℕ) → t.count ≤ e → depth (trie_at t e) ≡ 0
  no_depth e h = rw (at_none e h) depth_none

  module _ (s : Sound t) where
    -- a level more adds nothing once they reach the end
    stable : (k e : ℕ) → t.count ≤ k + e → grow t (suc k) e ≡ grow t k e
    stable zero e h = past 1 e (omega arith) ∙ sym (past zero e (omega arith))
    stable (suc k) e h =
        ⊎_elim
        (λ (l : e < t.count).
        grown (suc k) e l
        ∙ ap₂ (λ (d n : Trie). node (t.at e).letter (t.at e).ends d n)
        (stable k (t.at e).down (omega (arith, (s e l).down_rises)))
        (stable k (t.at e).next (omega (arith, (s e l).next_rises)))
        ∙ sym (grown k e l))
        (λ (l : t.count ≤ e). past (suc (suc k)) e l ∙ sym (past (suc k) e l))
        (below_or_not e t.count)

    pub opens : (e : ℕ) → e < t.count
        → trie_at t e ≡ node (t.at e).letter (t.at e).ends (trie_at t (t.at e).down) (trie_at t (t.at e).next)
    unfolding trie_at
    opens e h = sym (stable t.count e (omega arith)) ∙ grown t.count e h

    pub size_at : (e : ℕ) → e < t.count → trie_size (trie_at t e) ≡ (t.at e).words + trie_size (trie_at t (t.at e).next)
    size_at e h =
        rw (opens e h, (s e h).words_are)
        (size_node (t.at e).letter (t.at e).ends (trie_at t (t.at e).down) (trie_at t (t.at e).next))

    pub depth_at : (e : ℕ) → e < t.count
        → depth (trie_at t e) ≡ max (suc (depth (trie_at t (t.at e).down))) (depth (trie_at t (t.at e).next))
    depth_at e h =
        rw (opens e h) (depth_node (t.at e).letter (t.at e).ends (trie_at t (t.at e).down) (trie_at t (t.at e).next))

    -- a word goes through each node
    live_from : (k e : ℕ) → t.count ≤ k + e → Live (trie_at t e)
    live_from zero e h = subst Live (sym (at_none e (omega arith))) tt
    live_from (suc k) e h =
        ⊎_elim
        (λ (l : e < t.count).
        subst Live (sym (opens e l)) (
          omega (arith, (s e l).words_are, (s e l).live),
          (live_from k (t.at e).down (omega (arith, (s e l).down_rises)), live_from k (t.at e).next (omega (arith, (s e l).next_rises))),
        ))
        (λ (l : t.count ≤ e). subst Live (sym (at_none e l)) tt) (below_or_not e t.count)

    pub all_live : (e : ℕ) → Live (trie_at t e)
    all_live e = live_from t.count e (omega arith)
