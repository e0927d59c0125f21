-- The walk that finds the next word: i letters of w are followed to node e; should nothing after w lie there, the next word
-- begins with `at` letters of w and goes on at node `back`.
use Prim.Native.Nat.{ℕ, suc, ◌+◌, ◌≤◌, ◌<◌}
use mathlib.Core.Path.{◌≡◌, refl, sym, ap, ◌∙◌}
use mathlib.Core.Logic.{⊎_elim}
use mathlib.Core.Bool.{Bool}
use mathlib.Core.List.{List, [], ◌∷◌, ◌++◌}
use native.Mathlib.Omega.{arith}
use native.Mathlib.Numerals.{add-one}
use lib.ListN.{length, take, drop, get_or}
use lib.Seq.{take-suc, drop-cons, drop-length}
use borrow.Author.Tests.{le-ltb, eq-eqb, ne_eqb}
use Rattle.p0_choice.proofs.Numbers.{below_or_not}
use Rattle.p5_trie.specs.Mirror.{Trie, none, node, trie_size, nth, up_to, first_or, following, Table, trie_at}
use Rattle.p5_trie.proofs.Tests.{depth}
use Rattle.p5_trie.proofs.Words.{nth_some}
use Rattle.p5_trie.proofs.Following.{number_or, number_is, number_none, following_is}
use Rattle.p5_trie.proofs.Table.{Sound, opens, at_none, no_depth, size_at, depth_at, all_live}
use Rattle.p5_trie.proofs.Scan.{Passed, Halts}

first_none : (p z : List ℕ) → first_or p none z ≡ z
unfolding first_or
first_none p z = refl

first_node : (p : List ℕ) (c : ℕ) (a : Bool) (d s : Trie) (z : List ℕ) → first_or p (node c a d s) z ≡ p ++ nth (node c a d s) 0
unfolding first_or
first_node p c a d s z = refl

following_none : (p w z : List ℕ) → following p none w z ≡ z
unfolding following
following_none p w z = refl

following_end : (p : List ℕ) (t : Trie) (z : List ℕ) → following p t [] z ≡ first_or p t z
unfolding following first_or
following_end p none z = refl
following_end p (node c a d s) z = refl

module _ (p : List ℕ) (c : ℕ) (a : Bool) (d s : Trie) (y : ℕ) (w z : List ℕ) where
  following_into : c ≡ y → following p (node c a d s) (y ∷ w) z ≡ following (p ++ (c ∷ [])) d w (first_or p s z)
  unfolding following
  following_into h = rw (le-ltb c y (omega arith), eq-eqb c y h) refl

  following_stop : y < c → following p (node c a d s) (y ∷ w) z ≡ first_or p (node c a d s) z
  unfolding following
  following_stop h = rw (le-ltb c y (omega arith), ne_eqb c y (λ e. omega arith)) refl

pub record Turning (t : Table) (root most : ℕ) (w : List ℕ) (e i back at : ℕ) : Type 0 where
  pub small : e ≤ t.count
  pub back_small : back ≤ t.count
  pub within : i ≤ length w
  pub at_within : at ≤ i
  pub few : trie_size (trie_at t e) ≤ most
  pub deep : i + depth (trie_at t e) ≤ depth (trie_at t root)
  pub back_deep : at + depth (trie_at t back) ≤ depth (trie_at t root)
  pub is : following [] (trie_at t root) w [] ≡ following (take i w) (trie_at t e) (drop i w) (first_or (take at w) (trie_at t back) [])

-- the next word is `at` letters of w and the first word of node b, or there is none
pub record Turned (t : Table) (root : ℕ) (w : List ℕ) (b at : ℕ) : Type 0 where
  pub small : b ≤ t.count
  pub within : at ≤ length w
  pub deep : at + depth (trie_at t b) ≤ depth (trie_at t root)
  pub is : following [] (trie_at t root) w [] ≡ first_or (take at w) (trie_at t b) []

pub start : (t : Table) (root most : ℕ) (w : List ℕ) → root ≤ t.count → trie_size (trie_at t root) ≤ most
    → Turning t root most w root 0 t.count 0
start t root most w h f = record {
  small = h;
  back_small = omega arith;
  within = omega arith;
  at_within = omega arith;
  few = f;
  deep = omega arith;
  back_deep = omega (arith, no_depth t t.count (omega arith));
  is =
      ap (λ (z : List ℕ). following [] (trie_at t root) w z)
      (sym (ap (λ (u : Trie). first_or [] u []) (at_none t t.count (omega arith)) ∙ first_none [] []));
}

-- a node's first word, whatever the answer for none
first_at : (t : Table) → Sound t → (p : List ℕ) (b : ℕ) (z : List ℕ) → b < t.count → first_or p (trie_at t b) z ≡ p ++ nth (trie_at t b) 0
first_at t s p b z h =
    rw (opens t s b h) (first_node p (t.at b).letter (t.at b).ends (trie_at t (t.at b).down) (trie_at t (t.at b).next) z)

module _ {t : Table} {root most : ℕ} {w : List ℕ} {e i back at : ℕ} (k : Turning t root most w e i back at) (s : Sound t) where
  -- what is kept for the case that nothing lies further on
  abbrev kept : List ℕ
  kept = first_or (take at w) (trie_at t back) []

  pub ended_back : t.count ≤ e → Turned t root w back at
  ended_back h = record {
    small = k.back_small;
    within = omega (arith, k.at_within, k.within);
    deep = k.back_deep;
    is = k.is ∙ ap (λ (u : Trie). following (take i w) u (drop i w) kept) (at_none t e h) ∙ following_none (take i w) (drop i w) kept;
  }

  -- w is followed to its end
  pub ended_here : i ≡ length w → e < t.count → Turned t root w e i
  ended_here z h = record {
    small = k.small;
    within = k.within;
    deep = k.deep;
    is =
        k.is ∙ ap (λ (v : List ℕ). following (take i w) (trie_at t e) v kept) (ap (λ (n : ℕ). drop n w) z ∙ drop-length w)
        ∙ following_end (take i w) (trie_at t e) kept ∙ first_at t s (take i w) e kept h ∙ sym (first_at t s (take i w) e [] h);
  }

  -- a scan for the word's letter stops at node b
  module _ (l : i < length w) {b rest : ℕ} (q : Passed t e (get_or w i 0) most b rest) where
    scanned : following [] (trie_at t root) w [] ≡ following (take i w) (trie_at t b) (get_or w i 0 ∷ drop (suc i) w) kept
    scanned =
        k.is ∙ ap (λ (v : List ℕ). following (take i w) (trie_at t e) v kept) (drop-cons w i 0 l)
        ∙ q.following_is (take i w) (drop (suc i) w) kept

    -- no letter beside is the word's or a higher one
    pub none_there : t.count ≤ b → Turned t root w back at
    none_there h = record {
      small = k.back_small;
      within = omega (arith, k.at_within, k.within);
      deep = k.back_deep;
      is =
          scanned ∙ ap (λ (u : Trie). following (take i w) u (get_or w i 0 ∷ drop (suc i) w) kept) (at_none t b h)
          ∙ following_none (take i w) (get_or w i 0 ∷ drop (suc i) w) kept;
    }

    module _ (h : b < t.count) where
      opened : following [] (trie_at t root) w []
          ≡ following (take i w) (node (t.at b).letter (t.at b).ends (trie_at t (t.at b).down) (trie_at t (t.at b).next))
          (get_or w i 0 ∷ drop (suc i) w) kept
      opened = scanned ∙ ap (λ (u : Trie). following (take i w) u (get_or w i 0 ∷ drop (suc i) w) kept) (opens t s b h)

      pub stopped_there : get_or w i 0 < (t.at b).letter → Turned t root w b i
      stopped_there m = record {
        small = omega arith;
        within = k.within;
        deep = omega (arith, k.deep, q.depth_is);
        is =
            opened
            ∙ following_stop (take i w) (t.at b).letter (t.at b).ends (trie_at t (t.at b).down) (trie_at t (t.at b).next) (get_or w i 0)
            (drop (suc i) w) kept m
            ∙ ap (λ (u : Trie). first_or (take i w) u kept) (sym (opens t s b h))
            ∙ first_at t s (take i w) b kept h ∙ sym (first_at t s (take i w) b [] h);
      }

      module _ (halts : Halts t (get_or w i 0) b rest) (m : (t.at b).letter ≤ get_or w i 0) where
        -- there are no more words than `most`: too few were not why it stopped
        equal : (t.at b).letter ≡ get_or w i 0
        equal =
            ⊎_elim (λ (g : get_or w i 0 ≤ (t.at b).letter). omega arith)
            (λ (g : rest < (t.at b).words). absurd (omega (arith, q.size_is, q.fits, k.few, size_at t s b h)))
            halts

        into : following [] (trie_at t root) w []
            ≡ following (take (i + 1) w) (trie_at t (t.at b).down) (drop (i + 1) w) (first_or (take i w) (trie_at t (t.at b).next) kept)
        into =
            opened
            ∙ following_into (take i w) (t.at b).letter (t.at b).ends (trie_at t (t.at b).down) (trie_at t (t.at b).next) (get_or w i 0)
            (drop (suc i) w) kept equal
            ∙ ap
            (λ (p : List ℕ). following p (trie_at t (t.at b).down) (drop (suc i) w) (first_or (take i w) (trie_at t (t.at b).next) kept))
            (ap (λ (x : ℕ). take i w ++ (x ∷ [])) equal ∙ sym (take-suc w i 0 l))
            ∙ ap
            (λ (n : ℕ). following (take n w) (trie_at t (t.at b).down) (drop n w) (first_or (take i w) (trie_at t (t.at b).next) kept))
            (sym (add-one i))

        few_down : trie_size (trie_at t (t.at b).down) ≤ most
        few_down = omega (arith, q.size_is, k.few, size_at t s b h, (s b h).words_are)

        deep_down : i + 1 + depth (trie_at t (t.at b).down) ≤ depth (trie_at t root)
        deep_down = omega (arith, k.deep, q.depth_is, depth_at t s b h)

        module _ (d : ℕ) (ed : d ≡ (t.at b).down) where
          -- a node beside: it is where to go back to
          pub keeping : (n : ℕ) → n ≡ (t.at b).next → n < t.count → Turning t root most w d (i + 1) n i
          keeping n en less = record {
            small = rw ed (s b h).down_within;
            back_small = omega arith;
            within = omega arith;
            at_within = omega arith;
            few = rw ed few_down;
            deep = rw ed deep_down;
            back_deep = rw en (omega (arith, k.deep, q.depth_is, depth_at t s b h));
            is =
                rw (ed, en)
                (into ∙ ap (λ (z : List ℕ). following (take (i + 1) w) (trie_at t (t.at b).down) (drop (i + 1) w) z)
                (first_at t s (take i w) (t.at b).next kept (omega arith)
                ∙ sym (first_at t s (take i w) (t.at b).next [] (omega arith))));
          }

          -- none beside: as before
          pub going : t.count ≤ (t.at b).next → Turning t root most w d (i + 1) back at
          going past = record {
            small = rw ed (s b h).down_within;
            back_small = k.back_small;
            within = omega arith;
            at_within = omega (arith, k.at_within);
            few = rw ed few_down;
            deep = rw ed deep_down;
            back_deep = k.back_deep;
            is =
                rw ed
                (into ∙ ap (λ (z : List ℕ). following (take (i + 1) w) (trie_at t (t.at b).down) (drop (i + 1) w) z)
                (ap (λ (u : Trie). first_or (take i w) u kept) (at_none t (t.at b).next past) ∙ first_none (take i w) kept));
          }

append_none : (u v : List ℕ) → u ++ v ≡ [] → v ≡ []
append_none [] v e = e
append_none (x ∷ u) v e = absurd (omega (arith, ap length e))

-- from the place to the word, by how many are at most w
module _ {t : Table} {root : ℕ} {w : List ℕ} {b at : ℕ} (q : Turned t root w b at) (s : Sound t) where
  number : first_or (take at w) (trie_at t b) [] ≡ number_or [] (trie_at t root) (up_to (trie_at t root) w) []
  number = sym q.is ∙ following_is [] (trie_at t root) w [] (all_live t s root)

  pub none_after : t.count ≤ b → trie_size (trie_at t root) ≤ up_to (trie_at t root) w
  none_after h =
      ⊎_elim
      (λ (l : up_to (trie_at t root) w < trie_size (trie_at t root)).
      absurd (nth_some (trie_at t root) (up_to (trie_at t root) w) l
      (sym (number ∙ number_is [] (trie_at t root) (up_to (trie_at t root) w) [] l)
      ∙ ap (λ (u : Trie). first_or (take at w) u []) (at_none t b h) ∙ first_none (take at w) [])))
      (λ (l : trie_size (trie_at t root) ≤ up_to (trie_at t root) w). l)
      (below_or_not (up_to (trie_at t root) w) (trie_size (trie_at t root)))

  module _ (h : b < t.count) where
    pub some : 0 < trie_size (trie_at t b)
    some = omega (arith, size_at t s b h, (s b h).live)

    begins : take at w ++ nth (trie_at t b) 0 ≡ number_or [] (trie_at t root) (up_to (trie_at t root) w) []
    begins = sym (first_at t s (take at w) b [] h) ∙ number

    pub next_after : (up_to (trie_at t root) w < trie_size (trie_at t root))
        × (take at w ++ nth (trie_at t b) 0 ≡ nth (trie_at t root) (up_to (trie_at t root) w))
    next_after =
        ⊎_elim
        (λ (l : up_to (trie_at t root) w < trie_size (trie_at t root)).
        (l, begins ∙ number_is [] (trie_at t root) (up_to (trie_at t root) w) [] l))
        (λ (l : trie_size (trie_at t root) ≤ up_to (trie_at t root) w).
        absurd (nth_some (trie_at t b) 0 some
        (append_none (take at w) (nth (trie_at t b) 0) (begins ∙ number_none [] (trie_at t root) (up_to (trie_at t root) w) [] l))))
        (below_or_not (up_to (trie_at t root) w) (trie_size (trie_at t root)))
