-- What the functions read of a node, by its entry t: x is its letter, n how many words go through it, and so on.
use Prim.Native.Nat.{ℕ, ◌+◌, ◌-◌, ◌≤◌, ◌<◌}
use mathlib.Core.Path.{◌≡◌, sym, ap, ◌∙◌}
use mathlib.Core.Bool.{Bool, true, false}
use lib.Dec.{eqb}
use borrow.Author.Tests.{eqb-true, eqb-false}
use mathlib.Core.List.{List}
use mathlib.Core.Logic.{◌⊎◌, inl, inr, ⊎_elim}
use native.Mathlib.Omega.{arith}
use Rattle.p4_spelling.specs.Verdict.{longest_length}
use Rattle.p5_trie.specs.Mirror.{Trie, trie_size, trie_at, nth}
use Rattle.p5_trie.proofs.Tests.{depth}
use Rattle.p5_trie.proofs.Scan.{Passed, Halts, went_on}
use Rattle.p5_listing.specs.Counts.{word_count}
use Rattle.p5_listing.specs.Mirror.{node_count, root_node, entry_at, letter_in, words_in, last_in, nodes, listing}
use Rattle.p5_listing.proofs.Computed.{size_listing, depth_listing}
use Rattle.p5_listing.proofs.Nodes.{root, count_is, sound, letter_low, letter_is, words_is, next_none, next_on}

module _ (e t : ℕ) (r : t ≡ entry_at e) (x n y left : ℕ) (ex : x ≡ letter_in t) (en : n ≡ words_in t) where
  pub halting : (y ≤ x) ⊎ (left < n) → Halts nodes y e left
  halting (inl h) = inl (rw (← letter_is e t r, ← ex) h)
  halting (inr h) = inr (rw (← words_is e t r, ← en) h)

  module _ (from most : ℕ) (q : Passed nodes from y most e left) (h : e < node_count) (l : x < y) (m : n ≤ left) where
    passed : Passed nodes from y most (nodes.at e).next (left - n)
    passed =
        rw (en ∙ words_is e t r)
        (went_on nodes sound e (rw count_is h) from y most left q (rw (← letter_is e t r, ← ex) l) (rw (← words_is e t r, ← en) m))

    module _ (v : Bool) (s : v ≡ eqb (last_in t) 1) where
      pub passed_last : v ≡ true → Passed nodes from y most node_count (left - n)
      passed_last z = rw (next_none e t r (eqb-true (last_in t) 1 (sym s ∙ z))) passed

      pub passed_on : v ≡ false → Passed nodes from y most (e + 1) (left - n)
      passed_on z = rw (next_on e t r (eqb-false (last_in t) 1 (sym s ∙ z))) passed

-- a scan for no letter stops where the number lies
pub fewer : (e left : ℕ) → e < node_count → Halts nodes 4294967295 e left → left < (nodes.at e).words
fewer e left h s =
    ⊎_elim (λ (l : 4294967295 ≤ (nodes.at e).letter). absurd (omega (arith, letter_low e h))) (λ (l : left < (nodes.at e).words). l) s

-- the listed words from the root on
pub root_size : trie_size (trie_at nodes root_node) ≡ word_count
root_size = ap trie_size root ∙ size_listing

pub root_depth : depth (trie_at nodes root_node) ≡ longest_length
root_depth = ap depth root ∙ depth_listing

pub root_word : (m n : ℕ) (u : List ℕ) → u ≡ nth (trie_at nodes root_node) m → m ≡ n → u ≡ nth listing n
root_word m n u e f = e ∙ ap (λ (t : Trie). nth t m) root ∙ ap (nth listing) f
