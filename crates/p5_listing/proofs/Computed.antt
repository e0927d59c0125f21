-- The tests over all listed words that antt computes: how many there are, that they ascend, and that each is accepted.
use Prim.Native.Nat.{ℕ}
use mathlib.Core.Path.{◌≡◌, refl}
use mathlib.Core.Bool.{Bool}
use mathlib.Core.List.{List}
use lib.Dec.{T}
use Rattle.p0_choice.specs.Text.{word, words, words_from}
use Rattle.p1_letters.specs.Vowels.{vowels}
use Rattle.p4_rows.specs.Rows.{Word, onset_rows, vowel_rows, coda_rows, onset_to_vowels, vowels_to_coda}
use Rattle.p4_rows.specs.Lookup.{go_together, allows, allows_any}
use Rattle.p4_spelling.specs.Verdict.{longest_length}
use Rattle.p5_trie.specs.Mirror.{Trie, trie_size, grow, trie_at}
use Rattle.p5_trie.proofs.Tests.{every, is_above, is_sorted, depth}
use Rattle.p5_listing.specs.Mirror.{entries, entry_at, next_to, node_in, nodes, listing}
use Rattle.p5_listing.specs.Counts.{word_count}
use Rattle.p5_listing.proofs.Quick.{quick_among, quick_same, quick_in, quick_rows, quick_before, quick_run, quick_glued, quick_pairs}
use Rattle.p5_listing.proofs.Quick.{quick_shape, quick_end, quick_parted, quick_rest, quick_from, quick_fits, quick_foreign, quick_core}
use Rattle.p5_listing.proofs.Quick.{quick}

-- "By our count 5,963 toneless words pass"
pub size_listing : trie_size listing ≡ word_count
unfolding trie_size listing trie_at grow nodes node_in next_to entry_at entries
size_listing = refl

pub depth_listing : depth listing ≡ longest_length
unfolding depth listing trie_at grow nodes node_in next_to entry_at entries
depth_listing = refl

pub sorted_listing : T (is_sorted listing)
unfolding is_above is_sorted listing trie_at grow nodes node_in next_to entry_at entries
sorted_listing = tt

accepts : Trie → List (List Word) → List (List Word) → List (List Word) → List ℕ → List Word → List ℕ → Bool
accepts t os ns cs vs gs fs = every t (λ w. quick_core os ns cs vs gs fs w)

accepts_all : T (accepts listing onset_rows vowel_rows coda_rows vowels (words "qu gi") (word "fjwz"))
unfolding accepts every listing trie_at grow nodes node_in next_to entry_at entries word words words_from vowels onset_rows vowel_rows
    coda_rows onset_to_vowels vowels_to_coda go_together allows allows_any quick_among quick_same quick_in quick_rows quick_before quick_run quick_glued
    quick_pairs quick_shape quick_end quick_parted quick_rest quick_from quick_fits quick_foreign quick_core
accepts_all = tt

-- each word of the listing is accepted
pub all_accepted : T (every listing quick)
unfolding accepts quick
all_accepted = accepts_all
