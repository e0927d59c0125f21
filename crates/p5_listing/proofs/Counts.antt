-- Document 01's counts of the listed words and their longest: antt counts the words of the table of each kind.
use Prim.Native.Nat.{ℕ, suc, ◌≤◌}
use mathlib.Core.Path.{◌≡◌, refl, ◌∙◌, subst}
use mathlib.Core.Logic.{⊎_elim}
use mathlib.Core.Bool.{Bool, true, false}
use mathlib.Core.List.{List, [], ◌∷◌}
use native.Mathlib.Omega.{arith}
use lib.Dec.{T}
use lib.ListN.{length, take, drop}
use Rattle.p0_choice.specs.Choice.{pick, each}
use Rattle.p0_choice.specs.Text.{word, words, words_from}
use Rattle.p0_choice.proofs.Numbers.{below_or_not}
use Rattle.p1_letters.specs.Vowels.{is_spelling_vowel, vowels}
use Rattle.p4_rows.specs.Rows.{Word}
use Rattle.p4_rows.specs.Lookup.{is_empty}
use Rattle.p4_rows.proofs.Words.{each_in}
use Rattle.p4_spelling.specs.Cut.{before_vowel, vowel_run, is_glue, starts_glued, onset_end, onset_of, vowels_of}
use Rattle.p4_spelling.specs.Verdict.{verdict, longest_length}
use Rattle.p4_spelling.proofs.Folding.{too_long}
use Rattle.p5_trie.specs.Mirror.{Trie, trie_size, grow, trie_at}
use Rattle.p5_trie.proofs.Tests.{in_trie}
use Rattle.p5_trie.proofs.Kept.{kept_in, kept_many}
use Rattle.p5_listing.specs.Listed.{Listed}
use Rattle.p5_listing.specs.Counts.{is_bare_onset, is_without_onset, has_both, Counts}
use Rattle.p5_listing.specs.Mirror.{entries, entry_at, next_to, node_in, nodes, listing}
use Rattle.p5_listing.proofs.Plain.{Toneless, plain_toneless}
use Rattle.p5_listing.proofs.Quick.{quick_among, quick_vowel}
use Rattle.p5_listing.proofs.Numbering.{lists, listed_many}

-- ---- the kinds in a form that antt computes fast: a bare onset has no vowel, and a word without onset starts with one
unfoldable quick_bare : List ℕ → Word → Bool
quick_bare vs [] = true
quick_bare vs (x ∷ u) = elim (quick_among x vs) [ true ↦ false | false ↦ quick_bare vs u ]

unfoldable quick_without : List ℕ → Word → Bool
quick_without vs [] = true
quick_without vs (x ∷ u) = quick_among x vs

unfoldable quick_both : List ℕ → Word → Bool
quick_both vs u = elim (quick_without vs u) [ true ↦ false | false ↦ elim (quick_bare vs u) [ true ↦ false | false ↦ true ] ]

how_many_lem : (List ℕ → Word → Bool) → Trie → List ℕ → ℕ
how_many_lem f t vs = trie_size (kept_in (λ u. f vs u) t)

bare : how_many_lem quick_bare listing vowels ≡ 25
unfolding how_many_lem trie_size kept_in quick_bare listing trie_at grow nodes node_in next_to entry_at entries word vowels quick_among
bare = refl

without : how_many_lem quick_without listing vowels ≡ 217
unfolding how_many_lem trie_size kept_in quick_without listing trie_at grow nodes node_in next_to entry_at entries word vowels quick_among
without = refl

both : how_many_lem quick_both listing vowels ≡ 5721
unfolding how_many_lem trie_size kept_in quick_both quick_bare quick_without listing trie_at grow nodes node_in next_to entry_at entries word
    vowels quick_among
both = refl

-- ---- they are the kinds
before_bare : (u : Word) → Toneless u → quick_bare vowels u ≡ is_empty (take (vowel_run (drop (before_vowel u) u)) (drop (before_vowel u) u))
unfolding quick_bare before_vowel vowel_run
before_bare [] t = refl
before_bare (x ∷ u) t = go (quick_among x vowels) (is_spelling_vowel x) (quick_vowel x t.0) refl (before_bare u t.1)
  where
    go : (a b : Bool) → a ≡ b → is_spelling_vowel x ≡ b
        → quick_bare vowels u ≡ is_empty (take (vowel_run (drop (before_vowel u) u)) (drop (before_vowel u) u))
        → ◌≡◌ {A = Bool} (elim a [ true ↦ false | false ↦ quick_bare vowels u ])
        (is_empty (take (vowel_run (drop (pick b 0 (suc (before_vowel u))) (x ∷ u))) (drop (pick b 0 (suc (before_vowel u))) (x ∷ u))))
    go true true e s h = rw (vowel_run, s)
    go true false e s h = absurd (let z : ◌≡◌ {A = ℕ} 0 1 = cc in omega arith)
    go false true e s h = absurd (let z : ◌≡◌ {A = ℕ} 0 1 = cc in omega arith)
    go false false e s h = h

-- the third letter of a glued start is a vowel, the first is none
glued_bare : (x y z : ℕ) (u : Word) → quick_among z vowels ≡ true → quick_bare vowels (x ∷ y ∷ z ∷ u) ≡ false
unfolding quick_bare
glued_bare x y z u e = go (quick_among x vowels) (quick_among y vowels)
  where
    go : (a b : Bool)
        → ◌≡◌ {A = Bool}
        (elim a [
          | true ↦ false
          | false ↦ elim b
              [ true ↦ false | false ↦ elim (quick_among z vowels) [ true ↦ false | false ↦ quick_bare vowels u ] ]
        ]) false
    go true b = refl
    go false true = refl
    go false false = rw (quick_bare, e)

starts_plain : Word → Bool
starts_plain [] = true
starts_plain (x ∷ u) = pick (quick_among x vowels) false true

consonants : T (each starts_plain (words "qu gi"))
unfolding starts_plain quick_among vowels word words words_from
consonants = tt

glue_first : (x y : ℕ) → T (is_glue x y) → quick_among x vowels ≡ false
unfolding is_glue starts_plain
glue_first x y t = go (quick_among x vowels) (each_in starts_plain (words "qu gi") consonants (x ∷ y ∷ []) t)
  where
    go : (b : Bool) → T (pick b false true) → b ≡ false
    go true q = absurd q
    go false q = refl

before_without : (u : Word) → Toneless u → quick_without vowels u ≡ is_empty (take (before_vowel u) u)
unfolding quick_without before_vowel
before_without [] t = refl
before_without (x ∷ u) t = quick_vowel x t.0 ∙ go (is_spelling_vowel x)
  where
    go : (b : Bool) → b ≡ is_empty (take (pick b 0 (suc (before_vowel u))) (x ∷ u))
    go true = refl
    go false = refl

record Kinds (u : Word) : Type 0 where
  bare_is : quick_bare vowels u ≡ is_bare_onset u
  without_is : quick_without vowels u ≡ is_without_onset u

kinds_before : (u : Word) → Toneless u → onset_end u ≡ before_vowel u → Kinds u
unfolding is_bare_onset is_without_onset vowels_of onset_of
kinds_before u t e = record { bare_is = before_bare u t ∙ rw e; without_is = before_without u t ∙ rw e }

kinds_glued : (x y z : ℕ) (u : Word) → Toneless (x ∷ y ∷ z ∷ u) → T (is_glue x y) → is_spelling_vowel z ≡ true
    → onset_end (x ∷ y ∷ z ∷ u) ≡ 2 → Kinds (x ∷ y ∷ z ∷ u)
unfolding is_bare_onset is_without_onset vowels_of onset_of vowel_run quick_without
kinds_glued x y z u t g v e = record {
  bare_is = glued_bare x y z u (quick_vowel z t.1.1.0 ∙ v) ∙ rw (e, v);
  without_is = glue_first x y g ∙ rw e;
}

kinds : (u : Word) → Toneless u → Kinds u
unfolding onset_end starts_glued
kinds [] t = kinds_before [] t refl
kinds (x ∷ []) t = kinds_before (x ∷ []) t refl
kinds (x ∷ y ∷ []) t = kinds_before (x ∷ y ∷ []) t refl
kinds (x ∷ y ∷ z ∷ u) t = go (is_glue x y) (is_spelling_vowel z) refl refl
  where
    go : (a b : Bool) → is_glue x y ≡ a → is_spelling_vowel z ≡ b → Kinds (x ∷ y ∷ z ∷ u)
    go true true p q = kinds_glued x y z u t (rw p tt) q (rw (p, q))
    go true false p q = kinds_before (x ∷ y ∷ z ∷ u) t (rw (p, q))
    go false b p q = kinds_before (x ∷ y ∷ z ∷ u) t (rw p)

both_is : (u : Word) → Toneless u → quick_both vowels u ≡ has_both u
unfolding quick_both has_both
both_is u t = go (quick_bare vowels u) (quick_without vowels u) (kinds u t).bare_is (kinds u t).without_is
  where
    go : (a b : Bool) → a ≡ is_bare_onset u → b ≡ is_without_onset u
        → ◌≡◌ {A = Bool} (elim b [ true ↦ false | false ↦ elim a [ true ↦ false | false ↦ true ] ])
        (pick (is_bare_onset u) false (pick (is_without_onset u) false true))
    go true true e f = rw (← e)
    go true false e f = rw (← e)
    go false true e f = rw (← e, ← f)
    go false false e f = rw (← e, ← f)

-- ---- so many have each
toneless : (u : Word) → Listed u → Toneless u
toneless u l = subst Toneless l.is_plain (plain_toneless u)

-- ---- the longest
longest : Word
longest = word "nghuyêng"

longest_held : T (in_trie listing longest)
unfolding longest in_trie listing trie_at grow nodes node_in next_to entry_at entries word
longest_held = tt

eight_letters : length longest ≡ longest_length
unfolding longest word
eight_letters = refl

pub none_longer : (u : Word) → T (verdict u) → length u ≤ longest_length
none_longer u t = ⊎_elim (λ h. absurd (rw (← too_long u h) at t)) (λ h. h) (below_or_not longest_length (length u))

-- "5,963 toneless words pass: 25 bare onsets, 217 without onset, 5,721 with onset and vowels"; "The longest has 8 letters."
pub counts : Counts
unfolding how_many_lem
counts = record {
  all = listed_many;
  bare = kept_many lists (λ u. quick_bare vowels u) is_bare_onset (λ u l. (kinds u (toneless u l)).bare_is) _ (omega (arith, bare));
  without =
      kept_many lists (λ u. quick_without vowels u) is_without_onset (λ u l. (kinds u (toneless u l)).without_is) _ (omega (arith, without));
  both = kept_many lists (λ u. quick_both vowels u) has_both (λ u l. both_is u (toneless u l)) _ (omega (arith, both));
  longest = record {
    within = λ u l. omega (arith, none_longer u l.accepted);
    word = longest;
    has = lists.only longest longest_held;
    reaches = omega (arith, eight_letters);
  };
}
