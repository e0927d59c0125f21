-- Every accepted word is held: its onset, vowels and coda are parts of the rows, and a test that antt computes tries all
-- that such parts make. What the rows let go together is held, or is cut elsewhere, as g + iê + ng, or has an f j w z.
use Prim.Native.Nat.{ℕ}
use mathlib.Core.Path.{◌≡◌, refl, ◌∙◌, subst}
use mathlib.Core.Bool.{Bool, true, false, not, ◌&&◌}
use mathlib.Core.List.{List, [], ◌∷◌, ◌++◌}
use native.Mathlib.Omega.{arith}
use lib.Dec.{T}
use lib.ListN.{take, drop}
use borrow.Author.Tests.{eq-eqb}
use Rattle.p0_choice.specs.Choice.{pick, each}
use Rattle.p0_choice.specs.Text.{word, words, words_from}
use Rattle.p1_letters.specs.Vowels.{vowels}
use Rattle.p4_rows.specs.Rows.{Word, onset_rows, vowel_rows, coda_rows, onset_to_vowels, vowels_to_coda}
use Rattle.p4_rows.specs.Lookup.{in_list, go_together, allows, allows_any}
use Rattle.p4_rows.proofs.Words.{each_in}
use Rattle.p4_rows.proofs.InRows.{row_words, parts}
use Rattle.p4_spelling.specs.Cut.{onset_end, vowel_run, onset_of, vowels_of, coda_of}
use Rattle.p4_spelling.specs.Verdict.{has_foreign, fits}
use Rattle.p4_spelling.proofs.Parts.{Parts, parts_join, fits_parts}
use Rattle.p5_trie.specs.Mirror.{Trie, grow, trie_at}
use Rattle.p5_trie.proofs.Tests.{in_trie}
use Rattle.p5_listing.specs.Mirror.{entries, entry_at, next_to, node_in, nodes, listing}
use Rattle.p5_listing.proofs.Plain.{Toneless, core}
use Rattle.p5_listing.proofs.Quick.{quick_among, quick_same, quick_in, quick_rows, quick_before, quick_run, quick_glued, quick_pairs}
use Rattle.p5_listing.proofs.Quick.{quick_shape, quick_end, quick_foreign, quick_shape_lem, quick_end_lem, quick_rest_lem, quick_foreign_lem}

-- w has an f j w z (fs), or its cut does not give the onset o and the vowels v; e is where its onset ends
unfoldable astray_at : List ℕ → Word → Word → Word → ℕ → Bool
astray_at vs o v w e = not (quick_same (take e w) o && quick_same (take (quick_run vs (drop e w)) (drop e w)) v)

unfoldable astray : List ℕ → List ℕ → List Word → Word → Word → Word → Bool
astray fs vs gs o v w = elim (quick_foreign fs w) [ true ↦ true | false ↦ astray_at vs o v w (quick_end vs gs w) ]

-- the word w of three parts with their rows is no word by the rows, or held, or astray
unfoldable tried : Trie → List ℕ → List ℕ → List Word → Word → List ℕ → Word → List ℕ → Word → List ℕ → Word → Bool
tried t fs vs gs o ro v vr c cr w =
    elim (quick_shape o ro v vr c cr) [
      | true ↦ elim (in_trie t w) [ true ↦ true | false ↦ astray fs vs gs o v w ]
      | false ↦ true
    ]

-- the rows of a part are computed once for all words that it is in
unfoldable try_codas : Trie → List ℕ → List ℕ → List Word → List (List Word) → Word → List ℕ → Word → List ℕ → Bool
try_codas t fs vs gs codas o ro v vr = each (λ c. tried t fs vs gs o ro v vr c (quick_rows 0 codas c) (o ++ (v ++ c))) (parts codas)

unfoldable try_vowels : Trie → List ℕ → List ℕ → List Word → List (List Word) → List (List Word) → Word → List ℕ → Bool
try_vowels t fs vs gs nuclei codas o ro = each (λ v. try_codas t fs vs gs codas o ro v (quick_rows 0 nuclei v)) (parts nuclei)

unfoldable try_all : Trie → List ℕ → List ℕ → List Word → List (List Word) → List (List Word) → List (List Word) → Bool
try_all t fs vs gs onsets nuclei codas = each (λ o. try_vowels t fs vs gs nuclei codas o (quick_rows 0 onsets o)) (parts onsets)

tries_all : T (try_all listing (word "fjwz") vowels (words "qu gi") onset_rows vowel_rows coda_rows)
unfolding try_all try_vowels try_codas tried astray astray_at in_trie parts row_words listing trie_at grow nodes node_in next_to entry_at entries
    word words words_from vowels onset_rows vowel_rows coda_rows onset_to_vowels vowels_to_coda go_together allows allows_any quick_among
    quick_same quick_in quick_rows quick_before quick_run quick_glued quick_pairs quick_shape quick_end quick_foreign
tries_all = tt

-- the three ways through a lazy test
through : (a b c : Bool) → T (elim a [ true ↦ elim b [ true ↦ true | false ↦ c ] | false ↦ true ]) → T a → (T c → ⊥) → T b
through true true c t p n = tt
through true false c t p n = absurd (n t)
through false b c t p n = absurd p

same_self : (w : Word) → quick_same w w ≡ true
unfolding quick_same
same_self [] = refl
same_self (x ∷ w) = rw (eq-eqb x x refl, quick_same) (same_self w)

not_astray : (w : Word) → Toneless w → has_foreign w ≡ false → T (astray (word "fjwz") vowels (words "qu gi") (onset_of w) (vowels_of w) w) → ⊥
unfolding astray astray_at onset_of vowels_of
not_astray w t e h = go (quick_foreign (word "fjwz") w) (quick_foreign_lem w ∙ e) h
  where
    here : astray_at vowels (onset_of w) (vowels_of w) w (quick_end vowels (words "qu gi") w) ≡ false
    here = rw (
      quick_end_lem w t,
      quick_rest_lem w t,
      same_self (take (onset_end w) w),
      same_self (take (vowel_run (drop (onset_end w) w)) (drop (onset_end w) w)),
    )

    go : (b : Bool) → b ≡ false
        → T (elim b [ true ↦ true | false ↦ astray_at vowels (onset_of w) (vowels_of w) w (quick_end vowels (words "qu gi") w) ]) → ⊥
    go true q k = let z : ◌≡◌ {A = ℕ} 0 1 = cc in omega arith
    go false q k = rw here at k

-- the word w of parts o, v and c
held_at : (o v c w : Word) → o ++ (v ++ c) ≡ w → T (in_list o (parts onset_rows)) → T (in_list v (parts vowel_rows))
    → T (in_list c (parts coda_rows))
    → T (quick_shape o (quick_rows 0 onset_rows o) v (quick_rows 0 vowel_rows v) c (quick_rows 0 coda_rows c))
    → (T (astray (word "fjwz") vowels (words "qu gi") o v w) → ⊥) → T (in_trie listing w)
unfolding try_all try_vowels try_codas tried
held_at o v c w e po pv pc s n =
    let F : List ℕ = word "fjwz" in
    let G : List Word = words "qu gi" in
    let ro : List ℕ = quick_rows 0 onset_rows o in
    let rv : List ℕ = quick_rows 0 vowel_rows v in
    let at_onset : T (try_vowels listing F vowels G vowel_rows coda_rows o ro) =
    each_in (λ (x : Word). try_vowels listing F vowels G vowel_rows coda_rows x (quick_rows 0 onset_rows x)) (parts onset_rows) tries_all o po in
    let at_vowels : T (try_codas listing F vowels G coda_rows o ro v rv) =
    each_in (λ (x : Word). try_codas listing F vowels G coda_rows o ro x (quick_rows 0 vowel_rows x)) (parts vowel_rows) at_onset v pv in
    let at_coda : T (tried listing F vowels G o ro v rv c (quick_rows 0 coda_rows c) (o ++ (v ++ c))) =
    each_in (λ (x : Word). tried listing F vowels G o ro v rv x (quick_rows 0 coda_rows x) (o ++ (v ++ x))) (parts coda_rows) at_vowels c pc in
    through (quick_shape o ro v rv c (quick_rows 0 coda_rows c)) (in_trie listing w) (astray F vowels G o v w)
    (subst (λ (u : Word). T (tried listing F vowels G o ro v rv c (quick_rows 0 coda_rows c) u)) e at_coda) s n

fits_held : (w : Word) → Toneless w → has_foreign w ≡ false → T (fits w) → T (in_trie listing w)
fits_held w t e f =
    let p : Parts w = fits_parts w f in
    held_at (onset_of w) (vowels_of w) (coda_of w) w (parts_join w) p.onset p.vowels p.coda (rw (quick_shape_lem w) f) (not_astray w t e)

pub core_held : (w : Word) → Toneless w → T (core w) → T (in_trie listing w)
unfolding core
core_held w t h = go (has_foreign w) refl h
  where
    go : (b : Bool) → has_foreign w ≡ b → T (pick b false (fits w)) → T (in_trie listing w)
    go true e q = absurd q
    go false e q = fits_held w t e q
