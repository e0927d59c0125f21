-- The one walk gives the word whose number is how many are at most w (`following_is`).
use Prim.Native.Nat.{ℕ, ◌+◌, ◌-◌, ◌≤◌, ◌<◌}
use mathlib.Core.Path.{◌≡◌, sym, ap, ◌∙◌}
use mathlib.Core.Logic.{⊎_elim}
use mathlib.Core.Bool.{Bool}
use mathlib.Core.List.{List, [], ◌∷◌, ◌++◌, append_assoc}
use native.Mathlib.Omega.{arith}
use lib.Dec.{ltb}
use borrow.Author.Tests.{lt-ltb, le-ltb, eq-eqb, ne_eqb}
use Rattle.p0_choice.specs.Choice.{pick}
use Rattle.p0_choice.proofs.Numbers.{below_or_not, three_ways}
use Rattle.p5_trie.specs.Mirror.{Trie, none, node, one, trie_size, nth, up_to}
use Rattle.p5_trie.proofs.Words.{nth_into, nth_past, up_to_past, up_to_into, up_to_stop, up_to_empty, up_to_le, size_node}
use Rattle.p5_trie.proofs.Words.{size_none}
use Rattle.p5_trie.specs.Mirror.{first_or, following}

-- a word goes through every node
abbrev pub Live : Trie → Type 0
Live none = Unit {0}
Live (node c a d s) = (0 < one a + trie_size d) × (Live d × Live s)

-- number n of t after p, or z where there is no such number
abbrev pub number_or : List ℕ → Trie → ℕ → List ℕ → List ℕ
number_or p t n z = pick (ltb n (trie_size t)) (p ++ nth t n) z

module _ (p : List ℕ) (t : Trie) (n : ℕ) (z : List ℕ) where
  pub number_is : n < trie_size t → number_or p t n z ≡ p ++ nth t n
  number_is h = rw (lt-ltb n (trie_size t) h)

  pub number_none : trie_size t ≤ n → number_or p t n z ≡ z
  number_none h = rw (le-ltb n (trie_size t) h)

first_is : (p : List ℕ) (t : Trie) (z : List ℕ) → Live t → first_or p t z ≡ number_or p t 0 z
unfolding first_or
first_is p none z l = sym (number_none p none 0 z (omega (arith, size_none)))
first_is p (node c a d s) z l = sym (number_is p (node c a d s) 0 z (omega (arith, size_node c a d s, l.0)))

module _ (c : ℕ) (a : Bool) (d s : Trie) (p z : List ℕ) where
  -- beside the first node: the numbers go on
  beside_is : (n : ℕ) → one a + trie_size d ≤ n → number_or p s (n - (one a + trie_size d)) z ≡ number_or p (node c a d s) n z
  beside_is n h =
      ⊎_elim
      (λ (l : n < trie_size (node c a d s)).
      number_is p s (n - (one a + trie_size d)) z (omega (arith, size_node c a d s))
      ∙ ap (λ (v : List ℕ). p ++ v) (sym (nth_past c a d s n h)) ∙ sym (number_is p (node c a d s) n z l))
      (λ (l : trie_size (node c a d s) ≤ n).
      number_none p s (n - (one a + trie_size d)) z (omega (arith, size_node c a d s)) ∙ sym (number_none p (node c a d s) n z l))
      (below_or_not n (trie_size (node c a d s)))

  -- below it
  below_is : (n : ℕ) → n < trie_size d → (p ++ (c ∷ [])) ++ nth d n ≡ number_or p (node c a d s) (one a + n) z
  below_is n h =
      append_assoc p (c ∷ []) (nth d n)
      ∙ ap (λ (k : ℕ). p ++ (c ∷ nth d k)) (omega arith)
      ∙ ap (λ (v : List ℕ). p ++ v) (sym (nth_into c a d s (one a + n) (omega arith) (omega arith)))
      ∙ sym (number_is p (node c a d s) (one a + n) z (omega (arith, size_node c a d s)))

  past_is : (y : ℕ) (w : List ℕ) → c < y → following p s (y ∷ w) z ≡ number_or p s (up_to s (y ∷ w)) z
      → following p (node c a d s) (y ∷ w) z ≡ number_or p (node c a d s) (up_to (node c a d s) (y ∷ w)) z
  unfolding following
  past_is y w h q =
      rw (lt-ltb c y h, up_to_past c a d s y w h)
      (q ∙ ap (λ (k : ℕ). number_or p s k z) (omega arith) ∙ beside_is (one a + trie_size d + up_to s (y ∷ w)) (omega arith))

  into_is : (y : ℕ) (w : List ℕ) → c ≡ y → Live s
      → following (p ++ (c ∷ [])) d w (first_or p s z) ≡ number_or (p ++ (c ∷ [])) d (up_to d w) (first_or p s z)
      → following p (node c a d s) (y ∷ w) z ≡ number_or p (node c a d s) (up_to (node c a d s) (y ∷ w)) z
  unfolding following
  into_is y w h l q =
      rw (le-ltb c y (omega arith), eq-eqb c y h, up_to_into c a d s y w h)
      (q ∙ ⊎_elim
      (λ (m : up_to d w < trie_size d). number_is (p ++ (c ∷ [])) d (up_to d w) (first_or p s z) m ∙ below_is (up_to d w) m)
      (λ (m : trie_size d ≤ up_to d w).
      number_none (p ++ (c ∷ [])) d (up_to d w) (first_or p s z) m ∙ first_is p s z l
      ∙ ap (λ (k : ℕ). number_or p s k z) (omega (arith, up_to_le d w)) ∙ beside_is (one a + up_to d w) (omega arith))
      (below_or_not (up_to d w) (trie_size d)))

  stop_is : (y : ℕ) (w : List ℕ) → y < c → Live (node c a d s)
      → following p (node c a d s) (y ∷ w) z ≡ number_or p (node c a d s) (up_to (node c a d s) (y ∷ w)) z
  unfolding following
  stop_is y w h l =
      rw (le-ltb c y (omega arith), ne_eqb c y (λ e. omega arith), up_to_stop c a d s y w h) (first_is p (node c a d s) z l)

pub following_is : (p : List ℕ) (t : Trie) (w z : List ℕ) → Live t → following p t w z ≡ number_or p t (up_to t w) z
unfolding following
following_is p none w z l = sym (number_none p none (up_to none w) z (omega (arith, size_none)))
following_is p (node c a d s) [] z l = rw (up_to_empty (node c a d s)) (first_is p (node c a d s) z l)
following_is p (node c a d s) (y ∷ w) z l =
    ⊎_elim (λ h. past_is c a d s p z y w h (following_is p s (y ∷ w) z l.1.1))
    (⊎_elim (λ h. into_is c a d s p z y w h l.1.1 (following_is (p ++ (c ∷ [])) d w (first_or p s z) l.1.0))
    (λ h. stop_is c a d s p z y w h l))
    (three_ways c y)
