-- Demand 3 of any property P of words: what a numbering of the words with it is, how many they are, and which follows a word.
use Rattle.std.specs.Prelude.{ℕ, ◌≤◌, ◌<◌, ◌≡◌, List, length}
use Rattle.p5_trie.specs.Order.{Before, AtMost}

-- f gives some number below the total to u
pub record Found (f : ℕ → List ℕ) (total : ℕ) (u : List ℕ) : Type 0 where
  pub number : ℕ
  pub small : number < total
  pub is : f number ≡ u

-- "names every .. word .., each once, in code-point dictionary order, with no other word between": f numbers the words
-- with P from 0 to below the total
pub record Numbering (P : List ℕ → Type 0) (f : ℕ → List ℕ) (total : ℕ) : Type 0 where
  pub names : (n : ℕ) → n < total → P (f n)
  pub ascends : (m n : ℕ) → m < n → n < total → Before (f m) (f n)
  pub every : (u : List ℕ) → P u → Found f total u

-- so many words have P
abbrev pub Many : (List ℕ → Type 0) → ℕ → Type 0
Many P total = (f : ℕ → List ℕ) × Numbering P f total

-- u is the word of number n
pub record Named (P : List ℕ → Type 0) (n : ℕ) (u : List ℕ) : Type 0 where
  pub order : ℕ → List ℕ
  pub total : ℕ
  pub numbers : Numbering P order total
  pub small : n < total
  pub is : order n ≡ u

-- no word has the number n
pub record Unnamed (P : List ℕ → Type 0) (n : ℕ) : Type 0 where
  pub total : ℕ
  pub many : Many P total
  pub past : total ≤ n

-- "the next listed word after any permitted word"
pub record Follows (P : List ℕ → Type 0) (w r : List ℕ) : Type 0 where
  pub has : P r
  pub after : Before w r
  pub first : (u : List ℕ) → P u → Before w u → AtMost r u

-- "no listed word follows"
abbrev pub Last : (List ℕ → Type 0) → List ℕ → Type 0
Last P w = (u : List ℕ) → P u → Before w u → ⊥

-- the longest of the words has n letters
pub record Longest (P : List ℕ → Type 0) (n : ℕ) : Type 0 where
  pub within : (u : List ℕ) → P u → length u ≤ n
  pub word : List ℕ
  pub has : P word
  pub reaches : length word ≡ n
