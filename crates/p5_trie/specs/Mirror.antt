-- How the code holds things: no sentence of document 01 stands here, and no promise to a host leads here.
-- Words in a trie, and the ways through it: the word of a number, how many words are at most a word, and the next word. A
-- trie may stand in a table of nodes; laws are of any table.
use Rattle.std.specs.Prelude.{ℕ, zero, suc, ◌+◌, ◌-◌, Bool, true, false, List, [], ◌∷◌, ◌++◌, eqb, ltb}
use Rattle.p0_choice.specs.Choice.{pick}

-- a node: a letter, whether a word ends with it, the nodes below it (what follows the letter), the next node beside it
pub data Trie : Type 0 where
  none : Trie
  node : ℕ → Bool → Trie → Trie → Trie

abbrev pub one : Bool → ℕ
one true = 1
one false = 0

-- how many words there are
unfoldable pub trie_size : Trie → ℕ
trie_size none = 0
trie_size (node x ends down next) = one ends + trie_size down + trie_size next

-- the word of number n, from 0
unfoldable pub nth : Trie → ℕ → List ℕ
nth none n = []
nth (node x ends down next) n =
    pick (ltb n (one ends + trie_size down))
    (x ∷ pick (ltb n (one ends)) [] (nth down (n - one ends)))
    (nth next (n - (one ends + trie_size down)))

-- how many words are at most w
unfoldable pub up_to : Trie → List ℕ → ℕ
up_to none w = 0
up_to (node x ends down next) [] = 0
up_to (node x ends down next) (y ∷ w) =
    pick (ltb x y) (one ends + trie_size down + up_to next (y ∷ w)) (pick (eqb x y) (one ends + up_to down w) 0)

-- the first word with p before it, z where there is none
unfoldable pub first_or : List ℕ → Trie → List ℕ → List ℕ
first_or p none z = z
first_or p (node x ends down next) z = p ++ nth (node x ends down next) 0

-- the first word after w with p before it, by one walk, z where there is none
unfoldable pub following : List ℕ → Trie → List ℕ → List ℕ → List ℕ
following p none w z = z
following p (node x ends down next) [] z = first_or p (node x ends down next) z
following p (node x ends down next) (y ∷ w) z =
    pick (ltb x y) (following p next (y ∷ w) z)
    (pick (eqb x y) (following (p ++ (x ∷ [])) down w (first_or p next z)) (first_or p (node x ends down next) z))

-- what a table says of a node: how many words go through it, too; down and next are numbers of nodes
pub record Node : Type 0 where
  pub letter : ℕ
  pub ends : Bool
  pub words : ℕ
  pub down : ℕ
  pub next : ℕ

-- a number from `count` on is no node
pub record Table : Type 0 where
  pub count : ℕ
  pub at : ℕ → Node

-- the trie of node e, k levels of it
unfoldable pub grow : Table → ℕ → ℕ → Trie
grow t zero e = none
grow t (suc k) e =
    elim (ltb e t.count) [
      | true ↦ let n : Node = t.at e in node n.letter n.ends (grow t k n.down) (grow t k n.next)
      | false ↦ none
    ]

-- the trie of node e
unfoldable pub trie_at : Table → ℕ → Trie
trie_at t e = grow t t.count e
