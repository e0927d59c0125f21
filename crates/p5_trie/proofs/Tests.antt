-- Tests of a whole trie that antt computes: what it holds, that its letters ascend, and a test at each word. Lazy choices
-- (`elim`), since a test over thousands of words stands on them.
use Prim.Native.Nat.{ℕ, suc, max}
use mathlib.Core.Bool.{Bool, true, false, cond, ◌&&◌, ◌||◌}
use mathlib.Core.List.{List, [], ◌∷◌}
use lib.Dec.{eqb, ltb}
use Rattle.p5_trie.specs.Mirror.{Trie, none, node}

abbrev pub ends_here : List ℕ → Bool → Bool
ends_here [] ends = ends
ends_here (y ∷ w) ends = false

-- w is one of the words
unfoldable pub in_trie : Trie → List ℕ → Bool
in_trie none w = false
in_trie (node x ends down next) [] = false
in_trie (node x ends down next) (y ∷ w) = elim (eqb x y) [ true ↦ ends_here w ends || in_trie down w | false ↦ in_trie next (y ∷ w) ]

-- f passes at each word
unfoldable pub every : Trie → (List ℕ → Bool) → Bool
every none f = true
every (node x ends down next) f = cond ends (f (x ∷ [])) true && (every down (λ w. f (x ∷ w)) && every next f)

-- the letters of nodes beside each other ascend
unfoldable pub is_above : ℕ → Trie → Bool
is_above low none = true
is_above low (node x ends down next) = ltb low x

unfoldable pub is_sorted : Trie → Bool
is_sorted none = true
is_sorted (node x ends down next) = is_above x next && (is_sorted down && is_sorted next)

-- how many letters the longest word has
unfoldable pub depth : Trie → ℕ
depth none = 0
depth (node x ends down next) = max (suc (depth down)) (depth next)
