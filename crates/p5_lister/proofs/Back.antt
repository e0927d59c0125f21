-- Where the walk along a word goes back to, if it does: as p5_trie's laws say it, to no node after no letter where it does not.
use Rattle.std.specs.Prelude.{Option, Some, None, MatchOption, IfSome}
use Prim.Native.Nat.{ℕ, ◌<◌}
use mathlib.Core.List.{List}
use Rattle.p5_trie.proofs.Turn.{Turning, Turned}
use Rattle.p5_listing.specs.Mirror.{node_count, nodes}
use Rattle.p5_lister.specs.declared.Parting.{Parting}

abbrev pub node_of : Option Parting → ℕ
node_of None = node_count
node_of (Some p) = p.node

abbrev pub at_of : Option Parting → ℕ
at_of None = 0
at_of (Some p) = p.at

-- the walk stands before node e, after i letters
pub record Walks (root : ℕ) (w : List ℕ) (e i : ℕ) (back : Option Parting) : Type 0 where
  pub turning : Turning nodes root 65536 w e i (node_of back) (at_of back)
  pub node : IfSome back (λ p. p.node < node_count)

-- it goes back
pub goes_back : {root : ℕ} {w : List ℕ} (back : Option Parting) → IfSome back (λ p. p.node < node_count)
    → Turned nodes root w (node_of back) (at_of back)
    → MatchOption back (Turned nodes root w node_count 0) (λ p. (p.node < node_count) × Turned nodes root w p.node p.at)
goes_back None h t = t
goes_back (Some p) h t = (h, t)
