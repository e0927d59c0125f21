-- How the code holds things: no sentence of document 01 stands here, and no promise to a host leads here.
-- What a scan of the table finds.
use Rattle.std.specs.Prelude.{ℕ, ◌≡◌, ◌<◌}
use Rattle.p5_trie.proofs.Scan.{Passed, Halts}
use Rattle.p5_listing.specs.Mirror.{node_count, entry_at, nodes}

-- no node of the row stops it
abbrev pub PassedAll : ℕ → ℕ → ℕ → Type 0
PassedAll from y most = (left : ℕ) × Passed nodes from y most node_count left

-- it stops at the node e, whose entry is t
abbrev pub HaltsAt : ℕ → ℕ → ℕ → ℕ → ℕ → ℕ → Type 0
HaltsAt from y most e left t = (e < node_count) × Passed nodes from y most e left × (t ≡ entry_at e) × Halts nodes y e left
