use Rattle.std.proofs.Common.{◌≡◌, ℕ, ◌<◌, false, get_or}
use Rattle.std.specs.List.{list_any}
use Rattle.p4_rows.specs.Mirror.{entry}
use Rattle.p4_rows.proofs.pair_valid.Given as goal

abbrev pub invariant-pairs : goal.invariant-pairs
invariant-pairs g l = (l.valid ≡ false) × ((k : ℕ) → k < l.a-index → list_any (entry l.matrix (get_or l.first k 0)) l.second ≡ false)

abbrev pub invariant-loop-b : goal.invariant-loop-b
invariant-loop-b g l = (l.valid ≡ false) × ((k : ℕ) → k < l.b-index → entry l.matrix (get_or l.first l.a-index 0) (get_or l.second k 0) ≡ false)
