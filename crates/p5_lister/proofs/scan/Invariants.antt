use Rattle.p5_trie.proofs.Scan.{Passed}
use Rattle.p5_listing.specs.Mirror.{nodes}
use Rattle.p5_lister.proofs.scan.Given as goal

abbrev pub invariant-loop-node : goal.invariant-loop-node
invariant-loop-node l = Passed nodes l.from l.y l.most l.node l.left
