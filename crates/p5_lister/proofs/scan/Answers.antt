-- The scan's invariant; each turn is a law of proofs/Reading.
use mathlib.Core.Logic.{inl, inr, ⊎_elim}
use native.Mathlib.Omega.{arith}
use Rattle.p5_trie.proofs.Scan.{begin}
use Rattle.p5_listing.specs.Mirror.{nodes}
use Rattle.p5_listing.proofs.Nodes.{count_is}
use Rattle.p5_lister.proofs.Reading.{halting, passed_last, passed_on}
use Rattle.p5_lister.proofs.scan.Goals as goal

pub loop-node-init : goal.loop-node-init
loop-node-init c = begin nodes c.args.from c.args.y c.args.most (rw count_is c.requires)

pub returns-then-y-letter : goal.returns-then-y-letter
returns-then-y-letter c = (
  omega arith,
  c.loop-node.invariant,
  c.entry.ensures,
  halting _ _ c.entry.ensures _ _ _ _ c.letter.ensures c.words-through.ensures (⊎_elim inl (λ q. inr q.1) c.then-y-letter.either),
)

pub returns-then-is_last : goal.returns-then-is_last
returns-then-is_last c = (
  _,
  passed_last _ _ c.entry.ensures _ _ _ _ c.letter.ensures c.words-through.ensures _ _ c.loop-node.invariant
      c.loop-node-test.true c.if-y-letter.false c.if-left-through.false _ c.is_last.ensures c.if-is_last.true,
)

pub loop-node-preserved : goal.loop-node-preserved
loop-node-preserved c =
    passed_on _ _ c.entry.ensures _ _ _ _ c.letter.ensures c.words-through.ensures _ _ c.loop-node.invariant
    c.loop-node-test.true c.if-y-letter.false c.if-left-through.false _ c.is_last.ensures c.if-is_last.false
