-- The walk's invariant; each turn is a law of p5_trie's proofs/Turn.
use Prim.Native.Nat.{◌<◌, ◌+◌}
use lib.ListN.{length}
use mathlib.Core.Path.{◌≡◌, sym, ◌∙◌}
use native.Mathlib.Omega.{arith}
use borrow.Author.Tests.{eqb-true, eqb-false}
use Rattle.p5_trie.proofs.Turn.{start, ended_back, ended_here, none_there, stopped_there, keeping, going}
use Rattle.p5_listing.specs.Mirror.{node_count, nodes, last_in}
use Rattle.p5_listing.proofs.Nodes.{count_is, sound, letter_is, down_is, next_none, next_on, next_some}
use Rattle.p5_lister.proofs.Back.{goes_back}
use Rattle.p5_lister.proofs.turn.Goals as goal
use Rattle.p5_lister.proofs.turn.Goals.{then-not-is_last, else-not-is_last}

pub loop-i-init : goal.loop-i-init
loop-i-init c = record {
  turning = rw (← count_is) (start nodes c.args.root 65536 c.args.word.now (rw count_is c.requires.0) c.requires.1);
  node = tt;
}

pub scan-requires : goal.scan-requires
scan-requires c = omega (arith, c.loop-i.invariant.turning.small, count_is)

pub returns-in_default : goal.returns-in_default
returns-in_default c =
    let h = c.in_default.ensures in
    goes_back c.loop-i.back c.loop-i.invariant.node
    (none_there c.loop-i.invariant.turning sound c.loop-i-test.true h.1 (omega (arith, count_is)))

pub returns-then-y-letter : goal.returns-then-y-letter
returns-then-y-letter c =
    let r = c.in-Some.ensures in (
      r.0,
      stopped_there c.loop-i.invariant.turning sound c.loop-i-test.true r.1 (rw count_is r.0)
          (rw (← letter_is _ _ r.2, ← c.letter.ensures) c.if-y-letter.true),
    )

pub loop-i-preserved : goal.loop-i-preserved
loop-i-preserved c =
    let r = c.in-Some.ensures in
    elim c.if-not-is_last.branch [
      | then-not-is_last w ↦
          let z : (last_in c.in-Some.halt.entry.bits ≡ 1 → ⊥) = λ e. eqb-false _ _ (sym c.is_last.ensures ∙ w.if-not-is_last.true) e in
          let n : c.in-Some.halt.node + 1 < nodes.count = rw count_is (next_some _ _ r.2 z r.0) in
          rw w.back-is record {
            turning =
                keeping c.loop-i.invariant.turning sound c.loop-i-test.true r.1 (rw count_is r.0) r.3
                (rw (← letter_is _ _ r.2, ← c.letter.ensures) c.if-y-letter.false) _
                (c.down-row.ensures ∙ down_is _ _ r.2) _ (next_on _ _ r.2 z) n;
            node = omega (arith, n, count_is);
          }
      | else-not-is_last w ↦
          let z : last_in c.in-Some.halt.entry.bits ≡ 1 = eqb-true _ _ (sym c.is_last.ensures ∙ w.if-not-is_last.false) in
          rw w.back-is record {
            turning =
                going c.loop-i.invariant.turning sound c.loop-i-test.true r.1 (rw count_is r.0) r.3
                (rw (← letter_is _ _ r.2, ← c.letter.ensures) c.if-y-letter.false) _
                (c.down-row.ensures ∙ down_is _ _ r.2) (omega (arith, count_is, next_none _ _ r.2 z));
            node = c.loop-i.invariant.node;
          }
    ]

pub returns-then-row-eq-COUNT : goal.returns-then-row-eq-COUNT
returns-then-row-eq-COUNT c =
    goes_back c.loop-i.back c.loop-i.invariant.node
    (ended_back c.loop-i.invariant.turning sound (omega (arith, c.if-row-eq-COUNT.true, count_is)))

pub returns : goal.returns
returns c =
    let e : c.loop-i.i ≡ length c.args.word.now = omega arith in
    let h : c.loop-i.row < node_count = omega (arith, c.if-row-eq-COUNT.false, c.loop-i.invariant.turning.small, count_is) in
    (h, rw (← e) (ended_here c.loop-i.invariant.turning sound e (rw count_is h)))
