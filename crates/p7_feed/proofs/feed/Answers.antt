-- What is held and what is printed go on from byte to byte as the run's definition says; a line has room for what it prints.
use borrow.Author.Rules.{rules}
use native.Mathlib.Omega.{arith}
use mathlib.Core.Path.{◌≡◌, refl, sym, ◌∙◌}
use mathlib.Core.List.{append-nil}
use Prim.Native.Nat.{◌≤◌}
use lib.ListN.{length, length-set, take, drop_of_length-le}
use lib.Seq.{length-take-le}
use Rattle.p7_feed.specs.Mirror.{state, end_out, run_to, run_out, fed}
use Rattle.p7_feed.proofs.Parts.{to_end, out_end, to_held, out_held, to_dropped, out_dropped, lay_end, lay_held, lay_dropped}
use Rattle.p7_feed.proofs.Parts.{line_laid, written_on, written_long, past_end, printed}
use Rattle.p7_feed.proofs.feed.Goals as goal

pub loop-b-preserved-then-b-eq10 : goal.loop-b-preserved-then-b-eq10
loop-b-preserved-then-b-eq10 c =
    let l = c.loop-b in
    let v = l.invariant in
    let k = l.carry in
    let part = c.args.part.now in
    let h = c.loop-b-test.true in
    let q = c.if-b-eq10.true in
    let f = rw c.first-line.ensures at c.end_line-n.ensures.next in
    let e = rw c.first-line.ensures at c.end_line-n.ensures.count in
    let within : l.n ≤ length l.out = omega arith in
    let w = written_on l.out _ (end_out k.phase (take k.len k.line)) l.n _ v.out_long within
    (rw c.first-line.ensures at c.end_line-n.ensures.printed) in
    record {
      line_long = v.line_long;
      out_long = written_long l.out _ (end_out k.phase (take k.len k.line)) l.n _ v.out_long (omega (arith, e.0, e.1)) w;
      held_most = omega arith;
      little = omega (arith, e.1);
      goes = to_end _ (take k.len k.line) k.phase part l.b-index h _ refl v.goes q _ f;
      prints =
          out_end _ (take k.len k.line) k.phase part l.b-index h _ refl v.goes q _ f l.out _ l.n _ within
          (omega (arith, e.0)) w v.prints;
      lays = lay_end _ _ _ part l.b-index h _ refl v.lays q;
      rest = past_end l.out _ _ (end_out k.phase (take k.len k.line)) l.n _ within (omega (arith, e.0)) w v.rest;
    }

pub loop-b-preserved-then-carry-ge-MOST : goal.loop-b-preserved-then-carry-ge-MOST
loop-b-preserved-then-carry-ge-MOST c =
    let l = c.loop-b in
    let v = l.invariant in
    let k = l.carry in
    let part = c.args.part.now in
    let h = c.loop-b-test.true in
    let q = c.if-b-eq10.false in
    let z = c.if-carry-ge-MOST.true in
    record {
      line_long = v.line_long;
      out_long = v.out_long;
      held_most = v.held_most;
      little = search rules;
      goes = to_dropped _ k.line k.len k.phase part l.b-index _ v.line_long h refl q z v.held_most v.goes;
      prints =
          out_dropped _ k.line k.len k.phase part l.b-index _ v.line_long h refl q (take l.n l.out) z v.held_most v.goes v.prints;
      lays = lay_dropped _ k.line k.len part l.b-index h _ refl v.lays q z;
      rest = v.rest;
    }

pub loop-b-preserved : goal.loop-b-preserved
loop-b-preserved c =
    let l = c.loop-b in
    let v = l.invariant in
    let k = l.carry in
    let part = c.args.part.now in
    let h = c.loop-b-test.true in
    let q = c.if-b-eq10.false in
    let z = c.if-carry-ge-MOST.false in
    record {
      line_long = simp length-set v.line_long;
      out_long = v.out_long;
      held_most = search rules;
      little = search rules;
      goes = to_held _ k.line k.len k.phase part l.b-index _ v.line_long h refl q z v.goes;
      prints =
          out_held _ k.line k.len k.phase part l.b-index _ v.line_long h refl q (take l.n l.out) z v.goes v.prints;
      lays = lay_held _ k.line k.len part l.b-index h _ refl v.lays q z;
      rest = v.rest;
    }

pub returns-clause-value : goal.returns-clause-value
unfolding run_out
returns-clause-value c =
    let l = c.loop-b in
    let d = drop_of_length-le c.args.part.now c.loop-b-test.false in
    ((printed l.out _ _ l.n (omega arith) (l.invariant.prints ∙ rw d (append-nil (take l.n l.out))) l.invariant.rest).0, search rules)

pub returns-clause-held : goal.returns-clause-held
unfolding run_to fed
returns-clause-held c =
    let l = c.loop-b in
    let k = l.carry in
    let part = c.args.part.now in
    let d = drop_of_length-le part c.loop-b-test.false in
    let to : run_to _ part ≡ state (take k.len k.line) k.phase = l.invariant.goes ∙ rw d refl in (
      sym to,
      rw (to, length-take-le k.len k.line (omega arith), ← line_laid _ k.line k.len part l.b-index c.loop-b-test.false l.invariant.lays) refl,
      l.invariant.held_most,
    )

pub returns-clause-printed : goal.returns-clause-printed
unfolding run_out
returns-clause-printed c =
    let l = c.loop-b in
    let d = drop_of_length-le c.args.part.now c.loop-b-test.false in
    (printed l.out _ _ l.n (omega arith) (l.invariant.prints ∙ rw d (append-nil (take l.n l.out))) l.invariant.rest).1
