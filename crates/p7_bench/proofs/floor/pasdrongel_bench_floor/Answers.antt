use borrow.Author.Rules.{rules}
use Rattle.p7_bench.proofs.Rows.{lay_start, lay_line, lay_more}
use Rattle.p7_bench.proofs.floor.pasdrongel_bench_floor.Goals as goal
use Rattle.p7_bench.proofs.floor.pasdrongel_bench_floor.Goals.{then-k-eq10, else-k-eq10}

pub loop-k-init : goal.loop-k-init
loop-k-init c = search (rules, lay_start)

pub loop-k-preserved : goal.loop-k-preserved
loop-k-preserved c =
    elim c.if-k-eq10.branch [
      | then-k-eq10 w ↦ search (rules, lay_line)
      | else-k-eq10 w ↦ search (rules, lay_more)
    ]
