use Rattle.p7_bench.proofs.Rows.{Laying}
use Rattle.p7_bench.proofs.floor.pasdrongel_bench_floor.Given as goal

abbrev pub invariant-loop-k : goal.invariant-loop-k
invariant-loop-k l = Laying l.keys l.initial.text l.text l.row l.count l.k-index
