use Rattle.p7_bench.proofs.Typing.{Typing}
use Rattle.p7_bench.proofs.keys.pasdrongel_bench_keys.Given as goal

abbrev pub invariant-loop-k : goal.invariant-loop-k
invariant-loop-k l = Typing l.keys l.initial.text l.text l.c l.refused l.k-index
