use mathlib.Core.Path.{◌≡◌}
use mathlib.Core.Bool.{true}
use Rattle.p3_cells.specs.Cells.{is_sound}
use Rattle.p7_bench.proofs.Typing.{Typing}
use Rattle.p7_bench_inner.proofs.pasdrongel_bench_sound_keys.Given as goal

abbrev pub invariant-loop-k : goal.invariant-loop-k
invariant-loop-k l = (Typing l.keys l.initial.text l.text l.c l.refused l.k-index) × (is_sound l.c ≡ true)
