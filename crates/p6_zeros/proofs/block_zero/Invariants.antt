use Rattle.std.proofs.Common.{◌≡◌, ◌*◌, eqb}
use Rattle.p6_zeros.specs.Mirror.{zero_in}
use Rattle.p6_zeros.proofs.block_zero.Given as goal

abbrev pub invariant-loop-j : goal.invariant-loop-j
invariant-loop-j l = eqb l.seen 0 ≡ zero_in l.b (8 * l.j) l.at
