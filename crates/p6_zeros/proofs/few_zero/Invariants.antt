use Rattle.std.proofs.Common.{◌≡◌, eqb}
use Rattle.p6_zeros.specs.Mirror.{zero_in}
use Rattle.p6_zeros.proofs.few_zero.Given as goal

abbrev pub invariant-loop-x : goal.invariant-loop-x
invariant-loop-x l = eqb l.seen 0 ≡ zero_in l.b l.x-index 0
