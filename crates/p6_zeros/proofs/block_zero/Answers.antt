use Rattle.std.proofs.Common.{◌≡◌, ◌+◌, ◌*◌, refl, arith}
use Rattle.p6_zeros.specs.Mirror.{zero_in}
use Rattle.p6_zeros.proofs.Zeros.{run_on, long_zero}
use Rattle.p6_zeros.proofs.block_zero.Goals as goal

pub loop-j-init : goal.loop-j-init
unfolding zero_in
loop-j-init c = refl

pub loop-j-preserved : goal.loop-j-preserved
loop-j-preserved c =
    let e : 8 * (c.loop-j.j + 1) ≡ 8 * c.loop-j.j + 8 = omega arith in
    rw e (run_on c.args.b.now (8 * c.loop-j.j) 8 c.args.at _ _ c.loop-j.invariant (long_zero _ _ _ c.long_at-seen.ensures))

pub returns : goal.returns
returns c = let e : 8 * c.loop-j.j ≡ 128 = omega arith in rw e at c.loop-j.invariant
