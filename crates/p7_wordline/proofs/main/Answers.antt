use Rattle.std.proofs.Common.{refl}
use native.Mathlib.Omega.{arith}
use Rattle.p7_wordline.specs.Mirror.{is_over}
use Rattle.p7_wordline.proofs.Turns.{came_none}
use Rattle.p7_wordline.proofs.main.Goals as goal

pub run-requires : goal.run-requires
unfolding is_over
run-requires c = (came_none _, omega arith, refl)
