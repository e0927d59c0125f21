-- No second answer fits a public function's contract.
use mathlib.Core.Path.{refl}
use Rattle.p0_choice.proofs.Only.{OneAnswer, alike}
use Rattle.p5_nodes.proofs as own

pub entry_only : OneAnswer own.entry.Kinds.ps own.entry.Kinds.r own.entry.Reads.Asked own.entry.Reads.Learnt
entry_only κs a = (tt, λ z z' w w' q q'. (alike q q', refl))
