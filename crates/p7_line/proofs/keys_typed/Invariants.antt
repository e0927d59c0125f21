use mathlib.Core.Path.{◌≡◌}
use lib.ListN.{length}
use Rattle.p3_cells.specs.Cells.{limit}
use Rattle.p7_line.proofs.Typing.{Typing}
use Rattle.p7_line.proofs.keys_typed.Given as goal

abbrev pub invariant-loop-key : goal.invariant-loop-key
invariant-loop-key l = (length l.text ≡ limit) × Typing l.initial.c.settings l.keys l.c l.text l.count l.key-index
