use Prim.Native.Nat.{◌-◌}
use mathlib.Core.Path.{◌≡◌}
use lib.ListN.{drop}
use Rattle.p4_note_parts.specs.State.{letters_fit}
use Rattle.p4_note_parts.proofs.letters_fit.Given as goal

abbrev pub invariant-loop-i : goal.invariant-loop-i
invariant-loop-i l = letters_fit l.run l.kept ≡ letters_fit (l.run - l.i) (drop l.i l.kept)
