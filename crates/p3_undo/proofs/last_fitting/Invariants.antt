use Rattle.std.proofs.Common.{◌≡◌, ℕ, Bool, length}
use Rattle.p3_cells.specs.declared.Cell.{Cell}
use Rattle.p3_undo.specs.Mirror.{bearing, sign_cells}
use Rattle.p3_undo.specs.Undo.{last_with}
use Rattle.p3_undo.proofs.last_fitting.Given as goal

abbrev pub invariant-loop-i : goal.invariant-loop-i
invariant-loop-i g l =
    (p : Cell → Bool) → ((s : ℕ) (b : Bool) → goal.F-post g l.fits s b → b ≡ p (bearing s))
    → last_with p (sign_cells l.row) (length l.row) ≡ last_with p (sign_cells l.row) l.i
