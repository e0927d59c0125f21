use borrow.Author.Rules.{rules}
use mathlib.Core.Path.{◌≡◌}
use lib.ListN.{take}
use Rattle.p3_cells.specs.Mirror.{first_cells}
use Rattle.p3_undo.specs.Mirror.{sign, signs}
use Rattle.p6_bytes.specs.Bytes.{composition_of}
use Rattle.p6_composition.proofs.OneUndo.{undo_on_lem}
use Rattle.p6_composition.proofs.undo_on.Goals as goal

ruleset answers = (rules, undo_on_lem)

pub returns : goal.returns
unfolding signs
returns c =
    let f : take c.args.n c.fill.new.row ≡ signs (first_cells (composition_of c.args.b.now) c.args.n) = c.fill.ensures sign (λ x r p. search rules) in
    search answers
