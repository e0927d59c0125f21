use borrow.Author.Rules.{rules}
use mathlib.Core.Path.{◌≡◌}
use lib.ListN.{take}
use Rattle.p3_cells.specs.Mirror.{first_cells}
use Rattle.p3_cells.specs.Row.{base_of, bases}
use Rattle.p6_bytes.specs.Bytes.{composition_of}
use Rattle.p6_composition.proofs.OneKey.{idle_on, row_on}
use Rattle.p6_composition.proofs.step_on.Goals as goal

ruleset answers = (rules, idle_on, row_on)

pub returns-then-not-acts : goal.returns-then-not-acts
returns-then-not-acts c = search answers

pub returns : goal.returns
unfolding bases
returns c =
    let f : take c.args.n c.fill.new.row ≡ bases (first_cells (composition_of c.args.b.now) c.args.n) = c.fill.ensures base_of (λ x r p. search rules) in
    search answers
