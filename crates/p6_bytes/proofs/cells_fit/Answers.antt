use Rattle.std.proofs.Common.{rules, refl, arith, ◌∙◌}
use Rattle.std.proofs.lemmas.Iterator.{YieldsList-from_range}
use Rattle.std.proofs.lemmas.Iterator.Search.{all_from_yields_List}
use borrow.Author.Tests.{tests}
use Rattle.p6_zeros.proofs.Ranges.{list_all-each}
use Rattle.p6_bytes.specs.Mirror.{cell_fits, cells_fit}
use Rattle.p6_bytes.proofs.cells_fit.Goals as goal

pub returns : goal.returns
unfolding cells_fit
returns c =
    all_from_yields_List (cell_fits c.args.b.now) _ _ c.all.result c.all.ensures.ran (YieldsList-from_range 0 _ c.args.n refl (omega arith))
    (λ x b q k. search (rules, tests))
    ∙ list_all-each (cell_fits c.args.b.now) c.args.n 0
