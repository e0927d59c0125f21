use Rattle.std.proofs.Common.{rules, refl, arith, ◌∙◌}
use Rattle.std.proofs.lemmas.Iterator.{YieldsList-from_range}
use Rattle.std.proofs.lemmas.Iterator.Search.{all_from_yields_List}
use borrow.Author.Tests.{tests}
use Rattle.p6_zeros.proofs.Ranges.{list_all-each}
use Rattle.p6_draft.specs.Mirror.{draft_cell_fits, draft_cells_fit}
use Rattle.p6_draft.proofs.cells_fit.Goals as goal

pub returns : goal.returns
unfolding draft_cells_fit
returns c =
    all_from_yields_List (draft_cell_fits c.args.draft.now) _ _ c.all.result c.all.ensures.ran (YieldsList-from_range 0 _ c.args.n refl (omega arith))
    (λ x b q k. search (rules, tests))
    ∙ list_all-each (draft_cell_fits c.args.draft.now) c.args.n 0
