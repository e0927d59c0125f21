use borrow.Author.Rules.{rules}
use Rattle.p6_draft.proofs.Tests.{mark_decides}
use Rattle.p6_draft.proofs.cell_fits.Goals as goal

pub returns-then-from-x : goal.returns-then-from-x
returns-then-from-x c = search (rules, mark_decides)
