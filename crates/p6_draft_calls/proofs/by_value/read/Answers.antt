use borrow.Author.Rules.{rules}
use Rattle.p6_draft.proofs.Exact.{passed}
use Rattle.p6_draft_calls.proofs.Reading.{read_refused, read_given}
use Rattle.p6_draft_calls.proofs.by_value.read.Goals as goal

pub returns-then-not-is_draft : goal.returns-then-not-is_draft
returns-then-not-is_draft c = read_refused _ _ _ c.is_draft.ensures (search rules)

pub composition-requires : goal.composition-requires
composition-requires c = search passed

pub returns : goal.returns
returns c = read_given _ _ _ c.is_draft.ensures _ (search rules) c.type_inv.draft c.composition.ensures
