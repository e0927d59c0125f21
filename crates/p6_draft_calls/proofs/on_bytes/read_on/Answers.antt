use borrow.Author.Rules.{rules}
use Rattle.p6_draft.proofs.Exact.{passed}
use Rattle.p6_draft_calls.proofs.Reading.{read_size, read_none, read_done}
use Rattle.p6_draft_calls.proofs.on_bytes.read_on.Goals as goal

ruleset answers = (rules, passed)

pub returns-in_default : goal.returns-in_default
returns-in_default c = read_size _ _ c.type_inv.draft (search rules)

pub returns-then-not-is_draft : goal.returns-then-not-is_draft
returns-then-not-is_draft c = read_none _ _ (search rules) _ c.is_draft.ensures _ (search rules) (search rules)

pub fill_on-requires : goal.fill_on-requires
fill_on-requires c = search answers

pub returns : goal.returns
returns c = read_done _ _ (search rules) _ c.is_draft.ensures _ (search rules) c.type_inv.draft (search rules)
