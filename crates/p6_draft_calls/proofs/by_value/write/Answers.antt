use borrow.Author.Rules.{rules}
use mathlib.Core.Path.{◌≡◌}
use Rattle.p3_cells.specs.Cells.{used}
use Rattle.p3_cells.proofs.Text.{length_under}
use Rattle.p6_draft.specs.Draft.{draft_cells}
use Rattle.p6_draft.specs.Mirror.{draft_head, put_at}
use Rattle.p6_draft_calls.proofs.Writing.{value_ways}
use Rattle.p6_draft_calls.proofs.by_value.write.Goals as goal

ruleset answers = (rules, value_ways)

pub returns-then-not-sound-clause-value : goal.returns-then-not-sound-clause-value
returns-then-not-sound-clause-value c = search answers

pub returns-then-not-sound-clause-draft_after : goal.returns-then-not-sound-clause-draft_after
returns-then-not-sound-clause-draft_after c = search answers

pub overflow_mul-m : goal.overflow_mul-m
overflow_mul-m c = search answers

pub overflow_add-m : goal.overflow_add-m
overflow_add-m c = search answers

pub returns-then-draft-m-clause-value : goal.returns-then-draft-m-clause-value
returns-then-draft-m-clause-value c = search answers

pub returns-then-draft-m-clause-draft_after : goal.returns-then-draft-m-clause-draft_after
returns-then-draft-m-clause-draft_after c = search answers

pub put_head-requires : goal.put_head-requires
put_head-requires c = search answers

pub put_cells-requires : goal.put_cells-requires
put_cells-requires c = search answers

pub put_tail-requires : goal.put_tail-requires
put_tail-requires c = search answers

pub returns-clause-value : goal.returns-clause-value
returns-clause-value c = search answers

pub returns-clause-draft_after : goal.returns-clause-draft_after
unfolding used
returns-clause-draft_after c =
    let f : c.put_cells.new.draft ≡ put_at draft_head (draft_cells (used c.args.c)) c.put_head.new.draft =
    c.put_cells.ensures c.args.c (search (rules, length_under)) (λ i x h p. search rules) in
    search answers
