use borrow.Author.Rules.{rules}
use mathlib.Core.Path.{◌≡◌}
use Rattle.p3_cells.specs.Mirror.{first_cells}
use Rattle.p6_bytes.specs.Bytes.{composition_of}
use Rattle.p6_bytes.proofs.Stored.{cells_all}
use Rattle.p6_draft.specs.Draft.{draft_cells}
use Rattle.p6_draft.specs.Mirror.{draft_head, put_at}
use Rattle.p6_draft_calls.proofs.Writing.{bytes_few, bytes_ways}
use Rattle.p6_draft_calls.proofs.on_bytes.write_on.Goals as goal

ruleset answers = (rules, bytes_ways)

pub returns-in_default-clause-value : goal.returns-in_default-clause-value
returns-in_default-clause-value c = search answers

pub returns-in_default-clause-draft_after : goal.returns-in_default-clause-draft_after
returns-in_default-clause-draft_after c = search answers

pub overflow_mul-m : goal.overflow_mul-m
overflow_mul-m c = search answers

pub overflow_add-m : goal.overflow_add-m
overflow_add-m c = search answers

pub returns-then-draft-m-clause-value : goal.returns-then-draft-m-clause-value
returns-then-draft-m-clause-value c = search answers

pub returns-then-draft-m-clause-draft_after : goal.returns-then-draft-m-clause-draft_after
returns-then-draft-m-clause-draft_after c = search answers

pub put_head-requires : goal.put_head-requires
put_head-requires c = search answers

pub put_cells-requires-clause-callable : goal.put_cells-requires-clause-callable
put_cells-requires-clause-callable c =
    let few = bytes_few _ c.in-Some.ensures.1 _ c.cell_count-n.ensures in
    λ i h. search (rules, bytes_ways)

pub put_cells-requires-clause-room : goal.put_cells-requires-clause-room
put_cells-requires-clause-room c = search answers

pub put_tail-requires : goal.put_tail-requires
put_tail-requires c = search answers

pub returns-clause-value : goal.returns-clause-value
returns-clause-value c = search answers

pub returns-clause-draft_after : goal.returns-clause-draft_after
returns-clause-draft_after c =
    let b = c.in-Some.state.now in
    let f : c.put_cells.new.draft ≡ put_at draft_head (draft_cells (first_cells (composition_of b) c.cell_count-n.result)) c.put_head.new.draft =
    c.put_cells.ensures (composition_of b) (cells_all b) (λ i x h p. search rules) in
    rw (← c.in-Some.ensures.0) (search answers)
