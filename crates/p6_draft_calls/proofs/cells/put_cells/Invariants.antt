use Rattle.std.proofs.Common.{◌≡◌, ℕ, ◌<◌, length}
use Rattle.p3_cells.specs.Cells.{limit}
use Rattle.p3_cells.specs.Mirror.{cell_of, first_cells, places}
use Rattle.p3_cells.specs.declared.Cell.{Cell}
use Rattle.p3_cells.specs.declared.Composition.{Composition}
use Rattle.p6_draft.specs.Draft.{draft_cells}
use Rattle.p6_draft.specs.Mirror.{draft_head, put_at}
use Rattle.p6_draft_calls.proofs.cells.put_cells.Given as goal

abbrev pub invariant-loop-i : goal.invariant-loop-i
invariant-loop-i g l =
    (length l.draft ≡ length l.initial.draft)
    × ((c : Composition) → places c ≡ limit → ((i : ℕ) (x : Cell) → i < l.n → goal.F-post g l.cell i x → x ≡ cell_of c i)
    → l.draft ≡ put_at draft_head (draft_cells (first_cells c l.i)) l.initial.draft)
