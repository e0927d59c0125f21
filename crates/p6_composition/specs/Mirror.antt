-- How the code holds things: no sentence of document 01 stands here, and no promise to a host leads here.
use Rattle.std.specs.Prelude.{ℕ, List, set}
use Rattle.p3_cells.specs.Cells.{used}
use Rattle.p3_cells.specs.declared.After.{After}
use Rattle.p3_step.specs.Mirror.{put, also_put}
use Rattle.p3_step.specs.declared.Step.{Step}
use Rattle.p3_undo.specs.Call.{undo_found}
use Rattle.p3_undo.specs.Raw.{raw_lowered}
use Rattle.p3_undo.specs.Undo.{to_undo}
use Rattle.p6_bytes.specs.Bytes.{composition_of}
use Rattle.p6_bytes.specs.Mirror.{stored}
use Rattle.p6_composition.specs.UndoAnswer.{undo_leaving}

-- the bytes with the cells of a step stored where they lie, and the count
unfoldable pub applied : List ℕ → Step → ℕ → ℕ → List ℕ
applied b s key k =
    set (stored (stored b s.also (also_put s (composition_of b))) s.at (put s (composition_of b) key k)) 2 s.count

-- what undo leaves by a trigger in lower case, where nothing is refused before it is asked what is found
unfoldable pub found_on : List ℕ → List ℕ → ℕ → After
found_on b raw t =
    undo_leaving (undo_found (composition_of b) (to_undo (composition_of b).settings.method (used (composition_of b)) (raw_lowered raw) t))
