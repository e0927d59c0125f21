-- Document 01, "A key, step by step", *Mark*: "From the last cell back over at most 5, any letters between: the first whose
-- base with k is a rule takes the result as base and mark; tone and flag stay."
use Rattle.std.specs.Prelude.{ℕ, zero, suc, List, eqb, length, get_or, set, None, Option, Some}
use Rattle.p0_choice.specs.Choice.{pick}
use Rattle.p2_input_method.specs.Rules.{mark_for}
use Rattle.p2_input_method.specs.declared.InputMethod.{InputMethod}
use Rattle.p3_cells.specs.Cells.{blank}
use Rattle.p3_cells.specs.declared.Cell.{Cell}
use Rattle.p3_marks.specs.Uo.{base_at}
use Rattle.p3_marks.specs.Ua.{marked}

-- with i cells at hand, of which the last is looked at; n may be
unfoldable pub mark_back : InputMethod → List Cell → ℕ → ℕ → ℕ → Option ℕ
mark_back m cs k zero i = None
mark_back m cs k (suc n) zero = None
mark_back m cs k (suc n) (suc i) = pick (eqb (mark_for m (base_at cs i) k) 0) (mark_back m cs k n i) (Some i)

unfoldable pub mark_place : InputMethod → List Cell → ℕ → Option ℕ
mark_place m cs k = mark_back m cs k 5 (length cs)

unfoldable pub mark_made : InputMethod → List Cell → ℕ → ℕ → List Cell
mark_made m cs k i = set cs i (marked (get_or cs i blank) (mark_for m (base_at cs i) k))
