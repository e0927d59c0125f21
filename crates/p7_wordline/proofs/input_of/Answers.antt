use Rattle.std.proofs.Common.{sym, ◌∙◌}
use Rattle.p7_wordline.proofs.Turns.{interrupted, failed, no_more, some}
use Rattle.p7_wordline.proofs.input_of.Goals as goal

pub returns-then-eq : goal.returns-then-eq
returns-then-eq c = interrupted _ _ _ _ c.in-Err.is c.raw_os_error.ensures (sym c.if-eq.true ∙ c.eq.ensures)

pub returns-else-eq : goal.returns-else-eq
returns-else-eq c = failed _ _ _ _ c.in-Err.is c.raw_os_error.ensures (sym c.if-eq.false ∙ c.eq.ensures)

pub returns-then-k-eq0 : goal.returns-then-k-eq0
returns-then-k-eq0 c = no_more _ _ _ c.in-Ok.is c.if-k-eq0.true

pub returns-else-k-eq0 : goal.returns-else-k-eq0
returns-else-k-eq0 c = some _ _ _ _ c.in-Ok.is c.if-k-eq0.false c.min.ensures
