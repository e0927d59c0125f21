use Rattle.std.proofs.Common.{arith, sym, ◌∙◌}
use Rattle.p3_undo.proofs.Undo.{with_here, with_on, with_none}
use Rattle.p3_undo.proofs.last_fitting.Goals as goal

pub returns-then-fits : goal.returns-then-fits
returns-then-fits g c p f = with_here p _ _ (omega arith) _ (f _ _ c.fits.ensures) (c.loop-i.invariant p f) c.if-fits.true

pub loop-i-preserved : goal.loop-i-preserved
loop-i-preserved g c p f = with_on p _ _ (omega arith) _ (f _ _ c.fits.ensures) (c.loop-i.invariant p f) c.if-fits.false

pub returns : goal.returns
returns g c p f = sym (c.loop-i.invariant p f ∙ with_none p _ _ (omega arith))
