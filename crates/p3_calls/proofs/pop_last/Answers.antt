use Rattle.p3_calls.proofs.Output.{removal, removal_below}
use Rattle.p3_calls.proofs.pop_last.Goals as goal

pub returns : goal.returns
returns c = (search removal, search removal)

pub bounds-c-left : goal.bounds-c-left
bounds-c-left c = search removal_below
