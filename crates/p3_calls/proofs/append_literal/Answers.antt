use Rattle.p3_cells.proofs.Leaving.{leaves}
use Rattle.p3_calls.specs.Literal.{literal}
use Rattle.p3_calls.proofs.Literal.{literals}
use Rattle.p3_calls.proofs.append_literal.Goals as goal

ruleset answers = (leaves, literals)

pub returns-then-not-sound : goal.returns-then-not-sound
unfolding literal
returns-then-not-sound c = search answers

pub returns-then-not-in_alphabet : goal.returns-then-not-in_alphabet
unfolding literal
returns-then-not-in_alphabet c = search answers

pub returns-then-c-ge-LIMIT : goal.returns-then-c-ge-LIMIT
unfolding literal
returns-then-c-ge-LIMIT c = search answers
