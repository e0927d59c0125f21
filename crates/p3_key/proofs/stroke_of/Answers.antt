use Rattle.p3_key.proofs.Strokes.{stroke_unsound, stroke_foreign, stroke_step, stroke_pass, bounded}
use Rattle.p3_key.proofs.stroke_of.Goals as goal

pub returns-then-not-sound : goal.returns-then-not-sound
returns-then-not-sound c = bounded _ _ _ _ _ _ _ (search stroke_unsound)

pub returns-then-not-in_alphabet : goal.returns-then-not-in_alphabet
returns-then-not-in_alphabet c = bounded _ _ _ _ _ _ _ (search stroke_foreign)

pub returns-in-Vietnamese : goal.returns-in-Vietnamese
returns-in-Vietnamese c = bounded _ _ _ _ _ _ _ (search stroke_step)

pub returns-in-English : goal.returns-in-English
returns-in-English c = bounded _ _ _ _ _ _ _ (search stroke_pass)
