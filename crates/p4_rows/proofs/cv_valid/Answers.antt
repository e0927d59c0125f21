-- The code's matrix is that of document 01, as yes and no.
use Rattle.p4_rows.specs.Rows.{onset_to_vowels}
use Rattle.p4_rows.proofs.Matrices.{yes_no, cv_told}
use Rattle.p4_rows.proofs.cv_valid.Goals as goal

pub returns : goal.returns
unfolding yes_no onset_to_vowels
returns c = cv_told _ _ _ c.pair_valid.ensures
