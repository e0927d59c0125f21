-- The code's matrix is that of document 01, as yes and no.
use Rattle.p4_rows.specs.Rows.{vowels_to_coda}
use Rattle.p4_rows.proofs.Matrices.{yes_no, vc_told}
use Rattle.p4_rows.proofs.vc_valid.Goals as goal

pub returns : goal.returns
unfolding yes_no vowels_to_coda
returns c = vc_told _ _ _ c.pair_valid.ensures
