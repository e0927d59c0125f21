use mathlib.Core.Path.{refl}
use Rattle.p5_listing.proofs.Numbering.{listed_many}
use Rattle.p5_lister.proofs.total.Goals as goal

pub returns : goal.returns
returns c = (refl, listed_many)
