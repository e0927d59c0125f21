-- The table is the list. Written by tools/nodes.py.
use Rattle.std.proofs.Common.{rules}
use Rattle.p5_listing.specs.Mirror.{entries, entry_at}
use Rattle.p5_nodes.proofs.entry.Goals as goal

pub returns : goal.returns
unfolding entry_at entries
returns c = search rules
