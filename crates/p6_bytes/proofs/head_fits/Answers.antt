use Rattle.std.proofs.Common.{rules}
use borrow.Author.Tests.{tests}
use Rattle.p6_bytes.proofs.Tests.{head_rest, no_method, no_mode}
use Rattle.p6_bytes.proofs.head_fits.Goals as goal
use Rattle.p6_bytes.proofs.head_fits.Goals.{then-b-le1, else-b-le1}

pub returns-then-b-le1-2 : goal.returns-then-b-le1-2
returns-then-b-le1-2 c = elim c.if-b-le1.branch [ then-b-le1 w ↦ search (rules, tests, head_rest) | else-b-le1 w ↦ search (rules, tests) ]

pub returns-else-b-le1-2 : goal.returns-else-b-le1-2
returns-else-b-le1-2 c = elim c.if-b-le1.branch [ then-b-le1 w ↦ search (rules, tests, no_mode) | else-b-le1 w ↦ search (rules, tests, no_method) ]
