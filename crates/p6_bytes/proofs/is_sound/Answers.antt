use Rattle.std.proofs.Common.{rules}
use borrow.Author.Tests.{tests}
use Rattle.p6_bytes.proofs.Sound.{last_decides, no_head, no_count, no_cells}
use Rattle.p6_bytes.proofs.is_sound.Goals as goal
use Rattle.p6_bytes.proofs.is_sound.Goals.{then-n-le-LIMIT, else-n-le-LIMIT}

pub returns-then-cells_fit : goal.returns-then-cells_fit
returns-then-cells_fit c =
    elim c.if-n-le-LIMIT.branch [
      | then-n-le-LIMIT w ↦ search (rules, tests, last_decides)
      | else-n-le-LIMIT w ↦ search (rules, tests)
    ]

pub returns-else-cells_fit : goal.returns-else-cells_fit
returns-else-cells_fit c =
    elim c.if-n-le-LIMIT.branch [
      | then-n-le-LIMIT w ↦ search (rules, tests, no_cells)
      | else-n-le-LIMIT w ↦ search (rules, tests, no_head, no_count)
    ]
