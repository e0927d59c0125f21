use Rattle.std.proofs.Common.{◌≡◌, drop}
use Rattle.p3_undo.specs.Mirror.{sign_cells}
use Rattle.p3_undo.specs.Raw.{raw_lowered}
use Rattle.p3_undo.specs.Undo.{by_rules}
use Rattle.p3_undo.proofs.by_rules.Given as goal

abbrev pub invariant-loop-rule : goal.invariant-loop-rule
invariant-loop-rule l =
    by_rules (sign_cells l.row) (raw_lowered l.raw) l.t l.rule-items ≡ by_rules (sign_cells l.row) (raw_lowered l.raw) l.t (drop l.rule-index l.rule-items)
