use Rattle.std.proofs.Common.{◌≤◌, ◌≡◌, false}
use Rattle.p7_line.specs.Line.{most}
use Rattle.p7_wordline.specs.Mirror.{is_over, Came}
use Rattle.p7_wordline.proofs.run.Given as goal

abbrev pub invariant-loop-turn : goal.invariant-loop-turn
invariant-loop-turn l = record {
  held_most : l.carry.len ≤ most;
  not_over : is_over l.carry.phase ≡ false;
  came : Came l.carry;
}
