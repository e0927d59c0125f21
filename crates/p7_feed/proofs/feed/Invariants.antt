use mathlib.Core.Path.{◌≡◌}
use mathlib.Core.List.{◌++◌}
use Prim.Native.Nat.{◌≤◌, ◌*◌}
use lib.ListN.{length, take, drop}
use Rattle.p7_line.specs.Line.{most}
use Rattle.p7_line.specs.Mirror.{line_room}
use Rattle.p7_feed.specs.Mirror.{state_of, out_room, run_to, run_out, line_after}
use Rattle.p7_feed.proofs.feed.Given as goal

abbrev pub invariant-loop-b : goal.invariant-loop-b
invariant-loop-b l = record {
  line_long : length l.carry.line ≡ most;
  out_long : length l.out ≡ out_room;
  held_most : l.carry.len ≤ most;
  little : l.n ≤ line_room * l.b-index;
  goes : run_to (state_of l.initial.carry) l.part ≡ run_to (state_of l.carry) (drop l.b-index l.part);
  prints : run_out (state_of l.initial.carry) l.part ≡ take l.n l.out ++ run_out (state_of l.carry) (drop l.b-index l.part);
  lays : line_after l.initial.carry.line l.initial.carry.len l.part ≡ line_after l.carry.line l.carry.len (drop l.b-index l.part);
  rest : drop l.n l.out ≡ drop l.n l.initial.out;
}
