-- The letters that are left: the word reader has passed one when it calls, and the gap reader perhaps none.
use Prim.Native.Nat.{◌+◌, ◌*◌}
use lib.ListN.{length}
use Rattle.p4_note_line.proofs.+gap_word.Given as goal

abbrev pub decreases-gap : goal.decreases-gap
decreases-gap l = 2 * length l.rest.now + 1

abbrev pub decreases-word : goal.decreases-word
decreases-word l = 2 * length l.rest.now
