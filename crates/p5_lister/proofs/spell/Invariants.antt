use Prim.Native.Nat.{◌-◌}
use mathlib.Core.List.{◌++◌}
use lib.ListN.{take}
use Rattle.p4_spelling.specs.Verdict.{longest_length}
use Rattle.p5_trie.specs.Mirror.{nth, trie_at}
use Rattle.p5_trie.proofs.Spell.{Spell}
use Rattle.p5_listing.specs.Mirror.{nodes}
use Rattle.p5_lister.proofs.spell.Given as goal

abbrev pub invariant-loop-halt : goal.invariant-loop-halt
invariant-loop-halt l =
    Spell nodes longest_length (take l.initial.word.len l.initial.word.letters ++ nth (trie_at nodes l.from) l.n) l.word.letters l.word.len l.row l.left

abbrev pub decreases-loop-halt : goal.decreases-loop-halt
decreases-loop-halt l = longest_length - l.word.len
