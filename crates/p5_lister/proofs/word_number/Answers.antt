use mathlib.Core.Path.{refl}
use native.Mathlib.Omega.{arith}
use borrow.Author.Rules.{rules}
use lib.ListN.{take}
use Rattle.p5_listing.proofs.Computed.{size_listing}
use Rattle.p5_listing.proofs.Numbering.{lists}
use Rattle.p5_lister.proofs.Reading.{root_size, root_depth, root_word}
use Rattle.p5_lister.proofs.Answers.{beyond, numbered}
use Rattle.p5_lister.proofs.word_number.Goals as goal

pub returns-then-n-ge-TOTAL : goal.returns-then-n-ge-TOTAL
returns-then-n-ge-TOTAL c = beyond lists _ _ _ c.args.n (omega (arith, c.if-n-ge-TOTAL.true, size_listing)) (search rules) (search rules)

pub spell-word-requires : goal.spell-word-requires
spell-word-requires c = (omega arith, omega (arith, c.if-n-ge-TOTAL.false, root_size), omega (arith, root_depth, c.keep-none.ensures.0))

pub returns : goal.returns
returns c =
    numbered lists _ _ _ c.args.n (omega (arith, c.if-n-ge-TOTAL.false, size_listing))
    (take c.spell-word.result.len c.spell-word.result.letters) (root_word _ c.args.n _ (rw c.keep-none.ensures.0 at c.spell-word.ensures.1) refl)
    (search rules) (search rules)
