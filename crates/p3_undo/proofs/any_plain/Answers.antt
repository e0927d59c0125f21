use Rattle.std.proofs.Common.{rules, ◌∙◌}
use Rattle.std.proofs.lemmas.Iterator.{YieldsList-from_slice}
use Rattle.std.proofs.lemmas.Iterator.Search.{any_from_yields_List}
use borrow.Author.Tests.{tests}
use Rattle.p0_choice.specs.Choice.{among}
use Rattle.p0_choice.specs.Text.{word}
use Rattle.p1_letters.specs.Alphabet.{ascii_lower}
use Rattle.p3_undo.proofs.Raw.{plain_any}
use Rattle.p3_undo.proofs.any_plain.Goals as goal

pub returns : goal.returns
returns c =
    any_from_yields_List (λ x. among (ascii_lower x) (word "aeiouy")) _ _ c.any.result c.any.ensures.ran
    (YieldsList-from_slice c.args.raw.now c.iter.ensures.rest) (λ x b q k. search (rules, tests))
    ∙ plain_any c.args.raw.now
