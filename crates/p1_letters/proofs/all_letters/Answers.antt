use Rattle.std.proofs.Common.{rules, ◌∙◌}
use Rattle.std.proofs.lemmas.Iterator.{YieldsList-from_slice}
use Rattle.std.proofs.lemmas.Iterator.Search.{all_from_yields_List}
use borrow.Author.Tests.{tests}
use Rattle.p1_letters.specs.Alphabet.{in_alphabet}
use Rattle.p1_letters.proofs.Words.{each_letter}
use Rattle.p1_letters.proofs.all_letters.Goals as goal

pub returns : goal.returns
returns c =
    all_from_yields_List in_alphabet _ _ c.all.result c.all.ensures.ran (YieldsList-from_slice c.args.s.now c.iter.ensures.rest)
    (λ x b q k. search (rules, tests))
    ∙ each_letter c.args.s.now
