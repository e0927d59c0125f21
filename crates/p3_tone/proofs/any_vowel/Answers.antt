use Rattle.std.proofs.Common.{rules, ◌∙◌}
use Rattle.std.proofs.lemmas.Iterator.{YieldsList-from_slice}
use Rattle.std.proofs.lemmas.Iterator.Search.{any_from_yields_List}
use borrow.Author.Tests.{tests}
use Rattle.p1_letters.specs.Vowels.{is_vowel}
use Rattle.p3_tone.proofs.Vowels.{row_any}
use Rattle.p3_tone.proofs.any_vowel.Goals as goal

pub returns : goal.returns
returns c =
    any_from_yields_List is_vowel _ _ c.any.result c.any.ensures.ran (YieldsList-from_slice c.args.row.now c.iter.ensures.rest)
    (λ x b q k. search (rules, tests))
    ∙ row_any c.args.row.now
