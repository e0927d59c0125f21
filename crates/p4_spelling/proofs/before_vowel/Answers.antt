use Rattle.std.proofs.Common.{◌∙◌, rules}
use Rattle.std.proofs.lemmas.Iterator.{YieldsList-from_slice}
use Rattle.std.proofs.lemmas.Iterator.Search.{position_from_yields_List}
use borrow.Author.Tests.{tests}
use Rattle.p1_letters.specs.Vowels.{is_spelling_vowel}
use Rattle.p4_spelling.proofs.Scans.{before_is}
use Rattle.p4_spelling.proofs.before_vowel.Goals as goal

pub returns : goal.returns
returns c =
    c.unwrap_or.ensures
    ∙ before_is _ _
    (position_from_yields_List is_spelling_vowel _ _ _ c.position.ensures.ran (YieldsList-from_slice c.args.word.now cc)
    (λ x b q k. search (rules, tests)))
