use Rattle.std.proofs.Common.{◌∙◌, rules, not}
use Rattle.std.proofs.lemmas.Iterator.{YieldsList-from_slice}
use Rattle.std.proofs.lemmas.Iterator.Search.{position_from_yields_List}
use borrow.Author.Tests.{tests}
use Rattle.p1_letters.specs.Vowels.{is_spelling_vowel}
use Rattle.p4_spelling.proofs.Scans.{run_is}
use Rattle.p4_spelling.proofs.vowel_run.Goals as goal

pub returns : goal.returns
returns c =
    c.unwrap_or.ensures
    ∙ run_is _ _
    (position_from_yields_List (λ x. not (is_spelling_vowel x)) _ _ _ c.position.ensures.ran (YieldsList-from_slice c.args.word.now cc)
    (λ x b q k. search (rules, tests)))
