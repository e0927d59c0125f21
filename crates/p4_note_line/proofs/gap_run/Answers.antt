use Rattle.std.proofs.Common.{◌∙◌, arith, rules, not}
use Rattle.std.proofs.lemmas.Iterator.{YieldsList-from_slice}
use Rattle.std.proofs.lemmas.Iterator.Search.{position_from_yields_List}
use borrow.Author.Tests.{tests}
use Rattle.p1_letters.specs.Alphabet.{is_separator}
use Rattle.p4_note_line.proofs.Scans.{gap_is, gap_le}
use Rattle.p4_note_line.proofs.gap_run.Goals as goal

pub returns-clause-value : goal.returns-clause-value
returns-clause-value c =
    c.unwrap_or.ensures
    ∙ gap_is _ _
    (position_from_yields_List (λ x. not (is_separator x)) _ _ _ c.position.ensures.ran (YieldsList-from_slice c.args.rest.now cc)
    (λ x b q k. search (rules, tests)))

pub returns-clause-within : goal.returns-clause-within
returns-clause-within c = omega (arith, returns-clause-value c, gap_le c.args.rest.now)
