use borrow.Author.Rules.{rules}
use mathlib.Core.Path.{◌≡◌, refl}
use Rattle.std.specs.Prelude.{Some}
use native.Mathlib.Omega.{arith}
use Rattle.p5_utf8.specs.Rfc3629.{char_at}
use Rattle.p5_utf8_text.proofs.Surveying.{ways, survey_ascii}
use Rattle.p5_utf8_text.proofs.reader.survey.Goals as goal

ruleset answers = (rules, ways, refl)

pub loop-i-preserved-then-a-lt128 : goal.loop-i-preserved-then-a-lt128
loop-i-preserved-then-a-lt128 c = (search rules, search survey_ascii)

pub returns-then-not-in_alphabet : goal.returns-then-not-in_alphabet
returns-then-not-in_alphabet c = let q : char_at c.args.bytes.now c.loop-i.i ≡ Some c.in_ok-found.found = grind arith in search answers

pub overflow_add-i-in-loop-i : goal.overflow_add-i-in-loop-i
overflow_add-i-in-loop-i c = let q : char_at c.args.bytes.now c.loop-i.i ≡ Some c.in_ok-found.found = grind arith in search answers

pub loop-i-preserved : goal.loop-i-preserved
loop-i-preserved c = let q : char_at c.args.bytes.now c.loop-i.i ≡ Some c.in_ok-found.found = grind arith in search answers
