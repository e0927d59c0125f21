use native.Mathlib.Omega.{arith}
use mathlib.Core.Path.{ap}
use lib.ListN.{length}
use Rattle.p0_choice.specs.Text.{word}
use Rattle.p7_line.proofs.Written.{both, one_digit, two_digits}
use Rattle.p7_line.proofs.put_refused.Goals as goal

pub returns-then-number-lt10 : goal.returns-then-number-lt10
unfolding word
returns-then-number-lt10 c =
    let e = one_digit _ _ c.from-number.ensures c.if-number-lt10.true _ c.digit.ensures in
    both _ _ _ (word "refused ") _ _ _ _ c.put-next.ensures.0 c.put.ensures.0 (omega arith) e (omega (arith, ap length e))
    c.put-next.ensures.1 c.put.ensures.1

pub returns : goal.returns
unfolding word
returns c =
    let e = two_digits _ _ c.from-number.ensures c.if-number-lt10.false _ _ c.digit-2.ensures c.digit-3.ensures in
    both _ _ _ (word "refused ") _ _ _ _ c.put-next.ensures.0 c.put-2.ensures.0 (omega arith) e (omega (arith, ap length e))
    c.put-next.ensures.1 c.put-2.ensures.1
