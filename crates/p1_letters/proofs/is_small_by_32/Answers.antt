use mathlib.Core.Path.{sym, ◌∙◌}
use native.Mathlib.Omega.{arith}
use Rattle.p1_letters.proofs.Alphabet.{by32_below, by32_above, by32_block}
use Rattle.p1_letters.proofs.is_small_by_32.Goals as goal

pub returns-in_default : goal.returns-in_default
returns-in_default c = sym (by32_below _ (omega arith))

pub returns-in_default-2 : goal.returns-in_default-2
returns-in_default-2 c = sym (by32_above _ (omega arith))

pub returns-in-224-to-255 : goal.returns-in-224-to-255
returns-in-224-to-255 c = c.bit.ensures ∙ by32_block _ (omega arith) (omega arith)
