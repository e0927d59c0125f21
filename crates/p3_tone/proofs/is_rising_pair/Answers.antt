use Rattle.std.proofs.Common.{arith}
use Rattle.p0_choice.specs.Text.{word, words, words_from}
use Rattle.p3_tone.specs.TonePlace.{pair_in, rising_pair}
use Rattle.p3_tone.proofs.is_rising_pair.Goals as goal

pub returns-in_default : goal.returns-in_default
unfolding rising_pair pair_in words words_from word
returns-in_default c = grind arith
