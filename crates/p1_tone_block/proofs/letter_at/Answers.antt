use Rattle.std.proofs.Common.{rules}
use Rattle.p0_choice.specs.Text.{word}
use Rattle.p1_tone_block.specs.Mirror.{tone_block, letter_at}
use Rattle.p1_tone_block.proofs.letter_at.Goals as goal

pub returns : goal.returns
unfolding letter_at tone_block word
returns c = search rules
