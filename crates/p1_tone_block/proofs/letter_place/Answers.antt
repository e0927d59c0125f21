use Rattle.std.proofs.Common.{rules}
use Rattle.p0_choice.specs.Text.{word}
use Rattle.p1_tone_block.specs.Mirror.{tone_block, slot_of, place_in, letter_place}
use Rattle.p1_tone_block.proofs.Places.{by_slot}
use Rattle.p1_tone_block.proofs.letter_place.Goals as goal

pub returns : goal.returns
unfolding letter_place slot_of place_in tone_block word
returns c = search (rules, by_slot)
