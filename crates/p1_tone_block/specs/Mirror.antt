-- How the code holds things: no sentence of document 01 stands here, and no promise to a host leads here.
-- The tones as one block of letters, where each stands in it, and how its place is found.
use Rattle.std.specs.Prelude.{ℕ, suc, ◌*◌, ◌/◌, ◌%◌, List, [], ◌∷◌, eqb, get_or}
use Rattle.p0_choice.specs.Choice.{pick}
use Rattle.p0_choice.specs.Text.{word}

-- twelve rows of six, one after the other: a vowel, and it with sắc, huyền, hỏi, ngã and nặng
unfoldable pub tone_block : List ℕ
tone_block = word "aáàảãạăắằẳẵặâấầẩẫậeéèẻẽẹêếềểễệiíìỉĩịoóòỏõọôốồổỗộơớờởỡợuúùủũụưứừửữựyýỳỷỹỵ"

-- the letter at a place, 0 past the end
unfoldable pub letter_at : ℕ → ℕ
letter_at place = get_or tone_block place 0

-- a number below 128, another one for each letter of the block
unfoldable pub slot_of : ℕ → ℕ
slot_of x = x % 8192 * 289 / 128 % 128

-- the place of the letter that has the slot, in a list whose first place is n; 0 where none has it
unfoldable pub place_in : ℕ → List ℕ → ℕ → ℕ
place_in n [] slot = 0
place_in n (x ∷ xs) slot = pick (eqb slot (slot_of x)) n (place_in (suc n) xs slot)

-- the place that a letter's slot stands for: its own, if it is a letter of the block
unfoldable pub letter_place : ℕ → ℕ
letter_place x = place_in 0 tone_block (slot_of x)
