-- Document 01: letters to be written as UTF-8.
use Rattle.std.specs.Prelude.{ℕ, ◌*◌, List, ltb, length}
use Rattle.p0_choice.specs.Choice.{pick}
use Rattle.p0_refusals.specs.Limits.{letter_limit}
use Rattle.p0_refusals.specs.declared.Refusal.TheVariants.{Foreign, Long}
use Rattle.p1_letters.specs.Alphabet.{all_letters}
use Rattle.p5_utf8.specs.Rfc3629.{encode_all}
use Rattle.p0_refusals.specs.Answers.{Outcome, writes, refuses}

-- A letter of the alphabet has at most three bytes.
abbrev pub letter_bytes : ℕ
letter_bytes = 3

-- the most bytes of the letters that are written
abbrev pub write_room : ℕ
write_room = letter_bytes * letter_limit

-- 6 over the limit, 1 for "a code point outside the alphabet", else the bytes of the letters
unfoldable pub writing : List ℕ → Outcome
writing xs =
    pick (ltb letter_limit (length xs)) (refuses Long) (pick (all_letters xs) (writes (encode_all xs)) (refuses Foreign))
