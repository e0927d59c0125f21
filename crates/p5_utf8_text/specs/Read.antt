-- Document 01: bytes to be read as UTF-8.
use Rattle.std.specs.Prelude.{ℕ, zero, suc, ◌-◌, List, [], ◌∷◌, ltb, length, Option, Some, None}
use Rattle.p0_choice.specs.Choice.{pick}
use Rattle.p0_refusals.specs.Limits.{byte_limit}
use Rattle.p0_refusals.specs.declared.Refusal.TheVariants.{Foreign, Long, Malformed}
use Rattle.p1_letters.specs.Alphabet.{in_alphabet}
use Rattle.p5_utf8.specs.declared.Char.{Char}
use Rattle.p5_utf8.specs.Rfc3629.{char_of}
use Rattle.p0_refusals.specs.Answers.{Outcome, writes, refuses}

unfoldable pub width_of : Option Char → ℕ
width_of None = 0
width_of (Some c) = c.width

-- a letter, before what the bytes after it are
unfoldable pub before : ℕ → Outcome → Outcome
before x (writes xs) = writes (x ∷ xs)
before x (refuses r) = refuses r

-- "In UTF-8 the first faulty character decides, 8 if malformed, else 1": a character, and what the bytes after it are
unfoldable pub reads : Option Char → Outcome → Outcome
reads None rest = refuses Malformed
reads (Some c) rest = pick (in_alphabet c.scalar) (before c.scalar rest) (refuses Foreign)

-- what the bytes are, once the first k, which belong to the character before, are passed over
unfoldable pub passed : ℕ → List ℕ → Outcome
passed k [] = writes []
passed zero (b ∷ s) = reads (char_of (b ∷ s)) (passed (width_of (char_of (b ∷ s)) - 1) s)
passed (suc k) (b ∷ s) = passed k s

-- the letters that the bytes are, or the refusal of the first faulty character
unfoldable pub letters : List ℕ → Outcome
letters s = passed 0 s

-- 6 over the limit, else the letters
unfoldable pub reading : List ℕ → Outcome
reading s = pick (ltb byte_limit (length s)) (refuses Long) (letters s)
