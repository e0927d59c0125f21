-- Document 01, "The alphabet and the numbers": the limits of refusal 6, "word, raw string, line, or UTF-8 letters or bytes over
-- the limit". That of refusal 2 stands with the cells.
use Rattle.std.specs.Prelude.{ℕ}

-- "Words, raw key strings and letters to be written as UTF-8: at most 64."
abbrev pub letter_limit : ℕ
letter_limit = 64

-- "A program line or other bytes to be read as UTF-8: at most 256."
abbrev pub byte_limit : ℕ
byte_limit = 256
