-- Document 01, "A key, step by step": "Text: each cell's letter with its tone. If the flag is on and the result is not a
-- capital, ASCII upper case is tried, which leaves every accented letter small." Request 2026-01, with capitals on: "a flagged
-- cell shows the Unicode capital of its letter, tone included".
use Rattle.std.specs.Prelude.{ℕ, Bool, List, map, eqb}
use Rattle.p0_choice.specs.Choice.{pick}
use Rattle.p1_letters.specs.Alphabet.{is_capital, ascii_upper, upper}
use Rattle.p1_letters.specs.Tones.{tone_on}
use Rattle.p3_cells.specs.declared.Cell.{Cell}

-- "any cell's letter .. (mark, else base)"
unfoldable pub letter_of : Cell → ℕ
letter_of x = pick (eqb x.mark 0) x.base x.mark

-- the letter with its tone; no tone leaves it
unfoldable pub toned_letter : Cell → ℕ
toned_letter x = tone_on (letter_of x) x.tone

-- a flagged letter. Capitals off: "If .. the result is not a capital, ASCII upper case is tried"; on: "the Unicode capital". That
-- `upper` is Unicode's is proved (p1_unicode: upper_unicode), and so is the text (p3_capitals: text_unicode)
unfoldable pub flagged : Bool → ℕ → ℕ
flagged capitals l = pick capitals (upper l) (pick (is_capital l) l (ascii_upper l))

-- "If the flag is on"
unfoldable pub shown : Bool → Cell → ℕ
shown capitals x = pick x.upper (flagged capitals (toned_letter x)) (toned_letter x)

unfoldable pub text_of : Bool → List Cell → List ℕ
text_of capitals xs = map (shown capitals) xs
