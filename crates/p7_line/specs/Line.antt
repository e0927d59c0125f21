-- Document 01, "Examples to hold it to": what the program `wordline` prints for "one line of keys per fresh composition".
use Rattle.std.specs.Prelude.{ℕ, ◌+◌, ◌/◌, ◌%◌, List, [], ◌∷◌, ◌++◌, ltb, length, get_or, Bool, true, false, Result, Ok, Err}
use Rattle.p0_choice.specs.Choice.{pick}
use Rattle.p0_choice.specs.Text.{word, line_end}
use Rattle.p0_refusals.specs.Limits.{byte_limit}
use Rattle.p0_refusals.specs.Refusals.{number_of}
use Rattle.p0_refusals.specs.declared.Refusal.{Refusal}
use Rattle.p0_refusals.specs.declared.Refusal.TheVariants.{Full}
use Rattle.p2_input_method.specs.declared.InputMethod.{InputMethod}
use Rattle.p3_cells.specs.Cells.{limit}
use Rattle.p3_cells.specs.Text.{text_of}
use Rattle.p3_cells.specs.declared.Cell.{Cell}
use Rattle.p3_cells.specs.declared.Settings.{Settings}
use Rattle.p3_cells.specs.Settings.{at_first}
use Rattle.p3_step.specs.Key.{key_cells}
use Rattle.p4_spelling.specs.Answers.{verdict_answer}
use Rattle.p0_refusals.specs.Answers.{Outcome, writes, refuses}
use Rattle.p5_utf8.specs.Rfc3629.{encode_all}
use Rattle.p5_utf8_text.specs.Read.{reading}

-- "A program line or other bytes to be read as UTF-8: at most 256": by one byte more a line is refused, whatever follows it
abbrev pub most : ℕ
most = byte_limit + 1

unfoldable pub digit : ℕ → ℕ
digit n = get_or (word "0123456789") n 0

-- a number of the table, of which none has more than two decimal digits
unfoldable pub digits : ℕ → List ℕ
digits n = pick (ltb n 10) (digit n ∷ []) (digit (n / 10) ∷ digit (n % 10) ∷ [])

-- "a refused line prints `refused` and the number after one space. Every printed line ends in U+000A"
unfoldable pub refused_line : Refusal → List ℕ
refused_line r = word "refused " ++ (digits (number_of r) ++ (line_end ∷ []))

abbrev pub tab : ℕ
tab = 0x09

-- "Per line it prints the text, a tab, and yes or no for the text's verdict; a refused line prints `refused` and the number"
unfoldable pub judged_line : List ℕ → Result Bool Refusal → List ℕ
judged_line text (Ok true) = encode_all text ++ (tab ∷ (word "yes" ++ (line_end ∷ [])))
judged_line text (Ok false) = encode_all text ++ (tab ∷ (word "no" ++ (line_end ∷ [])))
judged_line text (Err r) = refused_line r

-- request 2026-05: "The word limit stays at 64, so the verdict of a longer text is refusal 6."
unfoldable pub text_line : List ℕ → List ℕ
text_line text = judged_line text (verdict_answer text)

-- the cells that a line of keys makes, or none where "a letter must be appended and [all] cells are used"
pub data KeysMade : Type 0 where
  made : List Cell → KeysMade
  full : KeysMade

unfoldable pub keys_made : Settings → List Cell → List ℕ → KeysMade
keys_made z cs [] = made cs
keys_made z cs (k ∷ ks) = pick (ltb limit (length (key_cells z cs k))) full (keys_made z (key_cells z cs k) ks)

unfoldable pub made_line : Settings → KeysMade → List ℕ
made_line z (made cs) = text_line (text_of z.capitals cs)
made_line z full = refused_line Full

-- the bytes of a line are keys; the refusals of reading them go before 2
unfoldable pub keys_line : InputMethod → Outcome → List ℕ
keys_line m (writes ks) = made_line (at_first m) (keys_made (at_first m) [] ks)
keys_line m (refuses r) = refused_line r

unfoldable pub line_out : InputMethod → List ℕ → List ℕ
line_out m line = keys_line m (reading line)
