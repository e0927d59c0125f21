-- Request 2026-01: "When on, a flagged cell shows the Unicode capital of its letter, tone included", by Unicode's own table.
use Rattle.std.specs.Prelude.{ℕ, List, map}
use Rattle.p0_choice.specs.Choice.{pick}
use Rattle.p1_unicode.specs.Case.{simple_upper}
use Rattle.p3_cells.specs.Text.{toned_letter}
use Rattle.p3_cells.specs.declared.Cell.{Cell}

-- its letter with its tone where the flag is off
unfoldable pub unicode_shown : Cell → ℕ
unicode_shown x = pick x.upper (simple_upper (toned_letter x)) (toned_letter x)

unfoldable pub unicode_text : List Cell → List ℕ
unicode_text xs = map unicode_shown xs
