-- How the code holds things: no sentence of document 01 stands here, and no promise to a host leads here.
use Rattle.std.specs.Prelude.{ℕ, ◌+◌}
use Rattle.p5_utf8_text.specs.Write.{write_room}

-- the most that a line prints: the letters that are written, a tab, `yes` and U+000A; a text with a verdict has no more letters
abbrev pub line_room : ℕ
line_room = write_room + 5
