-- The numbers of include/pasdrongel.h, which a host has compiled in, beside what each is: a field for each name there. So a
-- limit that is changed alone is refused.
use Rattle.std.specs.Prelude.{◌≡◌}
use Rattle.p0_refusals.specs.Limits.{letter_limit, byte_limit}
use Rattle.p3_cells.specs.Cells.{limit}
use Rattle.p4_note_line.specs.Line.{line_limit}
use Rattle.p4_spelling.specs.Verdict.{longest_length}
use Rattle.p5_utf8_text.specs.Write.{write_room}
use Rattle.p6_bytes.specs.Bytes.{size}
use Rattle.p6_draft.specs.Draft.{draft_room}
use Rattle.p6_note_bytes.specs.Bytes.{line_size}

pub record Header : Type 0 where
  pub word_letters : letter_limit ≡ 64
  pub line_bytes : byte_limit ≡ 256
  pub composition_bytes : size ≡ 776
  pub cells : limit ≡ 96
  pub text_room : limit ≡ 96
  pub draft_room : draft_room ≡ 687
  pub listed_room : longest_length ≡ 8
  pub read_room : byte_limit ≡ 256
  pub write_room : write_room ≡ 192
  pub line_letters : line_limit ≡ 4096
  pub line_state_bytes : line_size ≡ 26
