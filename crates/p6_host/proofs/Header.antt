-- The limits are the header's.
use mathlib.Core.Path.{refl}
use Rattle.p6_host.specs.Header.{Header}

pub header : Header
header = record {
  word_letters = refl;
  line_bytes = refl;
  composition_bytes = refl;
  cells = refl;
  text_room = refl;
  draft_room = refl;
  listed_room = refl;
  read_room = refl;
  write_room = refl;
  line_letters = refl;
  line_state_bytes = refl;
}
