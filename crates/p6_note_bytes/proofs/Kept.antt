-- Soundness is kept: "which every state handed out meets", as bytes too.
use Prim.Native.Nat.{ℕ}
use mathlib.Core.Path.{◌≡◌, refl}
use mathlib.Core.Bool.{true}
use mathlib.Core.List.{List}
use lib.ListN.{length}
use borrow.Author.Tests.{eq-eqb}
use Rattle.p0_choice.proofs.Tests.{both_are}
use Rattle.p4_note_parts.specs.Parts.{part_taken, part_after}
use Rattle.p4_note_parts.specs.State.{begun, line_sound}
use Rattle.p4_note_parts.proofs.Soundness.{begun_sound, part_kept, part_sound}
use Rattle.p4_spelling.specs.Verdict.{longest_length}
use Rattle.p6_note_bytes.specs.Bytes.{kept_start, line_size, line_bytes, line_of, spells_line, line_bytes_sound}
use Rattle.p6_note_bytes.specs.Calls.{line_begin_bytes, line_part_bytes}
use Rattle.p6_note_bytes.proofs.Reading.{kept_length}
use Rattle.p6_note_bytes.proofs.Round.{read_written, written_sound}

-- a new line's
pub begin_sound : (b : List ℕ) → length b ≡ line_size → line_bytes_sound (line_begin_bytes b) ≡ true
unfolding line_begin_bytes begun
begin_sound b l = rw (eq-eqb (length b) line_size l) (written_sound begun begun_sound refl)

-- sound bytes spell a sound state
pub bytes_line : (b : List ℕ) → line_bytes_sound b ≡ true → line_sound (line_of b) ≡ true
unfolding line_bytes_sound
bytes_line b h = (both_are (spells_line b) _ h).1

module _ (b letters : List ℕ) (h : line_bytes_sound b ≡ true) where
  sound_line : line_sound (line_of b) ≡ true
  sound_line = bytes_line b h

  line_letters_lem : length (line_of b).letters ≡ longest_length
  unfolding line_of
  line_letters_lem = kept_length longest_length b kept_start

  part_taken_lem : line_part_bytes b letters ≡ line_bytes (part_taken (line_of b) letters)
  unfolding line_part_bytes part_after
  part_taken_lem = rw (h, sound_line) refl

  after_sound : line_sound (part_taken (line_of b) letters) ≡ true
  after_sound = part_sound (line_of b) letters sound_line line_letters_lem

  after_letters : length (part_taken (line_of b) letters).letters ≡ longest_length
  after_letters = part_kept (line_of b) letters line_letters_lem

  -- those that a part leaves spell the state that the part by value leaves
  pub part_read : line_of (line_part_bytes b letters) ≡ part_taken (line_of b) letters
  part_read = rw part_taken_lem (read_written (part_taken (line_of b) letters) after_sound after_letters)

  -- and are sound
  pub part_keeps : line_bytes_sound (line_part_bytes b letters) ≡ true
  part_keeps = rw part_taken_lem (written_sound (part_taken (line_of b) letters) after_sound after_letters)
