-- Document 02, request 2026-04, "The line's state, lent or by value": the state of a note line as bytes, in an order that docs/BYTES.md
-- states. A head of 10 bytes: the refusal that ended the line, the length of the open word, then in two bytes each, low byte first, how
-- many letters and words have come, how many words are judged no, and where the first of those begins. Then the kept letters of the
-- open word, two bytes each.
use Rattle.std.specs.Prelude.{Err, Ok, ℕ, zero, suc, ◌+◌, ◌*◌, ◌/◌, ◌%◌, Bool, false, List, [], ◌∷◌, ◌++◌, eqb, length}
use Rattle.p0_choice.specs.Choice.{pick, among}
use Rattle.p0_refusals.specs.Refusals.{number_of}
use Rattle.p0_refusals.specs.declared.Refusal.TheVariants.{Foreign, Long}
use Rattle.p4_note_parts.specs.State.{Standing, line_sound}
use Rattle.p4_note_parts.specs.declared.Line.{Line}
use Rattle.p4_spelling.specs.Verdict.{longest_length}
use Rattle.p6_zeros.specs.Zeros.{byte_at}

-- where the kept letters start
abbrev pub kept_start : ℕ
kept_start = 10

-- how many bytes a state has
abbrev pub line_size : ℕ
line_size = kept_start + 2 * longest_length

-- ---- a state, written
-- "records that refusal": its number, and 0 while the line goes on
abbrev pub standing_byte : Standing → ℕ
standing_byte (Ok u) = 0
standing_byte (Err r) = number_of r

-- a number below 65,536, low byte first
abbrev pub two_bytes : ℕ → List ℕ
two_bytes n = (n % 256) ∷ (n / 256 % 256) ∷ []

-- the kept letters
abbrev pub kept_bytes : List ℕ → List ℕ
kept_bytes [] = []
kept_bytes (x ∷ xs) = two_bytes x ++ kept_bytes xs

-- what stands before them
unfoldable pub line_head : Line → List ℕ
line_head s =
    (standing_byte s.standing ∷ (s.run % 256) ∷ [])
    ++ (two_bytes s.length ++ (two_bytes s.words ++ (two_bytes s.noes ++ two_bytes s.first)))

-- the whole state
unfoldable pub line_bytes : Line → List ℕ
line_bytes s = line_head s ++ kept_bytes s.letters

-- ---- and read
-- the standing that a byte spells
unfoldable pub standing_of : ℕ → Standing
standing_of x = pick (eqb x 0) (Ok tt) (pick (eqb x 1) (Err Foreign) (Err Long))

-- the number that stands in two bytes
abbrev pub two_at : List ℕ → ℕ → ℕ
two_at b at = byte_at b at + byte_at b (at + 1) * 256

-- n letters, from a place on
abbrev pub kept_at : ℕ → List ℕ → ℕ → List ℕ
kept_at zero b at = []
kept_at (suc n) b at = two_at b at ∷ kept_at n b (at + 2)

-- the state that bytes spell
unfoldable pub line_of : List ℕ → Line
line_of b =
    record {
      letters = kept_at longest_length b kept_start;
      length = two_at b 2;
      run = byte_at b 1;
      words = two_at b 4;
      noes = two_at b 6;
      first = two_at b 8;
      standing = standing_of (byte_at b 0);
    }

-- ---- soundness
-- the bytes that spell a standing
abbrev pub standings : List ℕ
standings = standing_byte (Ok tt) ∷ standing_byte (Err Foreign) ∷ standing_byte (Err Long) ∷ []

-- bytes of the state's length, of which the first spells a standing
unfoldable pub spells_line : List ℕ → Bool
spells_line b = pick (eqb (length b) line_size) (among (byte_at b 0) standings) false

-- those that spell a sound state
unfoldable pub line_bytes_sound : List ℕ → Bool
line_bytes_sound b = pick (spells_line b) (line_sound (line_of b)) false
