-- UTF-8, from RFC 3629: the bytes of a character (section 3) and the grammar of byte strings (section 4), for all of
-- Unicode. proofs/Exact shows that the two say the same: the grammar has the bytes of the scalar values, and no others.
use Rattle.std.specs.Prelude.{ℕ, ◌+◌, ◌*◌, ◌/◌, ◌%◌, Bool, true, false, List, [], ◌∷◌, ◌++◌, ltb, leb, get_or, drop, Option, Some, None}
use Rattle.p0_choice.specs.Choice.{pick}
use Rattle.p5_utf8.specs.declared.Char.{Char}

infix 50 ◌to◌
-- Section 3: "The definition of UTF-8 prohibits encoding character numbers between U+D800 and U+DFFF"; characters are
-- "from the U+0000..U+10FFFF range".
unfoldable pub is_scalar : ℕ → Bool
is_scalar x = pick (ltb x 0xd800) true (pick (ltb x 0xe000) false (ltb x 0x110000))

-- Section 3, the table. "The letter x indicates bits available for encoding bits of the character number."
--    0000 0000-0000 007F | 0xxxxxxx
--    0000 0080-0000 07FF | 110xxxxx 10xxxxxx
--    0000 0800-0000 FFFF | 1110xxxx 10xxxxxx 10xxxxxx
--    0001 0000-0010 FFFF | 11110xxx 10xxxxxx 10xxxxxx 10xxxxxx
-- It is of scalar values: of any other number the last row that its bits ask for is taken, and no character begins so
-- (proofs/Exact: domain).
unfoldable pub encode : ℕ → List ℕ
encode x =
    pick (ltb x 0x80) (x ∷ [])
    (pick (ltb x 0x800) ((0xc0 + x / 64) ∷ (0x80 + x % 64) ∷ [])
    (pick (ltb x 0x10000) ((0xe0 + x / 4096) ∷ (0x80 + x / 64 % 64) ∷ (0x80 + x % 64) ∷ [])
    ((0xf0 + x / 262144) ∷ (0x80 + x / 4096 % 64) ∷ (0x80 + x / 64 % 64) ∷ (0x80 + x % 64) ∷ [])))

abbrev pub encode_all : List ℕ → List ℕ
encode_all [] = []
encode_all (x ∷ xs) = encode x ++ encode_all xs

-- The table read back: the bits marked x of the first one to four bytes.
unfoldable pub bits1 : List ℕ → ℕ
bits1 s = get_or s 0 0

unfoldable pub bits2 : List ℕ → ℕ
bits2 s = get_or s 0 0 % 32 * 64 + get_or s 1 0 % 64

unfoldable pub bits3 : List ℕ → ℕ
bits3 s = get_or s 0 0 % 16 * 4096 + get_or s 1 0 % 64 * 64 + get_or s 2 0 % 64

unfoldable pub bits4 : List ℕ → ℕ
bits4 s = get_or s 0 0 % 8 * 262144 + get_or s 1 0 % 64 * 4096 + get_or s 2 0 % 64 * 64 + get_or s 3 0 % 64

-- Section 4's grammar. %xLOW-HIGH is a test of a byte; a rule is its alternatives, each a sequence of such tests.
abbrev pub ◌to◌ : ℕ → ℕ → ℕ → Bool
(low to high) b = pick (ltb b low) false (leb b high)

-- UTF8-tail = %x80-BF
unfoldable pub tail : ℕ → Bool
tail = 0x80 to 0xbf

-- UTF8-1 = %x00-7F
unfoldable pub utf8_1 : List (List (ℕ → Bool))
utf8_1 = ((0x00 to 0x7f) ∷ []) ∷ []

-- UTF8-2 = %xC2-DF UTF8-tail
unfoldable pub utf8_2 : List (List (ℕ → Bool))
utf8_2 = ((0xc2 to 0xdf) ∷ tail ∷ []) ∷ []

-- UTF8-3 = %xE0 %xA0-BF UTF8-tail / %xE1-EC 2( UTF8-tail ) / %xED %x80-9F UTF8-tail / %xEE-EF 2( UTF8-tail )
unfoldable pub utf8_3 : List (List (ℕ → Bool))
utf8_3 =
    ((0xe0 to 0xe0) ∷ (0xa0 to 0xbf) ∷ tail ∷ []) ∷
    ((0xe1 to 0xec) ∷ tail ∷ tail ∷ []) ∷
    ((0xed to 0xed) ∷ (0x80 to 0x9f) ∷ tail ∷ []) ∷
    ((0xee to 0xef) ∷ tail ∷ tail ∷ []) ∷
    []

-- UTF8-4 = %xF0 %x90-BF 2( UTF8-tail ) / %xF1-F3 3( UTF8-tail ) / %xF4 %x80-8F 2( UTF8-tail )
unfoldable pub utf8_4 : List (List (ℕ → Bool))
utf8_4 =
    ((0xf0 to 0xf0) ∷ (0x90 to 0xbf) ∷ tail ∷ tail ∷ []) ∷
    ((0xf1 to 0xf3) ∷ tail ∷ tail ∷ tail ∷ []) ∷
    ((0xf4 to 0xf4) ∷ (0x80 to 0x8f) ∷ tail ∷ tail ∷ []) ∷
    []

-- the bytes begin with the sequence
unfoldable pub along : List (ℕ → Bool) → List ℕ → Bool
along [] s = true
along (t ∷ ts) [] = false
along (t ∷ ts) (b ∷ s) = pick (t b) (along ts s) false

-- the bytes begin with one of the alternatives
unfoldable pub begins : List (List (ℕ → Bool)) → List ℕ → Bool
begins [] s = false
begins (q ∷ qs) s = pick (along q s) true (begins qs s)

-- a character: its scalar value, and how many bytes it has
abbrev pub character : ℕ → ℕ → Option Char
character x w = Some (record { scalar = x; width = w })

-- UTF8-char = UTF8-1 / UTF8-2 / UTF8-3 / UTF8-4: the character that the bytes begin with, and its width
unfoldable pub char_of : List ℕ → Option Char
char_of s =
    pick (begins utf8_1 s) (character (bits1 s) 1)
    (pick (begins utf8_2 s) (character (bits2 s) 2)
    (pick (begins utf8_3 s) (character (bits3 s) 3)
    (pick (begins utf8_4 s) (character (bits4 s) 4) None)))

-- the character at a place of the bytes
unfoldable pub char_at : List ℕ → ℕ → Option Char
char_at s i = char_of (drop i s)
