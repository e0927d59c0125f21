-- RFC 3629's own examples: section 7's texts, and the malformed bytes that sections 3 and 10 name.
use mathlib.Core.Path.{◌≡◌, refl}
use mathlib.Core.List.{[], ◌∷◌}
use Rattle.p0_choice.specs.Text.{word}
use Rattle.p5_utf8.specs.Rfc3629.{encode, encode_all, tail, utf8_1, utf8_2, utf8_3, utf8_4, along, begins, char_of}
use Rattle.std.specs.Prelude.{None}

pub not_identical_to_alpha : encode_all (word "A≢Α.") ≡ 0x41 ∷ 0xe2 ∷ 0x89 ∷ 0xa2 ∷ 0xce ∷ 0x91 ∷ 0x2e ∷ []
unfolding encode word
not_identical_to_alpha = refl

pub korean : encode_all (word "한국어") ≡ 0xed ∷ 0x95 ∷ 0x9c ∷ 0xea ∷ 0xb5 ∷ 0xad ∷ 0xec ∷ 0x96 ∷ 0xb4 ∷ []
unfolding encode word
korean = refl

pub japanese : encode_all (word "日本語") ≡ 0xe6 ∷ 0x97 ∷ 0xa5 ∷ 0xe6 ∷ 0x9c ∷ 0xac ∷ 0xe8 ∷ 0xaa ∷ 0x9e ∷ []
unfolding encode word
japanese = refl

pub stump_of_tree : encode_all (0xfeff ∷ 0x233b4 ∷ []) ≡ 0xef ∷ 0xbb ∷ 0xbf ∷ 0xf0 ∷ 0xa3 ∷ 0x8e ∷ 0xb4 ∷ []
unfolding encode
stump_of_tree = refl

-- overlong U+0000, a surrogate pair written as two characters, and the overlong point of "2F C0 AE 2E 2F"
pub overlong_zero : char_of (0xc0 ∷ 0x80 ∷ []) ≡ None
unfolding char_of utf8_1 utf8_2 utf8_3 utf8_4 begins along tail
overlong_zero = refl

pub surrogates : char_of (0xed ∷ 0xa1 ∷ 0x8c ∷ 0xed ∷ 0xbe ∷ 0xb4 ∷ []) ≡ None
unfolding char_of utf8_1 utf8_2 utf8_3 utf8_4 begins along tail
surrogates = refl

pub overlong_point : char_of (0xc0 ∷ 0xae ∷ []) ≡ None
unfolding char_of utf8_1 utf8_2 utf8_3 utf8_4 begins along tail
overlong_point = refl
