-- Canonical equality, as chapter 3 of the Unicode Standard defines it: full canonical decomposition (D68), the Canonical
-- Ordering Algorithm (D108, D109), and equality of what they give (D70).
use Rattle.std.specs.Prelude.{ℕ, zero, suc, Bool, true, false, List, [], ◌∷◌, ◌++◌, ◌≡◌, eqb, ltb, length}
use Rattle.p0_choice.specs.Choice.{pick, among}
use Rattle.p0_choice.specs.Text.{word}
use Rattle.p1_unicode.specs.Ucd.{Decomposition, step, decompositions, Class, classes}

-- a code point's Decomposition_Mapping, one step; (x, 0) where it has none
unfoldable pub decomposition_in : List Decomposition → ℕ → Decomposition
decomposition_in [] x = step x x 0
decomposition_in (d ∷ ds) x = elim (eqb x d.code) [ true ↦ d | false ↦ decomposition_in ds x ]

unfoldable pub decomposition_of : ℕ → Decomposition
decomposition_of x = decomposition_in decompositions x

-- D68: the mapping, applied again to what it gives until nothing has one. Four times is more than any letter needs.
unfoldable pub apart : ℕ → ℕ → List ℕ
apart zero x = x ∷ []
apart (suc n) x =
    elim (eqb (decomposition_of x).second 0)
    [ true ↦ x ∷ [] | false ↦ apart n (decomposition_of x).first ++ apart n (decomposition_of x).second ]

abbrev pub decomposed : List ℕ → List ℕ
decomposed [] = []
decomposed (x ∷ xs) = apart 4 x ++ decomposed xs

-- Canonical_Combining_Class
unfoldable pub class_in : List Class → ℕ → ℕ
class_in [] x = 0
class_in (c ∷ cs) x = elim (eqb x c.code) [ true ↦ c.class | false ↦ class_in cs x ]

unfoldable pub class_of : ℕ → ℕ
class_of x = class_in classes x

-- D108: "a Reorderable Pair, if ccc(A) > ccc(B) > 0"
unfoldable pub reorderable : ℕ → ℕ → Bool
reorderable a b = pick (ltb (class_of b) (class_of a)) (ltb 0 (class_of b)) false

-- D109: "exchange the positions of the characters in each Reorderable Pair until the sequence contains no more": one run
-- over the sequence that begins with x, and as many runs as it has characters
unfoldable pub exchanged : ℕ → List ℕ → List ℕ
exchanged x [] = x ∷ []
exchanged x (y ∷ ys) = elim (reorderable x y) [ true ↦ y ∷ exchanged x ys | false ↦ x ∷ exchanged y ys ]

unfoldable pub run : List ℕ → List ℕ
run [] = []
run (x ∷ xs) = exchanged x xs

unfoldable pub ordered : ℕ → List ℕ → List ℕ
ordered zero s = s
ordered (suc n) s = ordered n (run s)

unfoldable pub canonical : List ℕ → List ℕ
canonical s = ordered (length (decomposed s)) (decomposed s)

-- D70: canonically equivalent
abbrev pub CanonicallyEqual : List ℕ → List ℕ → Type 0
CanonicallyEqual s t = canonical s ≡ canonical t

-- document 01: "U+0301 sắc (s, 1), U+0300 huyền (f, 2), U+0309 hỏi (r, 3), U+0303 ngã (x, 4), U+0323 nặng (j, 5)"; 0 for
-- what is no tone key
unfoldable pub tone_mark : ℕ → ℕ
tone_mark t =
    pick (among t (word "s1")) 0x301
    (pick (among t (word "f2")) 0x300
    (pick (among t (word "r3")) 0x309
    (pick (among t (word "x4")) 0x303
    (pick (among t (word "j5")) 0x323 0))))

-- these five
unfoldable pub tone_marks : List ℕ
tone_marks = 0x301 ∷ 0x300 ∷ 0x309 ∷ 0x303 ∷ 0x323 ∷ []

-- a sequence with the tones' marks taken off
abbrev pub without_tone : List ℕ → List ℕ
without_tone [] = []
without_tone (x ∷ xs) = pick (among x tone_marks) (without_tone xs) (x ∷ without_tone xs)
