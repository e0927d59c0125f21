-- The tables of `spelling.rs`: the onsets, vowels and codas by rows, counted from 0, and document 01's two matrices of
-- row numbers ("Cut and verdict").
use Rattle.std.specs.Prelude.{ℕ, List, [], ◌∷◌}
use Rattle.p0_choice.specs.Text.{words}

abbrev pub Word : Type 0
Word = List ℕ

-- `FIRST_CONSONANT_SEQS`
unfoldable pub onset_rows : List (List Word)
onset_rows =
    words "b d đ g gh m n nh p ph r s t tr v z" ∷
    words "c h k kh qu th" ∷
    words "ch gi l ng ngh x" ∷
    words "đ l" ∷
    words "h" ∷
    []

-- `VOWEL_SEQS`
unfoldable pub vowel_rows : List (List Word)
vowel_rows =
    words "ê i ua uê uy y" ∷
    words "a iê oa uyê yê" ∷
    words "â ă e o oo ô ơ oe u ư uâ uô ươ" ∷
    words "oă" ∷
    words "uơ" ∷
    words "ai ao au âu ay ây eo êu ia iêu iu oai oao oay oeo oi ôi ơi ưa uây ui ưi uôi ươi ươu ưu uya uyu yêu" ∷
    words "ă" ∷
    words "i" ∷
    []

-- `LAST_CONSONANT_SEQS`
unfoldable pub coda_rows : List (List Word)
coda_rows =
    words "ch nh" ∷
    words "c ng" ∷
    words "m n p t" ∷
    words "k" ∷
    words "c" ∷
    []

-- "Onset row to vowel rows: 0 to 0 1 2 5; 1 to 0 through 5; 2 to 0 1 2 3 5; 3 to 6; 4 to 7." (`CV_MATRIX`)
unfoldable pub onset_to_vowels : List (List ℕ)
onset_to_vowels =
    (0 ∷ 1 ∷ 2 ∷ 5 ∷ []) ∷
    (0 ∷ 1 ∷ 2 ∷ 3 ∷ 4 ∷ 5 ∷ []) ∷
    (0 ∷ 1 ∷ 2 ∷ 3 ∷ 5 ∷ []) ∷
    (6 ∷ []) ∷
    (7 ∷ []) ∷
    []

-- "Vowel row to coda rows: 0 to 0 2; 1 to 0 1 2; 2 and 3 to 1 2; 4 and 5 to none; 6 to 3; 7 to 4." (`VC_MATRIX`)
unfoldable pub vowels_to_coda : List (List ℕ)
vowels_to_coda =
    (0 ∷ 2 ∷ []) ∷
    (0 ∷ 1 ∷ 2 ∷ []) ∷
    (1 ∷ 2 ∷ []) ∷
    (1 ∷ 2 ∷ []) ∷
    [] ∷
    [] ∷
    (3 ∷ []) ∷
    (4 ∷ []) ∷
    []
