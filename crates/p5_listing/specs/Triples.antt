-- "Listing onset, vowels, coda triples": what a list of the parts that go together would count.
use Rattle.std.specs.Prelude.{ℕ, suc, ◌+◌, Bool, length}
use mathlib.Core.List.{List, [], ◌∷◌, flatten}
use Rattle.p0_choice.specs.Choice.{pick}
use Rattle.p4_rows.specs.Rows.{Word, onset_rows, vowel_rows, coda_rows}
use Rattle.p4_rows.specs.Lookup.{in_list}
use Rattle.p4_spelling.specs.Verdict.{has_foreign, parts_fit}

-- each word of a list once, and those without f j w z
unfoldable pub once : List Word → List Word
once [] = []
once (w ∷ ws) = pick (in_list w ws) (once ws) (w ∷ once ws)

unfoldable pub unforeign : List Word → List Word
unforeign [] = []
unforeign (w ∷ ws) = pick (has_foreign w) (unforeign ws) (w ∷ unforeign ws)

unfoldable pub onsets : List Word
onsets = unforeign (once (flatten onset_rows))

unfoldable pub vowel_parts : List Word
vowel_parts = once (flatten vowel_rows)

unfoldable pub codas : List Word
codas = once (flatten coda_rows)

-- how many of a list pass; how many onsets, vowels and codas fit together
unfoldable pub how_many : (Word → Bool) → List Word → ℕ
how_many f [] = 0
how_many f (w ∷ ws) = pick (f w) (suc (how_many f ws)) (how_many f ws)

unfoldable pub pairs : (Word → Word → Bool) → List Word → List Word → ℕ
pairs f [] cs = 0
pairs f (o ∷ os) cs = how_many (f o) cs + pairs f os cs

unfoldable pub fitting : List Word → List Word → List Word → ℕ
fitting os [] cs = 0
fitting os (v ∷ vs) cs = pairs (λ o c. parts_fit o v c) os cs + fitting os vs cs

-- the bare onsets, and an onset or none with vowels and a coda or none
unfoldable pub triples : ℕ
triples = length onsets + fitting ([] ∷ onsets) vowel_parts ([] ∷ codas)
