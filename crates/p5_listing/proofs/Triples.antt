-- "Listing onset, vowels, coda triples": the parts of the rows that go together are 5,977 triples, 14 more than there are
-- words. "g+ia and gi+a are one word", as ten others are; giêc, giêng and qu are no words, since they are never cut so.
use Prim.Native.Nat.{ℕ, suc, ◌+◌, ◌*◌}
use mathlib.Core.Path.{◌≡◌, refl, sym, ap, ap₂, ◌∙◌}
use mathlib.Core.Bool.{Bool, true, false}
use mathlib.Core.List.{List, [], ◌∷◌, flatten}
use native.Mathlib.Nat.{zero-mul, suc-mul}
use native.Mathlib.Omega.{arith}
use lib.ListN.{length}
use Rattle.p0_choice.specs.Choice.{pick}
use Rattle.p0_choice.specs.Text.{word, words, words_from}
use Rattle.p4_rows.specs.Rows.{Word, onset_rows, vowel_rows, coda_rows, onset_to_vowels, vowels_to_coda}
use Rattle.p4_rows.specs.Lookup.{same_word, in_list, rows_from, rows_of, in_rows, allows, allows_any, go_together}
use Rattle.p4_spelling.specs.Verdict.{has_foreign, in_rows_if_any, onset_fits, coda_fits, parts_fit}
use Rattle.p5_listing.specs.Triples.{once, unforeign, onsets, vowel_parts, codas, how_many, pairs, fitting, triples}

-- ---- onset and coda each go with the vowels, so that their numbers are multiplied
onset_goes : Word → Word → Bool
onset_goes v o = pick (in_rows_if_any onset_rows o) (pick (in_rows vowel_rows v) (onset_fits o (rows_of vowel_rows v)) false) false

coda_goes : Word → Word → Bool
coda_goes v c = pick (in_rows_if_any coda_rows c) (coda_fits (rows_of vowel_rows v) c) false

apart : (a l k f g : Bool)
    → pick a (pick l (pick k (pick f g false) false) false) false ≡ pick (pick a (pick l f false) false) (pick k g false) false
apart true true true f g = refl
apart true true false true g = refl
apart true true false false g = refl
apart true false k f g = refl
apart false l k f g = refl

goes : (o v c : Word) → parts_fit o v c ≡ pick (onset_goes v o) (coda_goes v c) false
unfolding parts_fit onset_goes coda_goes
goes o v c =
    apart (in_rows_if_any onset_rows o) (in_rows vowel_rows v) (in_rows_if_any coda_rows c)
    (onset_fits o (rows_of vowel_rows v)) (coda_fits (rows_of vowel_rows v) c)

module _ (v : Word) where
  with_onset : (b : Bool) (o : Word) (cs : List Word) → onset_goes v o ≡ b
      → how_many (λ c. parts_fit o v c) cs ≡ pick b (how_many (coda_goes v) cs) 0
  unfolding how_many
  with_onset true o [] e = refl
  with_onset false o [] e = refl
  with_onset true o (c ∷ cs) e = rw (goes o v c, e, with_onset true o cs e)
  with_onset false o (c ∷ cs) e = rw (goes o v c, e, with_onset false o cs e)

  pairs_are : (os cs : List Word) → pairs (λ o c. parts_fit o v c) os cs ≡ how_many (onset_goes v) os * how_many (coda_goes v) cs
  unfolding how_many pairs
  pairs_are [] cs = sym (zero-mul (how_many (coda_goes v) cs))
  pairs_are (o ∷ os) cs = go (onset_goes v o) refl (pairs_are os cs)
    where
      n : ℕ
      n = how_many (coda_goes v) cs

      m : ℕ
      m = how_many (onset_goes v) os

      rest : ℕ
      rest = pairs (λ o c. parts_fit o v c) os cs

      go : (b : Bool) → onset_goes v o ≡ b → rest ≡ m * n → how_many (λ c. parts_fit o v c) cs + rest ≡ pick b (suc m) m * n
      go true e h = omega (arith, with_onset true o cs e, suc-mul m n)
      go false e h = omega (arith, with_onset false o cs e)

products : List Word → List Word → List Word → ℕ
products os [] cs = 0
products os (v ∷ vs) cs = how_many (onset_goes v) os * how_many (coda_goes v) cs + products os vs cs

fitting_are : (os vs cs : List Word) → fitting os vs cs ≡ products os vs cs
unfolding fitting products
fitting_are os [] cs = refl
fitting_are os (v ∷ vs) cs = ap₂ ◌+◌ (pairs_are v os cs) (fitting_are os vs cs)

computed : length onsets + products ([] ∷ onsets) vowel_parts ([] ∷ codas) ≡ 5977
unfolding onsets vowel_parts codas once unforeign how_many products onset_goes coda_goes flatten word words words_from onset_rows vowel_rows
    coda_rows onset_to_vowels vowels_to_coda same_word in_list rows_from rows_of in_rows allows allows_any go_together has_foreign in_rows_if_any onset_fits
    coda_fits
computed = refl

pub triples_are : triples ≡ 5977
unfolding triples
triples_are = ap (λ (n : ℕ). length onsets + n) (fitting_are ([] ∷ onsets) vowel_parts ([] ∷ codas)) ∙ computed
