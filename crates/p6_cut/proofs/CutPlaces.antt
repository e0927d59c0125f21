-- The places of a cut word: those of the cut; and after a refusal all three parts are empty.
use Rattle.std.specs.Prelude.{Err, Ok}
use Prim.Native.Nat.{◌+◌, ◌<◌}
use mathlib.Core.Path.{◌≡◌, refl}
use mathlib.Core.List.{[]}
use native.Mathlib.Omega.{arith}
use lib.ListN.{length}
use borrow.Author.Tests.{lt-ltb}
use Rattle.p0_refusals.specs.declared.Refusal.{Refusal}
use Rattle.p4_rows.specs.Rows.{Word}
use Rattle.p4_spelling.specs.Answers.{places_of, cut_answer, onset_part, vowels_part, coda_part}
use Rattle.p4_spelling.specs.Cut.{onset_of, vowels_of, coda_of}
use Rattle.p4_spelling.proofs.Answers.{onset_at, vowels_at, coda_at}
use Rattle.p6_cut.specs.Cut.{past_end, places_after}

-- ---- "all empty after a refusal"
module _ (w : Word) (r : Refusal) (e : cut_answer w ≡ Err r) where
  past : places_after w ≡ past_end w
  unfolding places_after
  past = rw e refl

  more : length w < length w + 1
  more = omega arith

  pub no_onset : onset_part w (places_after w) ≡ []
  unfolding onset_part
  no_onset = rw (past, lt-ltb (length w) (length w + 1) more) refl

  pub no_vowels : vowels_part w (places_after w) ≡ []
  unfolding vowels_part
  no_vowels = rw (past, lt-ltb (length w) (length w + 1) more) refl

  pub no_coda : coda_part w (places_after w) ≡ []
  unfolding coda_part
  no_coda = rw (past, lt-ltb (length w) (length w + 1) more) refl

-- ---- and of a word that is cut they are document 01's three
module _ (w : Word) (e : cut_answer w ≡ Ok (places_of w)) where
  whole : places_after w ≡ places_of w
  unfolding places_after
  whole = rw e refl

  pub onset_is : onset_part w (places_after w) ≡ onset_of w
  onset_is = rw whole (onset_at w)

  pub vowels_is : vowels_part w (places_after w) ≡ vowels_of w
  vowels_is = rw whole (vowels_at w)

  pub coda_is : coda_part w (places_after w) ≡ coda_of w
  coda_is = rw whole (coda_at w)
