-- The answers, from what the calls in them answer; at the places of the cut the parts are onset, vowels and coda.
use Rattle.std.specs.Prelude.{Err, Ok, Result}
use Prim.Native.Nat.{◌+◌, ◌-◌, ◌<◌, ◌≤◌}
use mathlib.Core.Path.{◌≡◌, refl, sym, ◌∙◌}
use mathlib.Core.Bool.{Bool, true}
use native.Mathlib.Omega.{arith}
use lib.ListN.{length, take, drop}
use borrow.Author.Tests.{lt-ltb, le-ltb}
use Rattle.p0_refusals.specs.Limits.{letter_limit}
use Rattle.p0_refusals.specs.declared.Refusal.{Refusal}
use Rattle.p0_refusals.specs.declared.Refusal.TheVariants.{Long}
use Rattle.p1_letters.specs.Alphabet.{all_letters}
use Rattle.p4_rows.specs.Rows.{Word}
use Rattle.p4_spelling.specs.Cut.{vowel_run, onset_end, vowels_end, onset_of, vowels_of, coda_of}
use Rattle.p4_spelling.specs.Verdict.{verdict}
use Rattle.p4_spelling.specs.Answers.{permitted, places_of, verdict_answer, onset_part, vowels_part, coda_part}
use Rattle.p4_spelling.proofs.Letters.{accepted_letters}
use Rattle.p4_spelling.proofs.Scans.{onset_le, vowels_le, onset_first}

run_long : (w : Word) → take (vowels_end w - onset_end w) (drop (onset_end w) w) ≡ take (vowel_run (drop (onset_end w) w)) (drop (onset_end w) w)
unfolding vowels_end
run_long w = let e : onset_end w + vowel_run (drop (onset_end w) w) - onset_end w ≡ vowel_run (drop (onset_end w) w) = omega arith in rw e

-- an accepted word is permitted but for its length
pub says_yes : (w : Word) (r : Bool) → length w ≤ letter_limit → r ≡ verdict w → r ≡ true
    → ◌≡◌ {A = Result Bool Refusal} (Ok true) (verdict_answer w)
unfolding verdict_answer permitted
says_yes w r l e t = let v : verdict w ≡ true = sym e ∙ t in rw (le-ltb letter_limit (length w) l, accepted_letters w v, v)

-- a word is judged where it is permitted ..
pub verdict_said : (w : Word) → length w ≤ letter_limit → all_letters w ≡ true → verdict_answer w ≡ Ok (verdict w)
unfolding verdict_answer permitted
verdict_said w l a = rw (le-ltb letter_limit (length w) l, a) refl

-- .. and "the verdict of a longer text is refusal 6" (request 2026-05), whatever its letters are
pub verdict_long : (w : Word) → letter_limit < length w → verdict_answer w ≡ Err Long
unfolding verdict_answer permitted
verdict_long w l = rw (lt-ltb letter_limit (length w) l) refl

module _ (w : Word) where
  pub onset_at : onset_part w (places_of w) ≡ onset_of w
  unfolding onset_part places_of onset_of
  onset_at = rw (le-ltb (length w) (onset_end w) (onset_le w))

  pub vowels_at : vowels_part w (places_of w) ≡ vowels_of w
  unfolding vowels_part places_of vowels_of
  vowels_at = rw (le-ltb (length w) (vowels_end w) (vowels_le w), le-ltb (vowels_end w) (onset_end w) (onset_first w)) (run_long w)

  pub coda_at : coda_part w (places_of w) ≡ coda_of w
  unfolding coda_part places_of coda_of
  coda_at = rw (le-ltb (length w) (vowels_end w) (vowels_le w))
