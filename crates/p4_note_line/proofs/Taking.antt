-- What a letter is to the line, in propositions.
use Rattle.std.specs.Prelude.{Err, Ok, Result}
use Rattle.p0_refusals.specs.declared.Refusal.{Refusal}
use Rattle.p0_refusals.specs.declared.Refusal.TheVariants.{Foreign, Long}
use Prim.Native.Nat.{ℕ, ◌≤◌, ◌<◌}
use mathlib.Core.Path.{◌≡◌, refl, subst, sym}
use mathlib.Core.Bool.{Bool, true, false}
use mathlib.Core.Logic.{◌⊎◌, inl, inr}
use lib.Dec.{ltb}
use borrow.Author.Tests.{ltb-true, ltb-false}
use Rattle.p0_choice.specs.Choice.{pick}
use Rattle.p0_refusals.specs.Limits.{letter_limit}
use Rattle.p1_letters.specs.Alphabet.{in_alphabet, is_separator}
use Rattle.p4_note_line.specs.declared.Taken.{Taken}
use Rattle.p4_note_line.specs.declared.Taken.TheVariants.{Gap, Letter}
use Rattle.p4_note_line.specs.Line.{line_limit, taking}

-- x stands after `at` letters, the last `run` of them of one word
abbrev pub Tells : Result Taken Refusal → ℕ → ℕ → ℕ → Type 0
Tells (Ok Gap) at run x = (in_alphabet x ≡ true) × (at < line_limit) × (is_separator x ≡ true)
Tells (Ok Letter) at run x = (in_alphabet x ≡ true) × (at < line_limit) × (is_separator x ≡ false) × (run < letter_limit)
Tells (Err r) at run x =
    ((r ≡ Foreign) × (in_alphabet x ≡ false))
    ⊎ ((r ≡ Long) × (in_alphabet x ≡ true) × ((line_limit ≤ at) ⊎ ((is_separator x ≡ false) × (letter_limit ≤ run))))

module _ (at run x : ℕ) where
  by_tests : (known short gap room : Bool) → in_alphabet x ≡ known → ltb at line_limit ≡ short → is_separator x ≡ gap
      → ltb run letter_limit ≡ room
      → Tells (pick known (pick short (pick gap (Ok Gap) (pick room (Ok Letter) (Err Long))) (Err Long)) (Err Foreign)) at run x
  by_tests true true true room k s g r = (k, ltb-true at line_limit s, g)
  by_tests true true false true k s g r = (k, ltb-true at line_limit s, g, ltb-true run letter_limit r)
  by_tests true true false false k s g r = inr (refl, k, inr (g, ltb-false run letter_limit r))
  by_tests true false gap room k s g r = inr (refl, k, inl (ltb-false at line_limit s))
  by_tests false short gap room k s g r = inl (refl, k)

  pub tells : (t : Result Taken Refusal) → t ≡ taking at run x → Tells t at run x
  unfolding taking
  tells t e = subst (λ u. Tells u at run x) (sym e) (by_tests _ _ _ _ refl refl refl refl)
