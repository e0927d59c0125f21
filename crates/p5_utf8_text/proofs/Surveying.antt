-- Each way through `survey`: k letters are read, and what the bytes from i on are decides the rest.
use Rattle.std.specs.Prelude.{Err, Ok, Result}
use Rattle.p0_refusals.specs.declared.Refusal.{Refusal}
use Prim.Native.Nat.{ℕ, ◌+◌, ◌*◌, ◌^◌, ◌<◌, ◌≤◌}
use mathlib.Core.Path.{◌≡◌, refl, sym, ap}
use mathlib.Core.Bool.{Bool, true, false, not}
use mathlib.Core.List.{List, ◌∷◌}
use native.Mathlib.Omega.{arith}
use mir.Syntax.{w64}
use mir.Val.{Fits}
use lib.ListN.{length, get_or, drop}
use borrow.Author.Tests.{lt-ltb, le-ltb, not-true, not-false}
use Rattle.p0_refusals.specs.Limits.{byte_limit}
use Rattle.p0_refusals.specs.declared.Refusal.TheVariants.{Foreign, Long, Malformed}
use Rattle.p1_letters.specs.Alphabet.{in_alphabet}
use Rattle.p1_letters.proofs.Alphabet.{alphabet_ascii}
use Rattle.p5_utf8.specs.declared.Char.{Char}
use Rattle.std.specs.Prelude.{None, Some}
use Rattle.p5_utf8.specs.Rfc3629.{char_at}
use Rattle.p0_refusals.specs.Answers.{Outcome, writes, refuses}
use Rattle.p0_refusals.specs.Mirror.{counted}
use Rattle.p5_utf8.proofs.CharAt.{at_ascii}
use Rattle.p5_utf8.proofs.Exact.{fits_at_lem}
use Rattle.p5_utf8_text.specs.Read.{before, letters, reading}
use Rattle.p5_utf8_text.proofs.Letters.{at_end, at_malformed, at_char}

-- k letters, and then an outcome
unfoldable pub counted_from : ℕ → Outcome → Result ℕ Refusal
counted_from k (writes xs) = Ok (k + length xs)
counted_from k (refuses r) = Err r

from_start : (u : Outcome) → counted u ≡ counted_from 0 u
unfolding counted counted_from
from_start (writes xs) = let h : length xs ≡ 0 + length xs = omega arith in ap Ok h
from_start (refuses r) = refl

from_before : (k x : ℕ) (u : Outcome) → counted_from k (before x u) ≡ counted_from (k + 1) u
unfolding counted_from before
from_before k x (writes xs) = let h : k + length (x ∷ xs) ≡ k + 1 + length xs = omega arith in ap Ok h
from_before k x (refuses r) = refl

pub survey_long : (s : List ℕ) → byte_limit < length s → Err Long ≡ counted (reading s)
unfolding reading counted
survey_long s h = rw (lt-ltb byte_limit (length s) h) refl

pub survey_start : (s : List ℕ) → length s ≤ byte_limit → counted (reading s) ≡ counted_from 0 (letters (drop 0 s))
unfolding reading
survey_start s h = rw (le-ltb byte_limit (length s) h) (from_start (letters s))

module _ (s : List ℕ) (k i : ℕ) (e : counted (reading s) ≡ counted_from k (letters (drop i s))) where
  pub survey_done : length s ≤ i → Ok k ≡ counted (reading s)
  unfolding counted_from
  survey_done l = let h : k ≡ k + 0 = omega arith in rw (e, at_end s i l) (ap Ok h)

  pub survey_malformed : i < length s → char_at s i ≡ None → Err Malformed ≡ counted (reading s)
  unfolding counted_from
  survey_malformed l q = rw (e, at_malformed s i l q) refl

  module _ (c : Char) (q : char_at s i ≡ Some c) (v : Bool) (a : v ≡ in_alphabet c.scalar) where
    pub survey_foreign : not v ≡ true → Err Foreign ≡ counted (reading s)
    unfolding counted_from
    survey_foreign b = rw (e, at_char s i c.scalar c.width q, ← a, not-true v b) refl

    pub survey_on : not v ≡ false → counted (reading s) ≡ counted_from (k + 1) (letters (drop (i + c.width) s))
    survey_on b =
        rw (e, at_char s i c.scalar c.width q, ← a, not-false v b) (from_before k c.scalar (letters (drop (i + c.width) s)))

  pub survey_ascii : (a : ℕ) → i < length s → a ≡ get_or s i 0 → a < 0x80
      → counted (reading s) ≡ counted_from (k + 1) (letters (drop (i + 1) s))
  survey_ascii a l p h =
      survey_on (record { scalar = a; width = 1 }) (sym (at_ascii s i a l p h)) true (alphabet_ascii a h) refl

-- ---- a character's bytes are all there
module _ (s : List ℕ) (i : ℕ) (c : Char) (q : char_at s i ≡ Some c) where
  pub char_fits : length s * 1 < 2 ^ 63 → Fits w64 (i + c.width)
  char_fits h = let b = fits_at_lem s i c.scalar c.width q in record { fits = omega arith }

  pub char_on : (k : ℕ) → k ≤ i → k + 1 ≤ i + c.width
  char_on k h = let b = fits_at_lem s i c.scalar c.width q in omega arith

-- each way through `survey`
pub ruleset ways = (survey_long, survey_start, survey_done, survey_malformed, survey_foreign, survey_on, survey_ascii, char_fits, char_on)
