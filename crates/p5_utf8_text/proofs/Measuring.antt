-- Each way through `measure`: what is left of the letters decides.
use Rattle.std.specs.Prelude.{Err, Ok}
use Prim.Native.Nat.{ℕ, ◌+◌, ◌<◌, ◌≤◌}
use mathlib.Core.Path.{◌≡◌, refl, ap}
use mathlib.Core.Bool.{Bool, true, false, not}
use mathlib.Core.List.{List, [], ◌∷◌}
use native.Mathlib.Omega.{arith}
use native.Mathlib.Numerals.{add-one}
use lib.ListN.{length, get_or, drop, length-append, drop_of_length-le}
use lib.Seq.{drop-cons}
use borrow.Author.Tests.{lt-ltb, le-ltb, not-true, not-false}
use Rattle.p0_refusals.specs.Limits.{letter_limit}
use Rattle.p0_refusals.specs.declared.Refusal.TheVariants.{Foreign, Long}
use Rattle.p1_letters.specs.Alphabet.{in_alphabet, all_letters}
use Rattle.p5_utf8.specs.Rfc3629.{encode, encode_all}
use Rattle.p0_refusals.specs.Mirror.{counted}
use Rattle.p5_utf8_text.specs.Write.{writing}

module _ (xs : List ℕ) (i x : ℕ) (l : i < length xs) (p : x ≡ get_or xs i 0) where
  pub rest : drop i xs ≡ x ∷ drop (i + 1) xs
  rest = rw (p, add-one) (drop-cons xs i 0 l)

  pub bytes_on_lem : (n w : ℕ) → length (encode_all xs) ≡ n + length (encode_all (drop i xs)) → w ≡ length (encode x)
      → length (encode_all xs) ≡ n + w + length (encode_all (drop (i + 1) xs))
  bytes_on_lem n w e q = omega (arith, ap (λ (s : List ℕ). length (encode_all s)) rest, length-append (encode x) (encode_all (drop (i + 1) xs)))

  module _ (v : Bool) (e : all_letters xs ≡ all_letters (drop i xs)) (a : v ≡ in_alphabet x) where
    pub letters_on : not v ≡ false → all_letters xs ≡ all_letters (drop (i + 1) xs)
    letters_on b = rw (e, rest, ← a, not-false v b) refl

    pub measure_foreign : length xs ≤ letter_limit → not v ≡ true → Err Foreign ≡ counted (writing xs)
    unfolding writing counted
    measure_foreign h b = rw (le-ltb letter_limit (length xs) h, e, rest, ← a, not-true v b) refl

pub bytes_start : (xs : List ℕ) → length (encode_all xs) ≡ 0 + length (encode_all (drop 0 xs))
bytes_start xs = omega arith

pub measure_long : (xs : List ℕ) → letter_limit < length xs → Err Long ≡ counted (writing xs)
unfolding writing counted
measure_long xs h = rw (lt-ltb letter_limit (length xs) h) refl

pub measure_done : (xs : List ℕ) (i n : ℕ) → all_letters xs ≡ all_letters (drop i xs)
    → length (encode_all xs) ≡ n + length (encode_all (drop i xs))
    → length xs ≤ letter_limit → length xs ≤ i → Ok n ≡ counted (writing xs)
unfolding writing counted
measure_done xs i n e f h l =
    let z : drop i xs ≡ [] = drop_of_length-le xs l in
    let k : length (encode_all xs) ≡ n = omega (arith, rw z at f) in
    rw (le-ltb letter_limit (length xs) h, e, z, k) refl

-- each way through `measure`
pub ruleset ways = (bytes_start, bytes_on_lem, letters_on, measure_long, measure_foreign, measure_done)
