-- Each way through `lay`: what is in the output already, with the bytes of what is left, is the bytes of all letters.
use Prim.Native.Nat.{ℕ, ◌+◌, ◌<◌, ◌≤◌}
use mathlib.Core.Path.{◌≡◌, refl, sym, ap, ◌∙◌}
use mathlib.Core.Bool.{true}
use mathlib.Core.List.{List, [], ◌++◌, append_assoc, append-nil}
use native.Mathlib.Omega.{arith}
use lib.ListN.{length, get_or, take, drop, length-append, length-drop, drop_of_length-le, take-append-drop}
use lib.Seq.{take_at, drop_at, length-take-le, drop-drop}
use Rattle.p1_letters.specs.Alphabet.{all_letters}
use Rattle.p5_utf8.specs.Rfc3629.{is_scalar, encode, encode_all}
use Rattle.p0_refusals.specs.Answers.{onto}
use Rattle.p5_utf8_text.proofs.Alphabet.{letter_scalar, all_at}
use Rattle.p5_utf8_text.proofs.Measuring.{rest, bytes_start, bytes_on_lem}

pub next_scalar : (xs : List ℕ) (i x : ℕ) → all_letters xs ≡ true → i < length xs → x ≡ get_or xs i 0 → is_scalar x ≡ true
next_scalar xs i x a l p = rw p (letter_scalar (get_or xs i 0) (all_at xs i a l))

pub lay_start : (xs o : List ℕ) → encode_all xs ≡ take 0 o ++ encode_all (drop 0 xs)
lay_start xs o = refl

module _ (xs : List ℕ) (i j x : ℕ) (e : length (encode_all xs) ≡ j + length (encode_all (drop i xs))) (l : i < length xs)
    (p : x ≡ get_or xs i 0) where
  pub put_fits : (out o : List ℕ) → length out ≡ length o → length (encode_all xs) ≤ length o → j + length (encode x) ≤ length out
  put_fits out o q h = let b = bytes_on_lem xs i x l p j (length (encode x)) e refl in omega arith

  pub put_on : (k : ℕ) → k ≡ j + length (encode x) → length (encode_all xs) ≡ k + length (encode_all (drop (i + 1) xs))
  put_on k h = rw h (bytes_on_lem xs i x l p j (length (encode x)) e refl)

  module _ (out new o : List ℕ) (k : ℕ) (f : encode_all xs ≡ take j out ++ encode_all (drop i xs)) (g : drop j out ≡ drop j o)
      (h : length out ≡ length o)
      (r : length (encode_all xs) ≤ length o) (m : k ≡ j + length (encode x))
      (n : new ≡ take j out ++ (encode x ++ drop (j + length (encode x)) out)) where
    laid : new ≡ (take j out ++ encode x) ++ drop k out
    laid = rw m (n ∙ sym (append_assoc (take j out) (encode x) (drop (j + length (encode x)) out)))

    long : length (take j out ++ encode x) ≡ k
    long =
        let b = put_fits out o h r in
        omega (arith, length-append (take j out) (encode x), length-take-le j out (omega arith))

    pub put_length : length new ≡ length o
    put_length =
        let b = put_fits out o h r in
        omega (arith, ap length laid, length-append (take j out ++ encode x) (drop k out), length-drop k out, long)

    pub put_bytes : encode_all xs ≡ take k new ++ encode_all (drop (i + 1) xs)
    put_bytes =
        let t : take k new ≡ take j out ++ encode x = rw laid (take_at (take j out ++ encode x) (drop k out) k long) in
        rw t (f ∙ ap (λ (q : List ℕ). take j out ++ encode_all q) (rest xs i x l p)
        ∙ sym (append_assoc (take j out) (encode x) (encode_all (drop (i + 1) xs))))

    pub put_rest : drop k new ≡ drop k o
    put_rest =
        let d : drop k new ≡ drop k out = rw laid (drop_at (take j out ++ encode x) (drop k out) k long) in
        let w = length (encode x) in
        d ∙ rw m (sym (drop-drop w j out) ∙ ap (λ (q : List ℕ). drop w q) g ∙ drop-drop w j o)

pub lay_done : (xs : List ℕ) (i j : ℕ) (out o : List ℕ) → length (encode_all xs) ≡ j + length (encode_all (drop i xs))
    → encode_all xs ≡ take j out ++ encode_all (drop i xs)
    → drop j out ≡ drop j o → length xs ≤ i → out ≡ onto (encode_all xs) o
lay_done xs i j out o e f g l =
    let z : drop i xs ≡ [] = drop_of_length-le xs l in
    let k : length (encode_all xs) ≡ j = omega (arith, rw z at e) in
    let a : encode_all xs ≡ take j out = (rw z at f) ∙ append-nil (take j out) in
    rw (k, a, ← g) (sym (take-append-drop j out))

-- each way through `lay`
pub ruleset ways = (next_scalar, put_fits, put_on, put_length, put_bytes, put_rest, lay_start, lay_done, bytes_start)
