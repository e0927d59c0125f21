-- One character on: what bytes are, by their first character.
use Prim.Native.Nat.{ℕ, zero, suc, ◌+◌, ◌-◌, ◌<◌, ◌≤◌}
use mathlib.Core.Path.{◌≡◌, refl, ap}
use mathlib.Core.List.{List, [], ◌∷◌}
use native.Mathlib.Omega.{arith}
use lib.ListN.{length, get_or, drop, length-append, drop_of_length-le}
use lib.Seq.{drop-cons, drop-drop}
use Rattle.p0_choice.specs.Choice.{pick}
use Rattle.p0_refusals.specs.declared.Refusal.TheVariants.{Foreign, Malformed}
use Rattle.p1_letters.specs.Alphabet.{in_alphabet}
use Rattle.std.specs.Prelude.{None}
use Rattle.p5_utf8.specs.Rfc3629.{character}
use Rattle.p5_utf8.specs.Rfc3629.{encode, char_of, char_at}
use Rattle.p0_refusals.specs.Answers.{writes, refuses}
use Rattle.p5_utf8.proofs.Encode.{some_bytes}
use Rattle.p5_utf8.proofs.Exact.{found}
use Rattle.p5_utf8_text.specs.Read.{width_of, before, reads, passed, letters}

pass : (k : ℕ) (s : List ℕ) → passed k s ≡ letters (drop k s)
unfolding passed letters
pass zero [] = refl
pass (suc k) [] = refl
pass zero (b ∷ s) = refl
pass (suc k) (b ∷ s) = pass k s

pub letters_none : letters [] ≡ writes []
unfolding letters passed
letters_none = refl

pub letters_malformed : (b : ℕ) (s : List ℕ) → char_of (b ∷ s) ≡ None → letters (b ∷ s) ≡ refuses Malformed
unfolding letters passed reads
letters_malformed b s e = rw e refl

pub letters_char : (s : List ℕ) (x w : ℕ) → char_of s ≡ character x w
    → letters s ≡ pick (in_alphabet x) (before x (letters (drop w s))) (refuses Foreign)
unfolding letters passed reads width_of
letters_char [] x w e = let b = some_bytes x in absurd (omega (arith, ap length (found [] x w e).2, length-append (encode x) (drop w [])))
letters_char (b ∷ s) x zero e = let b' = some_bytes x in absurd (omega (arith, (found (b ∷ s) x zero e).1))
letters_char (b ∷ s) x (suc k) e = let h : suc k - 1 ≡ k = omega arith in rw (e, h, pass k s) refl

-- ---- at a place
module _ (s : List ℕ) (i : ℕ) where
  pub at_end : length s ≤ i → letters (drop i s) ≡ writes []
  at_end l = rw (drop_of_length-le s l) letters_none

  pub at_malformed : i < length s → char_at s i ≡ None → letters (drop i s) ≡ refuses Malformed
  unfolding char_at
  at_malformed l e =
      let h = drop-cons s i 0 l in
      rw h (letters_malformed (get_or s i 0) (drop (suc i) s) (rw (← h) e))

  pub at_char : (x w : ℕ) → char_at s i ≡ character x w
      → letters (drop i s) ≡ pick (in_alphabet x) (before x (letters (drop (i + w) s))) (refuses Foreign)
  unfolding char_at
  at_char x w e = rw (← drop-drop w i s) (letters_char (drop i s) x w e)
