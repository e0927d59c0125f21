-- Bytes and then others, from the start of the output; and a refusal's line.
use Prim.Native.Nat.{ℕ, ◌+◌, ◌/◌, ◌%◌, ◌<◌, ◌≤◌}
use mathlib.Core.Path.{◌≡◌, refl, ap}
use mathlib.Core.List.{List, [], ◌∷◌, ◌++◌}
use native.Mathlib.Omega.{arith}
use lib.ListN.{length, take, drop, length-append}
use borrow.Author.Tests.{lt-ltb, le-ltb}
use Rattle.p0_choice.specs.Text.{word}
use Rattle.p0_refusals.specs.Answers.{onto}
use Rattle.p0_refusals.specs.Refusals.{number_of}
use Rattle.p0_refusals.specs.declared.Refusal.{Refusal}
use Rattle.p7_line.specs.Line.{digit, digits, refused_line}
use Rattle.p7_line.specs.Mirror.{line_room}
use Rattle.p7_slices.proofs.Written.{put_after}

-- p stands at the start of the output, and q after it
pub both : (o o1 o2 p q x : List ℕ) (n r : ℕ) → n ≡ length p → r ≡ n + length q → n ≤ length o → x ≡ p ++ q → length x ≤ line_room
    → o1 ≡ p ++ drop n o → o2 ≡ take n o1 ++ (q ++ drop r o1) → (r ≡ length x) × (r ≤ line_room) × (o2 ≡ onto x o)
both o o1 o2 p q x n r en er room e small f g =
    let z : n ≡ 0 + length p = omega arith in
    let k = put_after o o1 o2 p q 0 n r z er room f g in
    let l : r ≡ length x = omega (arith, ap length e, length-append p q) in
    (l, omega arith, rw (← l, e) k)

module _ (r : Refusal) (n : ℕ) (e : n ≡ number_of r) where
  pub one_digit : n < 10 → (d : ℕ) → d ≡ digit n → refused_line r ≡ word "refused " ++ (d ∷ 10 ∷ [])
  unfolding refused_line digits
  one_digit h d f = rw (← e, lt-ltb n 10 h, f) refl

  pub two_digits : 10 ≤ n → (c d : ℕ) → c ≡ digit (n / 10) → d ≡ digit (n % 10) → refused_line r ≡ word "refused " ++ (c ∷ d ∷ 10 ∷ [])
  unfolding refused_line digits
  two_digits h c d f g = rw (← e, le-ltb n 10 h, f, g) refl
