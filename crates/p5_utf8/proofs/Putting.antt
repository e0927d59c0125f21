-- Each way through `put`: the bytes of a code point fit where they go, and are its row of the table.
use Prim.Native.Nat.{ℕ, suc, ◌+◌, ◌/◌, ◌%◌, ◌<◌, ◌≤◌}
use mathlib.Core.Path.{◌≡◌, ◌∙◌}
use mathlib.Core.Bool.{true}
use mathlib.Core.List.{List, [], ◌∷◌, ◌++◌, append_assoc}
use native.Mathlib.Omega.{arith}
use native.Mathlib.Numerals.{add-one}
use lib.ListN.{length, take, drop, set, length-set}
use lib.Seq.{sets-eq, drop_at, length-take-le}
use Rattle.p5_utf8.specs.Rfc3629.{is_scalar, encode, char_at}
use Rattle.p5_utf8.specs.Rfc3629.{character}
use Rattle.p5_utf8.proofs.Encode.{row_1, row_2, row_3, row_4, width_1, width_2, width_3, width_4, by_row, scalar_below}
use Rattle.p5_utf8.proofs.Exact.{there_at}

module _ (o : List ℕ) (j x : ℕ) (r : j + length (encode x) ≤ length o) where
  pub room_1 : j < length o
  room_1 =
      by_row x (j < length o) (λ h. omega (arith, width_1 x h)) (λ l h. omega (arith, width_2 x l h)) (λ l h. omega (arith, width_3 x l h))
      (λ l. omega (arith, width_4 x l))

  pub room_2 : 0x80 ≤ x → j + 1 < length o
  room_2 m =
      by_row x (j + 1 < length o) (λ h. absurd (omega arith)) (λ l h. omega (arith, width_2 x l h)) (λ l h. omega (arith, width_3 x l h))
      (λ l. omega (arith, width_4 x l))

  pub room_3 : 0x800 ≤ x → j + 2 < length o
  room_3 m =
      by_row x (j + 2 < length o) (λ h. absurd (omega arith)) (λ l h. absurd (omega arith)) (λ l h. omega (arith, width_3 x l h))
      (λ l. omega (arith, width_4 x l))

  pub room_4 : 0x10000 ≤ x → j + 3 < length o
  room_4 l = omega (arith, width_4 x l)

  pub put_1 : x < 0x80 → set o j x ≡ take j o ++ (encode x ++ drop (j + length (encode x)) o)
  put_1 h = rw (← row_1 x h) (sets-eq (x ∷ []) o j (omega (arith, width_1 x h)) ∙ append_assoc (take j o) (x ∷ []) (drop (j + 1) o))

  pub put_2 : 0x80 ≤ x → x < 0x800
      → set (set o j (0xc0 + x / 64)) (j + 1) (0x80 + x % 64) ≡ take j o ++ (encode x ++ drop (j + length (encode x)) o)
  put_2 l h =
      rw (← row_2 x l h, add-one j)
      (sets-eq ((0xc0 + x / 64) ∷ (0x80 + x % 64) ∷ []) o j (omega (arith, width_2 x l h)) ∙ append_assoc (take j o) _ (drop (j + 2) o))

  pub put_3 : 0x800 ≤ x → x < 0x10000
      → set (set (set o j (0xe0 + x / 4096)) (j + 1) (0x80 + x / 64 % 64)) (j + 2) (0x80 + x % 64)
      ≡ take j o ++ (encode x ++ drop (j + length (encode x)) o)
  put_3 l h =
      let e : j + 2 ≡ suc (suc j) = omega arith in
      rw (← row_3 x l h, add-one j)
      (rw e (sets-eq ((0xe0 + x / 4096) ∷ (0x80 + x / 64 % 64) ∷ (0x80 + x % 64) ∷ []) o j (omega (arith, width_3 x l h))
      ∙ append_assoc (take j o) _ (drop (j + 3) o)))

  pub put_4 : 0x10000 ≤ x
      → set (set (set (set o j (0xf0 + x / 262144)) (j + 1) (0x80 + x / 4096 % 64)) (j + 2) (0x80 + x / 64 % 64)) (j + 3) (0x80 + x % 64)
      ≡ take j o ++ (encode x ++ drop (j + length (encode x)) o)
  put_4 l =
      let e : j + 2 ≡ suc (suc j) = omega arith in
      let f : j + 3 ≡ suc (suc (suc j)) = omega arith in
      rw (← row_4 x l, add-one j)
      (rw (e, f)
      (sets-eq ((0xf0 + x / 262144) ∷ (0x80 + x / 4096 % 64) ∷ (0x80 + x / 64 % 64) ∷ (0x80 + x % 64) ∷ []) o j (omega (arith, width_4 x l))
      ∙ append_assoc (take j o) _ (drop (j + 4) o)))

  pub put_read : (out : List ℕ) → is_scalar x ≡ true → out ≡ take j o ++ (encode x ++ drop (j + length (encode x)) o)
      → char_at out j ≡ character x (length (encode x))
  put_read out d e =
      let k : length (take j o) ≡ j = length-take-le j o (omega arith) in
      there_at out j x (drop (j + length (encode x)) o) d (rw e (drop_at (take j o) (encode x ++ drop (j + length (encode x)) o) j k))

-- each way through `put`
pub ruleset rows =
    (room_1, room_2, room_3, room_4, length-set, scalar_below, width_1, width_2, width_3, width_4, put_1, put_2, put_3, put_4, put_read)
