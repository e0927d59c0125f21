-- The first byte of a character of one to three bytes says how many they are, and so how they are read back.
use Prim.Native.Nat.{ℕ, ◌+◌, ◌/◌, ◌%◌, ◌<◌, ◌≤◌}
use mathlib.Core.Path.{◌≡◌, refl, ◌∙◌}
use mathlib.Core.List.{List, [], ◌∷◌, ◌++◌}
use native.Mathlib.Omega.{arith}
use lib.ListN.{length, get_or}
use Rattle.p5_utf8.specs.Rfc3629.{encode, bits2, bits3}
use Rattle.p5_utf8.proofs.Encode.{row_1, row_2, row_3, width_1, width_2, width_3, by_row}

module _ (x : ℕ) (t : List ℕ) where
  bytes_1 : x < 0x80 → get_or (encode x ++ t) 0 0 ≡ x
  bytes_1 h = rw (← row_1 x h) refl

  bytes_2 : 0x80 ≤ x → x < 0x800 → (get_or (encode x ++ t) 0 0 ≡ 0xc0 + x / 64) × (get_or (encode x ++ t) 1 0 ≡ 0x80 + x % 64)
  bytes_2 l h = rw (← row_2 x l h) (refl, refl)

  bytes_3 : 0x800 ≤ x → x < 0x10000
      → (get_or (encode x ++ t) 0 0 ≡ 0xe0 + x / 4096) × (get_or (encode x ++ t) 1 0 ≡ 0x80 + x / 64 % 64)
      × (get_or (encode x ++ t) 2 0 ≡ 0x80 + x % 64)
  bytes_3 l h = rw (← row_3 x l h) (refl, refl, refl)

  module _ (m : x < 0x10000) (a : ℕ) (p : a ≡ get_or (encode x ++ t) 0 0) where
    pub first_1 : a < 0x80 → (1 ≡ length (encode x)) × (a ≡ x)
    first_1 h =
        by_row x _ (λ k. (width_1 x k, p ∙ bytes_1 k)) (λ l k. absurd (omega (arith, (bytes_2 l k).0)))
        (λ l k. absurd (omega (arith, (bytes_3 l k).0))) (λ l. absurd (omega arith))

    pub first_2 : 0x80 ≤ a → a < 0xe0 → (2 ≡ length (encode x)) × ((b : ℕ) → b ≡ get_or (encode x ++ t) 1 0 → bits2 (a ∷ b ∷ []) ≡ x)
    unfolding bits2
    first_2 l h =
        by_row x _
        (λ k. absurd (omega (arith, bytes_1 k)))
        (λ j k. (width_2 x j k, λ b q. let v = bytes_2 j k in omega arith))
        (λ j k. absurd (omega (arith, (bytes_3 j k).0)))
        (λ j. absurd (omega arith))

    pub first_3 : 0xe0 ≤ a
        → (3 ≡ length (encode x)) × ((b c : ℕ) → b ≡ get_or (encode x ++ t) 1 0 → c ≡ get_or (encode x ++ t) 2 0 → bits3 (a ∷ b ∷ c ∷ []) ≡ x)
    unfolding bits3
    first_3 l =
        by_row x _
        (λ k. absurd (omega (arith, bytes_1 k)))
        (λ j k. absurd (omega (arith, (bytes_2 j k).0)))
        (λ j k. (width_3 x j k, λ b c q u. let v = bytes_3 j k in omega arith))
        (λ j. absurd (omega arith))
