-- Section 3's table, row by row, and its widths.
use Prim.Native.Nat.{ℕ, ◌+◌, ◌/◌, ◌%◌, ◌<◌, ◌≤◌}
use mathlib.Core.Path.{◌≡◌, refl, ap}
use mathlib.Core.Bool.{Bool, true, false}
use mathlib.Core.List.{List, [], ◌∷◌}
use mathlib.Core.Logic.{◌⊎◌, inl, inr, ⊎_elim}
use native.Mathlib.Omega.{arith}
use lib.Dec.{ltb}
use lib.ListN.{length, length-append}
use borrow.Author.Tests.{lt-ltb, le-ltb, ltb-true, ltb-false}
use Rattle.p0_choice.specs.Choice.{pick}
use Rattle.p0_choice.proofs.Choices.{picks, pick_both}
use Rattle.p5_utf8.specs.Rfc3629.{is_scalar, encode, encode_all}

module _ (x : ℕ) where
  pub row_1 : x < 0x80 → x ∷ [] ≡ encode x
  unfolding encode
  row_1 h = search picks

  pub row_2 : 0x80 ≤ x → x < 0x800 → (0xc0 + x / 64) ∷ (0x80 + x % 64) ∷ [] ≡ encode x
  unfolding encode
  row_2 l h = search picks

  pub row_3 : 0x800 ≤ x → x < 0x10000 → (0xe0 + x / 4096) ∷ (0x80 + x / 64 % 64) ∷ (0x80 + x % 64) ∷ [] ≡ encode x
  unfolding encode
  row_3 l h = let m : 0x80 ≤ x = omega arith in search picks

  pub row_4 : 0x10000 ≤ x → (0xf0 + x / 262144) ∷ (0x80 + x / 4096 % 64) ∷ (0x80 + x / 64 % 64) ∷ (0x80 + x % 64) ∷ [] ≡ encode x
  unfolding encode
  row_4 l = let m : 0x80 ≤ x = omega arith in let n : 0x800 ≤ x = omega arith in search picks

  pub width_1 : x < 0x80 → 1 ≡ length (encode x)
  width_1 h = ap length (row_1 h)

  pub width_2 : 0x80 ≤ x → x < 0x800 → 2 ≡ length (encode x)
  width_2 l h = ap length (row_2 l h)

  pub width_3 : 0x800 ≤ x → x < 0x10000 → 3 ≡ length (encode x)
  width_3 l h = ap length (row_3 l h)

  pub width_4 : 0x10000 ≤ x → 4 ≡ length (encode x)
  width_4 l = ap length (row_4 l)

  -- the table's row of a code point
  pub by_row : (P : Type 0) → (x < 0x80 → P) → (0x80 ≤ x → x < 0x800 → P) → (0x800 ≤ x → x < 0x10000 → P) → (0x10000 ≤ x → P) → P
  by_row P f g h k =
      pick_both (λ (n : ℕ). P) (ltb x 0x80) 0 0 (λ e. f (ltb-true x 0x80 e)) (λ e.
      pick_both (λ (n : ℕ). P) (ltb x 0x800) 0 0 (λ d. g (ltb-false x 0x80 e) (ltb-true x 0x800 d)) (λ d.
      pick_both (λ (n : ℕ). P) (ltb x 0x10000) 0 0 (λ c. h (ltb-false x 0x800 d) (ltb-true x 0x10000 c)) (λ c. k (ltb-false x 0x10000 c))))

  pub some_bytes : (1 ≤ length (encode x)) × (length (encode x) ≤ 4)
  some_bytes =
      by_row ((1 ≤ length (encode x)) × (length (encode x) ≤ 4))
      (λ h. (omega (arith, width_1 h), omega (arith, width_1 h)))
      (λ l h. (omega (arith, width_2 l h), omega (arith, width_2 l h)))
      (λ l h. (omega (arith, width_3 l h), omega (arith, width_3 l h)))
      (λ l. (omega (arith, width_4 l), omega (arith, width_4 l)))

  -- ---- scalar values
  pub scalar_low : x < 0xd800 → is_scalar x ≡ true
  unfolding is_scalar
  scalar_low h = rw (lt-ltb x 0xd800 h) refl

  pub scalar_high : 0xe000 ≤ x → x < 0x110000 → is_scalar x ≡ true
  unfolding is_scalar
  scalar_high l h = let m : 0xd800 ≤ x = omega arith in rw (le-ltb x 0xd800 m, le-ltb x 0xe000 l) (lt-ltb x 0x110000 h)

  pub scalar_cases : is_scalar x ≡ true → (x < 0xd800) ⊎ ((0xe000 ≤ x) × (x < 0x110000))
  unfolding is_scalar
  scalar_cases e = go (ltb x 0xd800) (ltb x 0xe000) (ltb x 0x110000) refl refl refl e
    where
      go : (t u v : Bool) → ltb x 0xd800 ≡ t → ltb x 0xe000 ≡ u → ltb x 0x110000 ≡ v → pick t true (pick u false v) ≡ true
          → (x < 0xd800) ⊎ ((0xe000 ≤ x) × (x < 0x110000))
      go true u v p q r h = inl (ltb-true x 0xd800 p)
      go false true v p q r h = let z : ◌≡◌ {A = ℕ} 0 1 = cc in absurd (omega arith)
      go false false true p q r h = inr (ltb-false x 0xe000 q, ltb-true x 0x110000 r)
      go false false false p q r h = let z : ◌≡◌ {A = ℕ} 0 1 = cc in absurd (omega arith)

pub scalar_below : (x : ℕ) → is_scalar x ≡ true → x < 0x110000
scalar_below x e = ⊎_elim (λ (h : x < 0xd800). omega arith) (λ (h : (0xe000 ≤ x) × (x < 0x110000)). h.1) (scalar_cases x e)

-- a string has as many bytes as characters at least
pub many_bytes : (xs : List ℕ) → length xs ≤ length (encode_all xs)
many_bytes [] = omega arith
many_bytes (x ∷ xs) = let b = some_bytes x in let h = many_bytes xs in omega (arith, length-append (encode x) (encode_all xs))
