-- The letters of the alphabet are scalar values of at most three bytes.
use Prim.Native.Nat.{ℕ, zero, suc, ◌*◌, ◌<◌, ◌≤◌}
use mathlib.Core.Path.{◌≡◌, refl, ◌∙◌}
use mathlib.Core.Bool.{Bool, true, false}
use mathlib.Core.List.{List, [], ◌∷◌}
use native.Mathlib.Omega.{arith}
use lib.Dec.{ltb}
use lib.ListN.{length, get_or, length-append}
use borrow.Author.Tests.{ltb-true, ltb-false, leb-true}
use Rattle.p0_choice.specs.Choice.{pick}
use Rattle.p1_letters.specs.Alphabet.{in_alphabet, all_letters}
use Rattle.p1_letters.proofs.Alphabet.{alphabet_high}
use Rattle.p5_utf8.specs.Rfc3629.{is_scalar, encode, encode_all}
use Rattle.p5_utf8_text.specs.Write.{letter_bytes}
use Rattle.p5_utf8.proofs.Encode.{by_row, width_1, width_2, width_3, scalar_low}

-- the last letter is U+1EF9
pub letter_low : (x : ℕ) → in_alphabet x ≡ true → x ≤ 0x1ef9
letter_low x e = go (ltb x 0x1ea0) refl
  where
    go : (t : Bool) → ltb x 0x1ea0 ≡ t → x ≤ 0x1ef9
    go true p = let h = ltb-true x 0x1ea0 p in omega arith
    go false p = let h = ltb-false x 0x1ea0 p in leb-true x 0x1ef9 (alphabet_high x (omega arith) h ∙ e)

pub letter_scalar : (x : ℕ) → in_alphabet x ≡ true → is_scalar x ≡ true
letter_scalar x e = let h = letter_low x e in scalar_low x (omega arith)

letter_width : (x : ℕ) → in_alphabet x ≡ true → length (encode x) ≤ letter_bytes
letter_width x e =
    let m = letter_low x e in
    by_row x _ (λ h. omega (arith, width_1 x h)) (λ l h. omega (arith, width_2 x l h)) (λ l h. omega (arith, width_3 x l h))
    (λ l. absurd (omega arith))

-- ---- words
pub all_head : (x : ℕ) (xs : List ℕ) → all_letters (x ∷ xs) ≡ true → (in_alphabet x ≡ true) × (all_letters xs ≡ true)
all_head x xs e = go (in_alphabet x) e
  where
    go : (t : Bool) → pick t (all_letters xs) false ≡ true → (t ≡ true) × (all_letters xs ≡ true)
    go true h = (refl, h)
    go false h = let z : ◌≡◌ {A = ℕ} 0 1 = cc in absurd (omega arith)

pub all_at : (xs : List ℕ) (i : ℕ) → all_letters xs ≡ true → i < length xs → in_alphabet (get_or xs i 0) ≡ true
all_at [] i a l = absurd (omega arith)
all_at (x ∷ xs) zero a l = (all_head x xs a).0
all_at (x ∷ xs) (suc i) a l = all_at xs i (all_head x xs a).1 (omega arith)

-- so many letters have at most so many times the bytes of one
pub few_bytes : (xs : List ℕ) → all_letters xs ≡ true → length (encode_all xs) ≤ letter_bytes * length xs
few_bytes [] a = omega arith
few_bytes (x ∷ xs) a =
    let h = all_head x xs a in
    let k = few_bytes xs h.1 in
    let w = letter_width x h.0 in
    omega (arith, length-append (encode x) (encode_all xs))
