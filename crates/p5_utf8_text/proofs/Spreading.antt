-- Each way through `spread`, where the bytes are the letters xs: k of them are written, and the bytes from i on are the
-- encoding of the others.
use Prim.Native.Nat.{ℕ, zero, suc, ◌+◌, ◌*◌, ◌^◌, ◌<◌, ◌≤◌}
use mathlib.Core.Path.{◌≡◌, refl, sym, ap, ◌∙◌}
use mathlib.Core.Bool.{Bool, true, false}
use mathlib.Core.List.{List, [], ◌∷◌, ◌++◌}
use native.Mathlib.Omega.{arith}
use native.Mathlib.Numerals.{add-one}
use mir.Syntax.{w64}
use mir.Val.{Fits}
use lib.Dec.{ltb}
use lib.ListN.{length, get_or, take, drop, set, length-drop, length-append, drop_of_length-le}
use lib.Seq.{take_all, drop-drop, get_or-drop, drop-append_seam}
use borrow.Author.Tests.{ltb-true, ltb-false}
use Rattle.p0_choice.specs.Choice.{pick}
use Rattle.p0_refusals.specs.Limits.{byte_limit}
use Rattle.p0_refusals.specs.declared.Refusal.TheVariants.{Long}
use Rattle.p1_letters.specs.Alphabet.{all_letters}
use Rattle.p5_utf8.specs.Rfc3629.{encode, encode_all, bits2, bits3}
use Rattle.p0_refusals.specs.Answers.{writes, refuses, onto}
use Rattle.p5_utf8.proofs.Encode.{many_bytes}
use Rattle.p5_utf8_text.proofs.Alphabet.{letter_low, all_at}
use Rattle.p5_utf8_text.proofs.Measuring.{rest}
use Rattle.p5_utf8_text.specs.Read.{letters, reading}
use Rattle.p5_utf8_text.proofs.Exact.{letters_exactly}
use Rattle.p5_utf8_text.proofs.FirstByte.{first_1, first_2, first_3}

-- the first n of xs over the start of o
abbrev pub over : List ℕ → ℕ → List ℕ → List ℕ
over xs n o = take n xs ++ drop n o

over_suc : (xs o : List ℕ) (i z : ℕ) → i < length xs → i < length o → set (over xs i o) i (get_or xs i z) ≡ over xs (suc i) o
over_suc [] o i z h l = absurd (omega arith)
over_suc (x ∷ xs) [] i z h l = absurd (omega arith)
over_suc (x ∷ xs) (y ∷ o) zero z h l = refl
over_suc (x ∷ xs) (y ∷ o) (suc i) z h l = ap (λ (t : List ℕ). x ∷ t) (over_suc xs o i z (omega arith) (omega arith))

module _ (s xs : List ℕ) (r : reading s ≡ writes xs) where
  are_letters : (encode_all xs ≡ s) × (all_letters xs ≡ true)
  unfolding reading
  are_letters = (letters_exactly s xs).0 (go (ltb byte_limit (length s)) r)
    where
      go : (t : Bool) → pick t (refuses Long) (letters s) ≡ writes xs → letters s ≡ writes xs
      go true h = let z : ◌≡◌ {A = ℕ} 0 1 = cc in absurd (omega arith)
      go false h = h

  pub spread_start : drop 0 s ≡ encode_all (drop 0 xs)
  spread_start = sym are_letters.0

  module _ (k i : ℕ) (e : drop i s ≡ encode_all (drop k xs)) where
    pub spread_done : (o out : List ℕ) → k ≤ length xs → out ≡ over xs k o → length s ≤ i → out ≡ onto xs o
    spread_done o out h f l =
        let n : length xs ≡ k = omega (arith, ap length e, length-drop i s, length-drop k xs, many_bytes (drop k xs)) in
        rw n (f ∙ rw (take_all k xs (omega arith)) refl)

    module _ (l : i < length s) where
      pub letter_next : k + 1 ≤ length xs
      letter_next = go (ltb k (length xs)) refl
        where
          go : (t : Bool) → ltb k (length xs) ≡ t → k + 1 ≤ length xs
          go true q = omega (arith, ltb-true k (length xs) q)
          go false q =
              let n : drop k xs ≡ [] = drop_of_length-le xs (ltb-false k (length xs) q) in
              absurd (omega (arith, length-drop i s, ap length (rw n at e)))

      -- the letter whose bytes stand at i
      abbrev letter : ℕ
      letter = get_or xs k 0

      stands : drop i s ≡ encode letter ++ encode_all (drop (k + 1) xs)
      stands = let h : k < length xs = omega (arith, letter_next) in e ∙ ap encode_all (rest xs k letter h refl)

      low : letter ≤ 0x1ef9
      low = letter_low (get_or xs k 0) (all_at xs k are_letters.1 (omega (arith, letter_next)))

      byte : (j : ℕ) → get_or s (i + j) 0 ≡ get_or (encode letter ++ encode_all (drop (k + 1) xs)) j 0
      byte j = sym (get_or-drop i s j 0) ∙ ap (λ (u : List ℕ). get_or u j 0) stands

      pub letter_room : (o out : List ℕ) → length out ≡ length o → length xs ≤ length o → k < length out
      letter_room o out f h = omega (arith, letter_next)

      pub letter_out_lem : (o out : List ℕ) (x : ℕ) → x ≡ get_or xs k 0 → out ≡ over xs k o → length xs ≤ length o
          → set out k x ≡ over xs (k + 1) o
      letter_out_lem o out x q f h = let m = letter_next in rw (q, f, add-one k) (over_suc xs o k 0 (omega arith) (omega arith))

      module _ (w : ℕ) (n : w ≡ length (encode (get_or xs k 0))) where
        pub letter_on : drop (i + w) s ≡ encode_all (drop (k + 1) xs)
        letter_on = sym (drop-drop w i s) ∙ rw (stands, n) (drop-append_seam (encode letter) (encode_all (drop (k + 1) xs)))

        within : i + w ≤ length s
        within = omega (arith, ap length stands, length-drop i s, length-append (encode letter) (encode_all (drop (k + 1) xs)))

        pub letter_fits : length s * 1 < 2 ^ 63 → Fits w64 (i + w)
        letter_fits h = let b = within in record { fits = omega arith }

      -- ---- by the first byte
      module _ (a : ℕ) (p : a ≡ get_or s i 0) where
        first : a ≡ get_or (encode letter ++ encode_all (drop (k + 1) xs)) 0 0
        first = let z : i + 0 ≡ i = omega arith in p ∙ (rw z at (byte 0))

        pub one_width : a < 0x80 → 1 ≡ length (encode (get_or xs k 0))
        one_width h = (first_1 letter _ (omega (arith, low)) a first h).0

        pub one_letter : (x : ℕ) → x ≡ a → a < 0x80 → x ≡ get_or xs k 0
        one_letter x q h = q ∙ (first_1 letter _ (omega (arith, low)) a first h).1

        module _ (m : 0x80 ≤ a) (h : a < 0xe0) where
          pub two_width : 2 ≡ length (encode (get_or xs k 0))
          two_width = (first_2 letter _ (omega (arith, low)) a first m h).0

          pub two_letter : (b x : ℕ) → b ≡ get_or s (i + 1) 0 → x ≡ bits2 (a ∷ b ∷ []) → x ≡ get_or xs k 0
          two_letter b x q f = f ∙ (first_2 letter _ (omega (arith, low)) a first m h).1 b (q ∙ byte 1)

        module _ (m : 0xe0 ≤ a) where
          pub three_width : 3 ≡ length (encode (get_or xs k 0))
          three_width = (first_3 letter _ (omega (arith, low)) a first m).0

          pub three_letter : (b c x : ℕ) → b ≡ get_or s (i + 1) 0 → c ≡ get_or s (i + 2) 0 → x ≡ bits3 (a ∷ b ∷ c ∷ []) → x ≡ get_or xs k 0
          three_letter b c x q u f = f ∙ (first_3 letter _ (omega (arith, low)) a first m).1 b c (q ∙ byte 1) (u ∙ byte 2)

          pub third_byte : i + 2 < length s
          third_byte = omega (arith, within 3 three_width)

        pub second_byte : 0x80 ≤ a → i + 1 < length s
        second_byte h = go (ltb a 0xe0) refl
          where
            go : (t : Bool) → ltb a 0xe0 ≡ t → i + 1 < length s
            go true q = omega (arith, within 2 (two_width h (ltb-true a 0xe0 q)))
            go false q = omega (arith, third_byte (ltb-false a 0xe0 q))

-- each way through `spread`
pub ruleset ways = (
  spread_start,
  spread_done,
  letter_room,
  letter_next,
  letter_fits,
  letter_on,
  letter_out_lem,
  one_width,
  one_letter,
  two_width,
  two_letter,
  three_width,
  three_letter,
  second_byte,
  third_byte,
)
