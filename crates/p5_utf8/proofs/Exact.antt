-- The grammar and the table say the same: a character stands at a place exactly if the bytes of a scalar value do.
use Prim.Native.Nat.{ℕ, ◌+◌, ◌*◌, ◌/◌, ◌%◌, ◌<◌, ◌≤◌}
use mathlib.Core.Path.{◌≡◌, refl, sym, ap, ◌∙◌}
use mathlib.Core.Bool.{Bool, true, false}
use mathlib.Core.List.{List, [], ◌∷◌, ◌++◌}
use mathlib.Core.Logic.{◌⊎◌, inl, inr, ⊎_elim, ◌↔◌}
use native.Mathlib.Omega.{arith}
use lib.Dec.{ltb}
use lib.ListN.{length, drop, length-append, length-drop}
use lib.Seq.{drop-drop}
use borrow.Author.Tests.{ltb-true, ltb-false}
use Rattle.p0_choice.proofs.Choices.{pick_both}
use Rattle.p5_utf8.specs.Rfc3629.{is_scalar, encode, bits1, bits2, bits3, bits4, ◌to◌, tail, utf8_1, utf8_2, utf8_3, utf8_4, along}
use Rattle.p5_utf8.specs.Rfc3629.{begins, char_of, char_at}
use Rattle.p5_utf8.specs.declared.Char.{Char}
use Rattle.std.specs.Prelude.{None, Some, Option}
use Rattle.p5_utf8.specs.Rfc3629.{character}
use Rattle.p5_utf8.proofs.Grammar.{inside, bounds, tail_inside, tail_bounds, along_cons, from_rule, first, later, along_three}
use Rattle.p5_utf8.proofs.Grammar.{along_four, lead_1, lead_2, lead_3, lead_4}
use Rattle.p5_utf8.proofs.Encode.{row_1, row_2, row_3, row_4, by_row, some_bytes, scalar_low, scalar_high, scalar_cases}

-- ---- what the grammar takes is an encoding
abbrev Stands : List ℕ → Option Char → Type 0
Stands s None = 0 ≤ 0
Stands s (Some c) = (is_scalar c.scalar ≡ true) × (c.width ≡ length (encode c.scalar)) × (s ≡ encode c.scalar ++ drop c.width s)

stands_1 : (a : ℕ) (s : List ℕ) → a ≤ 0x7f → Stands (a ∷ s) (character a 1)
stands_1 a s h = let k = row_1 a (omega arith) in (scalar_low a (omega arith), rw (← k) refl, rw (← k) refl)

stands_2 : (a b x : ℕ) (s : List ℕ) → 0xc2 ≤ a → a ≤ 0xdf → tail b ≡ true → x ≡ a % 32 * 64 + b % 64 → Stands (a ∷ b ∷ s) (character x 2)
stands_2 a b x s l h t q =
    let r = tail_bounds b t in
    let u : 0xc0 + x / 64 ≡ a = omega arith in
    let v : 0x80 + x % 64 ≡ b = omega arith in
    let k : a ∷ b ∷ [] ≡ encode x = rw (← u, ← v) (row_2 x (omega arith) (omega arith)) in
    (scalar_low x (omega arith), rw (← k) refl, rw (← k) refl)

stands_3 : (a b c x : ℕ) (s : List ℕ) → 0xe0 ≤ a → a ≤ 0xef → tail b ≡ true → tail c ≡ true → x ≡ a % 16 * 4096 + b % 64 * 64 + c % 64
    → 0x800 ≤ x → is_scalar x ≡ true → Stands (a ∷ b ∷ c ∷ s) (character x 3)
stands_3 a b c x s l h t y q m d =
    let r = tail_bounds b t in
    let p = tail_bounds c y in
    let u : 0xe0 + x / 4096 ≡ a = omega arith in
    let v : 0x80 + x / 64 % 64 ≡ b = omega arith in
    let w : 0x80 + x % 64 ≡ c = omega arith in
    let k : a ∷ b ∷ c ∷ [] ≡ encode x = rw (← u, ← v, ← w) (row_3 x m (omega arith)) in
    (d, rw (← k) refl, rw (← k) refl)

stands_4 : (a b c d x : ℕ) (s : List ℕ) → 0xf0 ≤ a → a ≤ 0xf4 → tail b ≡ true → tail c ≡ true → tail d ≡ true
    → x ≡ a % 8 * 262144 + b % 64 * 4096 + c % 64 * 64 + d % 64 → 0x10000 ≤ x → x < 0x110000 → Stands (a ∷ b ∷ c ∷ d ∷ s) (character x 4)
stands_4 a b c d x s l h t y z q m o =
    let r = tail_bounds b t in
    let p = tail_bounds c y in
    let p' = tail_bounds d z in
    let u : 0xf0 + x / 262144 ≡ a = omega arith in
    let v : 0x80 + x / 4096 % 64 ≡ b = omega arith in
    let w : 0x80 + x / 64 % 64 ≡ c = omega arith in
    let w' : 0x80 + x % 64 ≡ d = omega arith in
    let k : a ∷ b ∷ c ∷ d ∷ [] ≡ encode x = rw (← u, ← v, ← w, ← w') (row_4 x m) in
    (scalar_high x (omega arith) o, rw (← k) refl, rw (← k) refl)

-- a sequence of three or four tests, byte by byte
along_3 : (P : List ℕ → Type 0) (p q r : ℕ → Bool) (s : List ℕ)
    → ((a b c : ℕ) (u : List ℕ) → p a ≡ true → q b ≡ true → r c ≡ true → P (a ∷ b ∷ c ∷ u)) → along (p ∷ q ∷ r ∷ []) s ≡ true → P s
along_3 P p q r s f e =
    along_cons P p (q ∷ r ∷ []) s e (λ a s' x e'.
    along_cons (λ (u : List ℕ). P (a ∷ u)) q (r ∷ []) s' e' (λ b s'' y e''.
    along_cons (λ (u : List ℕ). P (a ∷ b ∷ u)) r [] s'' e'' (λ c u z _. f a b c u x y z)))

along_4 : (P : List ℕ → Type 0) (o p q r : ℕ → Bool) (s : List ℕ)
    → ((a b c d : ℕ) (u : List ℕ) → o a ≡ true → p b ≡ true → q c ≡ true → r d ≡ true → P (a ∷ b ∷ c ∷ d ∷ u))
    → along (o ∷ p ∷ q ∷ r ∷ []) s ≡ true → P s
along_4 P o p q r s f e =
    along_cons P o (p ∷ q ∷ r ∷ []) s e (λ a s' x e'. along_3 (λ (u : List ℕ). P (a ∷ u)) p q r s' (λ b c d u. f a b c d u x) e')

abbrev Three : List ℕ → Type 0
Three s = Stands s (character (bits3 s) 3)

abbrev Four : List ℕ → Type 0
Four s = Stands s (character (bits4 s) 4)

module _ (s : List ℕ) where
  rule_1 : begins utf8_1 s ≡ true → Stands s (character (bits1 s) 1)
  unfolding utf8_1 bits1
  rule_1 e = from_rule _ utf8_1 s e (
    λ h. along_cons (λ (u : List ℕ). Stands u (character (bits1 u) 1)) (0x00 to 0x7f) [] s h
        (λ a u x _. stands_1 a u (bounds 0x00 0x7f a x).1),
    tt,
  )

  rule_2 : begins utf8_2 s ≡ true → Stands s (character (bits2 s) 2)
  unfolding utf8_2 bits2
  rule_2 e = from_rule _ utf8_2 s e (
    λ h. along_cons (λ (u : List ℕ). Stands u (character (bits2 u) 2)) (0xc2 to 0xdf) (tail ∷ []) s h (λ a s' x e'.
        along_cons (λ (u : List ℕ). Stands (a ∷ u) (character (bits2 (a ∷ u)) 2)) tail [] s' e' (λ b u y _.
        let l = bounds 0xc2 0xdf a x in stands_2 a b _ u l.0 l.1 y refl)),
    tt,
  )

  rule_3 : begins utf8_3 s ≡ true → Three s
  unfolding utf8_3 bits3
  rule_3 e = from_rule _ utf8_3 s e (
    along_3 Three (0xe0 to 0xe0) (0xa0 to 0xbf) tail s (λ a b c u x y z.
        let l = bounds 0xe0 0xe0 a x in let m = bounds 0xa0 0xbf b y in let n = tail_bounds c z in
        stands_3 a b c _ u (omega arith) (omega arith) (tail_inside b (omega arith) (omega arith)) z refl (omega arith)
        (scalar_low _ (omega arith))),
    (
      along_3 Three (0xe1 to 0xec) tail tail s (λ a b c u x y z.
          let l = bounds 0xe1 0xec a x in let m = tail_bounds b y in let n = tail_bounds c z in
          stands_3 a b c _ u (omega arith) (omega arith) y z refl (omega arith) (scalar_low _ (omega arith))),
      (
        along_3 Three (0xed to 0xed) (0x80 to 0x9f) tail s (λ a b c u x y z.
            let l = bounds 0xed 0xed a x in let m = bounds 0x80 0x9f b y in let n = tail_bounds c z in
            stands_3 a b c _ u (omega arith) (omega arith) (tail_inside b (omega arith) (omega arith)) z refl (omega arith)
            (scalar_low _ (omega arith))),
        (
          along_3 Three (0xee to 0xef) tail tail s (λ a b c u x y z.
              let l = bounds 0xee 0xef a x in let m = tail_bounds b y in let n = tail_bounds c z in
              stands_3 a b c _ u (omega arith) (omega arith) y z refl (omega arith) (scalar_high _ (omega arith) (omega arith))),
          tt,
        ),
      ),
    ),
  )

  rule_4 : begins utf8_4 s ≡ true → Four s
  unfolding utf8_4 bits4
  rule_4 e = from_rule _ utf8_4 s e (
    along_4 Four (0xf0 to 0xf0) (0x90 to 0xbf) tail tail s (λ a b c d u x y z v.
        let l = bounds 0xf0 0xf0 a x in let m = bounds 0x90 0xbf b y in let n = tail_bounds c z in let o = tail_bounds d v in
        stands_4 a b c d _ u (omega arith) (omega arith) (tail_inside b (omega arith) (omega arith)) z v refl (omega arith) (omega arith)),
    (
      along_4 Four (0xf1 to 0xf3) tail tail tail s (λ a b c d u x y z v.
          let l = bounds 0xf1 0xf3 a x in let m = tail_bounds b y in let n = tail_bounds c z in let o = tail_bounds d v in
          stands_4 a b c d _ u (omega arith) (omega arith) y z v refl (omega arith) (omega arith)),
      (
        along_4 Four (0xf4 to 0xf4) (0x80 to 0x8f) tail tail s (λ a b c d u x y z v.
            let l = bounds 0xf4 0xf4 a x in let m = bounds 0x80 0x8f b y in let n = tail_bounds c z in let o = tail_bounds d v in
            stands_4 a b c d _ u (omega arith) (omega arith) (tail_inside b (omega arith) (omega arith)) z v refl (omega arith)
            (omega arith)),
        tt,
      ),
    ),
  )

  stands : Stands s (char_of s)
  unfolding char_of
  stands =
      pick_both (Stands s) (begins utf8_1 s) _ _ rule_1 (λ _.
      pick_both (Stands s) (begins utf8_2 s) _ _ rule_2 (λ _.
      pick_both (Stands s) (begins utf8_3 s) _ _ rule_3 (λ _.
      pick_both (Stands s) (begins utf8_4 s) _ _ rule_4 (λ _. omega arith))))

-- ---- an encoding is taken by the grammar
there_2 : (x : ℕ) (s : List ℕ) → 0x80 ≤ x → x < 0x800 → char_of ((0xc0 + x / 64) ∷ (0x80 + x % 64) ∷ s) ≡ character x 2
unfolding utf8_2 begins along bits2
there_2 x s l h =
    let v : (0xc0 + x / 64) % 32 * 64 + (0x80 + x % 64) % 64 ≡ x = omega arith in
    rw (
      lead_2 (0xc0 + x / 64) ((0x80 + x % 64) ∷ s) (omega arith) (omega arith),
      inside 0xc2 0xdf (0xc0 + x / 64) (omega arith) (omega arith),
      tail_inside (0x80 + x % 64) (omega arith) (omega arith),
      v,
    ) refl

taken_3 : (x : ℕ) (s : List ℕ) → 0x800 ≤ x → x < 0x10000 → is_scalar x ≡ true
    → begins utf8_3 ((0xe0 + x / 4096) ∷ (0x80 + x / 64 % 64) ∷ (0x80 + x % 64) ∷ s) ≡ true
unfolding utf8_3
taken_3 x s l h d = go (ltb x 0x1000) (ltb x 0xd000) refl refl (scalar_cases x d)
  where
    c_tail : tail (0x80 + x % 64) ≡ true
    c_tail = tail_inside (0x80 + x % 64) (omega arith) (omega arith)

    b_tail : tail (0x80 + x / 64 % 64) ≡ true
    b_tail = tail_inside (0x80 + x / 64 % 64) (omega arith) (omega arith)

    go : (t u : Bool) → ltb x 0x1000 ≡ t → ltb x 0xd000 ≡ u → (x < 0xd800) ⊎ ((0xe000 ≤ x) × (x < 0x110000))
        → begins utf8_3 ((0xe0 + x / 4096) ∷ (0x80 + x / 64 % 64) ∷ (0x80 + x % 64) ∷ s) ≡ true
    go true u e f c = let k = ltb-true x 0x1000 e in
        first _ _ _ (along_three (0xe0 to 0xe0) (0xa0 to 0xbf) tail _ _ _ s (inside 0xe0 0xe0 (0xe0 + x / 4096) (omega arith) (omega arith))
        (inside 0xa0 0xbf (0x80 + x / 64 % 64) (omega arith) (omega arith)) c_tail)
    go false true e f c = let k = ltb-false x 0x1000 e in let m = ltb-true x 0xd000 f in
        later _ _ _ (first _ _ _ (along_three (0xe1 to 0xec) tail tail _ _ _ s
        (inside 0xe1 0xec (0xe0 + x / 4096) (omega arith) (omega arith)) b_tail c_tail))
    go false false e f (inl k) = let m = ltb-false x 0xd000 f in
        later _ _ _ (later _ _ _ (first _ _ _
        (along_three (0xed to 0xed) (0x80 to 0x9f) tail _ _ _ s (inside 0xed 0xed (0xe0 + x / 4096) (omega arith) (omega arith))
        (inside 0x80 0x9f (0x80 + x / 64 % 64) (omega arith) (omega arith)) c_tail)))
    go false false e f (inr k) =
        later _ _ _ (later _ _ _ (later _ _ _
        (first _ _ _ (along_three (0xee to 0xef) tail tail _ _ _ s (inside 0xee 0xef (0xe0 + x / 4096) (omega arith) (omega arith)) b_tail c_tail))))

there_3 : (x : ℕ) (s : List ℕ) → 0x800 ≤ x → x < 0x10000 → is_scalar x ≡ true
    → char_of ((0xe0 + x / 4096) ∷ (0x80 + x / 64 % 64) ∷ (0x80 + x % 64) ∷ s) ≡ character x 3
unfolding bits3
there_3 x s l h d =
    let v : (0xe0 + x / 4096) % 16 * 4096 + (0x80 + x / 64 % 64) % 64 * 64 + (0x80 + x % 64) % 64 ≡ x = omega arith in
    rw (lead_3 (0xe0 + x / 4096) ((0x80 + x / 64 % 64) ∷ (0x80 + x % 64) ∷ s) (omega arith) (omega arith), taken_3 x s l h d, v) refl

low6 : (m : ℕ) → (0x80 + m % 64) % 64 ≡ m % 64
low6 m = omega arith

lead4 : (x : ℕ) → x < 0x110000 → (0xf0 + x / 262144) % 8 ≡ x / 262144
lead4 x h = omega arith

whole4 : (x : ℕ) → x / 262144 * 262144 + x / 4096 % 64 * 4096 + x / 64 % 64 * 64 + x % 64 ≡ x
whole4 x = omega arith

taken_4 : (x : ℕ) (s : List ℕ) → 0x10000 ≤ x → x < 0x110000
    → begins utf8_4 ((0xf0 + x / 262144) ∷ (0x80 + x / 4096 % 64) ∷ (0x80 + x / 64 % 64) ∷ (0x80 + x % 64) ∷ s) ≡ true
unfolding utf8_4
taken_4 x s l h = go (ltb x 0x40000) (ltb x 0x100000) refl refl
  where
    last : (m : ℕ) → tail (0x80 + m % 64) ≡ true
    last m = tail_inside (0x80 + m % 64) (omega arith) (omega arith)

    go : (t u : Bool) → ltb x 0x40000 ≡ t → ltb x 0x100000 ≡ u
        → begins utf8_4 ((0xf0 + x / 262144) ∷ (0x80 + x / 4096 % 64) ∷ (0x80 + x / 64 % 64) ∷ (0x80 + x % 64) ∷ s) ≡ true
    go true u e f = let k = ltb-true x 0x40000 e in
        first _ _ _ (along_four (0xf0 to 0xf0) (0x90 to 0xbf) tail tail _ _ _ _ s (inside 0xf0 0xf0 (0xf0 + x / 262144) (omega arith) (omega arith))
        (inside 0x90 0xbf (0x80 + x / 4096 % 64) (omega arith) (omega arith)) (last (x / 64)) (last x))
    go false true e f = let k = ltb-false x 0x40000 e in let m = ltb-true x 0x100000 f in
        later _ _ _ (first _ _ _ (along_four (0xf1 to 0xf3) tail tail tail _ _ _ _ s (inside 0xf1 0xf3 (0xf0 + x / 262144) (omega arith) (omega arith))
        (last (x / 4096)) (last (x / 64)) (last x)))
    go false false e f = let m = ltb-false x 0x100000 f in
        later _ _ _ (later _ _ _ (first _ _ _
        (along_four (0xf4 to 0xf4) (0x80 to 0x8f) tail tail _ _ _ _ s (inside 0xf4 0xf4 (0xf0 + x / 262144) (omega arith) (omega arith))
        (inside 0x80 0x8f (0x80 + x / 4096 % 64) (omega arith) (omega arith)) (last (x / 64)) (last x))))

there_4 : (x : ℕ) (s : List ℕ) → 0x10000 ≤ x → x < 0x110000
    → char_of ((0xf0 + x / 262144) ∷ (0x80 + x / 4096 % 64) ∷ (0x80 + x / 64 % 64) ∷ (0x80 + x % 64) ∷ s) ≡ character x 4
unfolding bits4
there_4 x s l h =
    let v : (0xf0 + x / 262144) % 8 * 262144 + (0x80 + x / 4096 % 64) % 64 * 4096 + (0x80 + x / 64 % 64) % 64 * 64 +
    (0x80 + x % 64) % 64 ≡ x
    = rw (lead4 x h, low6 (x / 4096), low6 (x / 64), low6 x) (whole4 x) in
    rw (lead_4 (0xf0 + x / 262144) ((0x80 + x / 4096 % 64) ∷ (0x80 + x / 64 % 64) ∷ (0x80 + x % 64) ∷ s) (omega arith), taken_4 x s l h, v)
    refl

-- ---- the two together, at the start of bytes
-- bytes that begin with a character begin with the encoding of a scalar value, and the character is that value
pub found : (s : List ℕ) (x w : ℕ) → char_of s ≡ character x w → (is_scalar x ≡ true) × (w ≡ length (encode x)) × (s ≡ encode x ++ drop w s)
found s x w e = rw e at (stands s)

-- bytes that begin with the encoding of a scalar value begin with that character
pub there : (x : ℕ) (s : List ℕ) → is_scalar x ≡ true → char_of (encode x ++ s) ≡ character x (length (encode x))
there x s d =
    by_row x _
    (λ h. rw (← row_1 x h) (lead_1 x s h))
    (λ l h. rw (← row_2 x l h) (there_2 x s l h))
    (λ l h. rw (← row_3 x l h) (there_3 x s l h d))
    (λ l. rw (← row_4 x l) (there_4 x s l (⊎_elim (λ h. omega arith) (λ h. h.1) (scalar_cases x d))))

-- `encode` is of the scalar values: the bytes that it gives are a character of exactly these
pub domain : (x : ℕ) (s : List ℕ) → is_scalar x ≡ true ↔ char_of (encode x ++ s) ≡ character x (length (encode x))
domain x s = (λ d. there x s d, λ e. (found (encode x ++ s) x (length (encode x)) e).0)

-- ---- at a place of bytes
module _ (s : List ℕ) (i : ℕ) where
  -- the character at a place is a scalar value whose encoding stands there
  pub found_at : (x w : ℕ) → char_at s i ≡ character x w
      → (is_scalar x ≡ true) × (w ≡ length (encode x)) × (drop i s ≡ encode x ++ drop (i + w) s)
  unfolding char_at
  found_at x w e = let h = found (drop i s) x w e in (h.0, h.1, rw (← drop-drop w i s) h.2)

  -- it has a byte at least, and none past the end
  pub fits_at_lem : (x w : ℕ) → char_at s i ≡ character x w → (1 ≤ w) × (w ≤ 4) × (i + w ≤ length s)
  fits_at_lem x w e =
      let h = found_at x w e in
      let b = some_bytes x in
      let n = ap length h.2 in
      let m = length-append (encode x) (drop (i + w) s) in
      let k = length-drop i s in
      (omega arith, omega arith, omega arith)

  -- where the encoding of a scalar value stands, the character is that value
  pub there_at : (x : ℕ) (r : List ℕ) → is_scalar x ≡ true → drop i s ≡ encode x ++ r → char_at s i ≡ character x (length (encode x))
  unfolding char_at
  there_at x r d e = rw e (there x r d)

  -- a place is malformed exactly if no encoding of a scalar value stands there
  pub malformed : char_at s i ≡ None ↔ ((x : ℕ) (r : List ℕ) → is_scalar x ≡ true → drop i s ≡ encode x ++ r → ⊥)
  malformed = (λ e x r d q. let h = there_at x r d q in let z : ◌≡◌ {A = ℕ} 0 1 = cc in omega arith, λ f. go f (char_at s i) refl)
    where
      go : ((x : ℕ) (r : List ℕ) → is_scalar x ≡ true → drop i s ≡ encode x ++ r → ⊥) → (c : Option Char) → char_at s i ≡ c → c ≡ None
      go f None e = refl
      go f (Some c) e = let h = found_at c.scalar c.width e in absurd (f c.scalar (drop (i + c.width) s) h.0 h.2)

  -- a character stands at a place exactly if it is a scalar value, of its width, whose encoding stands there
  pub exact : (x w : ℕ) → char_at s i ≡ character x w ↔
      ((is_scalar x ≡ true) × (w ≡ length (encode x)) × (drop i s ≡ encode x ++ drop (i + w) s))
  exact x w = (found_at x w, λ h. there_at x (drop (i + w) s) h.0 h.2 ∙ ap (character x) (sym h.1))
