-- Each way through `char_at` and the functions below it.
use Prim.Native.Nat.{ℕ, suc, ◌+◌, ◌<◌, ◌≤◌}
use mathlib.Core.Path.{◌≡◌, refl, sym, ◌∙◌}
use mathlib.Core.List.{List, [], ◌∷◌}
use native.Mathlib.Omega.{arith}
use lib.ListN.{length, get_or, drop, drop_of_length-le}
use lib.Seq.{drop-cons, get_or-drop}
use Rattle.p0_choice.specs.Choice.{pick}
use Rattle.p5_utf8.specs.Rfc3629.{tail, utf8_1, utf8_2, utf8_3, utf8_4, along, begins, bits2, bits3, bits4, char_of, char_at}
use Rattle.p5_utf8.specs.declared.Char.{Char}
use Rattle.std.specs.Prelude.{None, Option}
use Rattle.p5_utf8.specs.Rfc3629.{character}
use Rattle.p5_utf8.proofs.Grammar.{lead_1, lead_none, lead_2, lead_3, lead_4, lead_past}

-- ---- bytes past the end may be read as 0
module _ (a : ℕ) where
  pad_2 : (s : List ℕ) → pick (begins utf8_2 (a ∷ s)) (character (bits2 (a ∷ s)) 2) None
      ≡ pick (begins utf8_2 (a ∷ get_or s 0 0 ∷ [])) (character (bits2 (a ∷ get_or s 0 0 ∷ [])) 2) None
  unfolding utf8_2 begins along bits2 tail
  pad_2 [] = refl
  pad_2 (b ∷ s) = refl

  pad_3 : (s : List ℕ) → pick (begins utf8_3 (a ∷ s)) (character (bits3 (a ∷ s)) 3) None
      ≡ pick (begins utf8_3 (a ∷ get_or s 0 0 ∷ get_or s 1 0 ∷ [])) (character (bits3 (a ∷ get_or s 0 0 ∷ get_or s 1 0 ∷ [])) 3) None
  unfolding utf8_3 begins along bits3 tail
  pad_3 [] = refl
  pad_3 (b ∷ []) = refl
  pad_3 (b ∷ (c ∷ s)) = refl

  pad_4 : (s : List ℕ) → pick (begins utf8_4 (a ∷ s)) (character (bits4 (a ∷ s)) 4) None
      ≡ pick (begins utf8_4 (a ∷ get_or s 0 0 ∷ get_or s 1 0 ∷ get_or s 2 0 ∷ []))
      (character (bits4 (a ∷ get_or s 0 0 ∷ get_or s 1 0 ∷ get_or s 2 0 ∷ [])) 4) None
  unfolding utf8_4 begins along bits4 tail
  pad_4 [] = refl
  pad_4 (b ∷ []) = refl
  pad_4 (b ∷ (c ∷ [])) = refl
  pad_4 (b ∷ (c ∷ (d ∷ s))) = refl

-- ---- the character at a place
pub at_end : (s : List ℕ) (i : ℕ) → length s ≤ i → None ≡ char_at s i
unfolding char_at char_of utf8_1 utf8_2 utf8_3 utf8_4 begins along
at_end s i h = rw (drop_of_length-le s h) refl

module _ (s : List ℕ) (i a : ℕ) (l : i < length s) (e : a ≡ get_or s i 0) where
  here : char_at s i ≡ char_of (a ∷ drop (suc i) s)
  unfolding char_at
  here = rw (e, ← drop-cons s i 0 l) refl

  next : (k b : ℕ) → b ≡ get_or s (i + suc k) 0 → get_or (drop (suc i) s) k 0 ≡ b
  next k b f = let m : suc i + k ≡ i + suc k = omega arith in get_or-drop (suc i) s k 0 ∙ rw m (sym f)

  pub at_ascii : a < 0x80 → character a 1 ≡ char_at s i
  at_ascii h = rw (here, lead_1 a (drop (suc i) s) h) refl

  pub at_none : 0x80 ≤ a → a < 0xc2 → None ≡ char_at s i
  at_none m h = rw (here, lead_none a (drop (suc i) s) m h) refl

  pub at_past : 0xf5 ≤ a → None ≡ char_at s i
  at_past m = rw (here, lead_past a (drop (suc i) s) m) refl

  module _ (b : ℕ) (f : b ≡ get_or s (i + 1) 0) (r : Option Char) where
    pub at_two : 0xc2 ≤ a → a < 0xe0 → r ≡ char_of (a ∷ b ∷ []) → r ≡ char_at s i
    at_two m h q = q ∙ lead_2 a (b ∷ []) m h ∙ sym (rw (here, lead_2 a (drop (suc i) s) m h, pad_2 a (drop (suc i) s), next 0 b f) refl)

    module _ (c : ℕ) (g : c ≡ get_or s (i + 2) 0) where
      pub at_three : 0xe0 ≤ a → a < 0xf0 → r ≡ char_of (a ∷ b ∷ c ∷ []) → r ≡ char_at s i
      at_three m h q =
          q ∙ lead_3 a (b ∷ c ∷ []) m h ∙ sym
          (rw (here, lead_3 a (drop (suc i) s) m h, pad_3 a (drop (suc i) s), next 0 b f, next 1 c g) refl)

      pub at_four : (d : ℕ) → d ≡ get_or s (i + 3) 0 → 0xf0 ≤ a → r ≡ char_of (a ∷ b ∷ c ∷ d ∷ []) → r ≡ char_at s i
      at_four d k m q =
          q ∙ lead_4 a (b ∷ c ∷ d ∷ []) m
          ∙ sym (rw (here, lead_4 a (drop (suc i) s) m, pad_4 a (drop (suc i) s), next 0 b f, next 1 c g, next 2 d k) refl)

-- each way through `char_at`
pub ruleset places = (at_end, at_ascii, at_none, at_two, at_three, at_four, at_past)
