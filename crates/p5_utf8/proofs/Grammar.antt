-- The grammar's rules over bytes: when a test of a byte passes, when a rule's alternatives do, and which rule a first
-- byte leaves.
use Prim.Native.Nat.{ℕ, ◌<◌, ◌≤◌}
use mathlib.Core.Path.{◌≡◌, refl}
use mathlib.Core.Bool.{Bool, true, false}
use mathlib.Core.List.{List, [], ◌∷◌}
use native.Mathlib.Omega.{arith}
use lib.Dec.{ltb, leb}
use borrow.Author.Tests.{lt-ltb, le-ltb, le-leb, lt-leb, ltb-false, leb-true}
use Rattle.p0_choice.specs.Choice.{pick}
use Rattle.p5_utf8.specs.Rfc3629.{◌to◌, tail, utf8_1, utf8_2, utf8_3, utf8_4, along, begins, bits1, bits2, bits3, bits4, char_of}
use Rattle.std.specs.Prelude.{None}
use Rattle.p5_utf8.specs.Rfc3629.{character}

-- ---- a byte and its range
pub inside : (low high b : ℕ) → low ≤ b → b ≤ high → (low to high) b ≡ true
inside low high b l h = rw (le-ltb b low l) (le-leb b high h)

pub below : (low high b : ℕ) → b < low → (low to high) b ≡ false
below low high b l = rw (lt-ltb b low l) refl

pub above : (low high b : ℕ) → low ≤ b → high < b → (low to high) b ≡ false
above low high b l h = rw (le-ltb b low l) (lt-leb b high h)

pub bounds : (low high b : ℕ) → (low to high) b ≡ true → (low ≤ b) × (b ≤ high)
bounds low high b e = go (ltb b low) refl e
  where
    go : (t : Bool) → ltb b low ≡ t → pick t false (leb b high) ≡ true → (low ≤ b) × (b ≤ high)
    go true p q = let z : ◌≡◌ {A = ℕ} 0 1 = cc in absurd (omega arith)
    go false p q = (ltb-false b low p, leb-true b high q)

pub tail_inside : (b : ℕ) → 0x80 ≤ b → b ≤ 0xbf → tail b ≡ true
unfolding tail
tail_inside b l h = inside 0x80 0xbf b l h

pub tail_bounds : (b : ℕ) → tail b ≡ true → (0x80 ≤ b) × (b ≤ 0xbf)
unfolding tail
tail_bounds b e = bounds 0x80 0xbf b e

-- ---- sequences and alternatives
both : (s t : Bool) → pick s t false ≡ true → (s ≡ true) × (t ≡ true)
both true t e = (refl, e)
both false t e = let z : ◌≡◌ {A = ℕ} 0 1 = cc in absurd (omega arith)

-- bytes that begin with a sequence have a byte that passes its first test, and go on with the rest
pub along_cons : (P : List ℕ → Type 0) (t : ℕ → Bool) (ts : List (ℕ → Bool)) (s : List ℕ) → along (t ∷ ts) s ≡ true
    → ((b : ℕ) (u : List ℕ) → t b ≡ true → along ts u ≡ true → P (b ∷ u)) → P s
unfolding along
along_cons P t ts [] e f = let z : ◌≡◌ {A = ℕ} 0 1 = cc in absurd (omega arith)
along_cons P t ts (b ∷ u) e f = let h = both (t b) (along ts u) e in f b u h.0 h.1

-- what follows from each alternative of a rule follows from the rule
abbrev pub FromEach : Type 0 → List (List (ℕ → Bool)) → List ℕ → Type 0
FromEach P [] s = Unit
FromEach P (q ∷ qs) s = (along q s ≡ true → P) × FromEach P qs s

pub from_rule : (P : Type 0) (qs : List (List (ℕ → Bool))) (s : List ℕ) → begins qs s ≡ true → FromEach P qs s → P
unfolding begins
from_rule P [] s e f = let z : ◌≡◌ {A = ℕ} 0 1 = cc in absurd (omega arith)
from_rule P (q ∷ qs) s e f = go (along q s) refl e (λ h. from_rule P qs s h f.1)
  where
    go : (t : Bool) → along q s ≡ t → pick t true (begins qs s) ≡ true → (begins qs s ≡ true → P) → P
    go true p h g = f.0 p
    go false p h g = g h

pub first : (q : List (ℕ → Bool)) (qs : List (List (ℕ → Bool))) (s : List ℕ) → along q s ≡ true → begins (q ∷ qs) s ≡ true
unfolding begins
first q qs s e = rw e refl

pub later : (q : List (ℕ → Bool)) (qs : List (List (ℕ → Bool))) (s : List ℕ) → begins qs s ≡ true → begins (q ∷ qs) s ≡ true
unfolding begins
later q qs s e = go (along q s)
  where
    go : (t : Bool) → pick t true (begins qs s) ≡ true
    go true = refl
    go false = e

pub along_three : (p q r : ℕ → Bool) (a b c : ℕ) (s : List ℕ) → p a ≡ true → q b ≡ true → r c ≡ true
    → along (p ∷ q ∷ r ∷ []) (a ∷ b ∷ c ∷ s) ≡ true
unfolding along
along_three p q r a b c s e f g = rw (e, f, g) refl

pub along_four : (o p q r : ℕ → Bool) (a b c d : ℕ) (s : List ℕ) → o a ≡ true → p b ≡ true → q c ≡ true → r d ≡ true
    → along (o ∷ p ∷ q ∷ r ∷ []) (a ∷ b ∷ c ∷ d ∷ s) ≡ true
unfolding along
along_four o p q r a b c d s e f g h = rw (e, f, g, h) refl

-- ---- the rule that a first byte leaves
module _ (a : ℕ) (s : List ℕ) where
  not_1 : 0x80 ≤ a → begins utf8_1 (a ∷ s) ≡ false
  unfolding utf8_1 begins along
  not_1 l = rw (above 0x00 0x7f a (omega arith) (omega arith)) refl

  not_2 : 0xe0 ≤ a → begins utf8_2 (a ∷ s) ≡ false
  unfolding utf8_2 begins along
  not_2 l = rw (above 0xc2 0xdf a (omega arith) (omega arith)) refl

  not_2_yet : a < 0xc2 → begins utf8_2 (a ∷ s) ≡ false
  unfolding utf8_2 begins along
  not_2_yet h = rw (below 0xc2 0xdf a h) refl

  not_3 : 0xf0 ≤ a → begins utf8_3 (a ∷ s) ≡ false
  unfolding utf8_3 begins along
  not_3 l =
      rw (
        above 0xe0 0xe0 a (omega arith) (omega arith),
        above 0xe1 0xec a (omega arith) (omega arith),
        above 0xed 0xed a (omega arith) (omega arith),
        above 0xee 0xef a (omega arith) (omega arith),
      ) refl

  not_3_yet : a < 0xe0 → begins utf8_3 (a ∷ s) ≡ false
  unfolding utf8_3 begins along
  not_3_yet h = rw (below 0xe0 0xe0 a h, below 0xe1 0xec a (omega arith), below 0xed 0xed a (omega arith), below 0xee 0xef a (omega arith))
      refl

  not_4 : 0xf5 ≤ a → begins utf8_4 (a ∷ s) ≡ false
  unfolding utf8_4 begins along
  not_4 l =
      rw (
        above 0xf0 0xf0 a (omega arith) (omega arith),
        above 0xf1 0xf3 a (omega arith) (omega arith),
        above 0xf4 0xf4 a (omega arith) (omega arith),
      ) refl

  not_4_yet : a < 0xf0 → begins utf8_4 (a ∷ s) ≡ false
  unfolding utf8_4 begins along
  not_4_yet h = rw (below 0xf0 0xf0 a h, below 0xf1 0xf3 a (omega arith), below 0xf4 0xf4 a (omega arith)) refl

  pub lead_1 : a < 0x80 → char_of (a ∷ s) ≡ character a 1
  unfolding char_of utf8_1 begins along bits1
  lead_1 h = rw (inside 0x00 0x7f a (omega arith) (omega arith)) refl

  pub lead_none : 0x80 ≤ a → a < 0xc2 → char_of (a ∷ s) ≡ None
  unfolding char_of
  lead_none l h = rw (not_1 l, not_2_yet h, not_3_yet (omega arith), not_4_yet (omega arith)) refl

  pub lead_2 : 0xc2 ≤ a → a < 0xe0 → char_of (a ∷ s) ≡ pick (begins utf8_2 (a ∷ s)) (character (bits2 (a ∷ s)) 2) None
  unfolding char_of
  lead_2 l h = rw (not_1 (omega arith), not_3_yet h, not_4_yet (omega arith)) refl

  pub lead_3 : 0xe0 ≤ a → a < 0xf0 → char_of (a ∷ s) ≡ pick (begins utf8_3 (a ∷ s)) (character (bits3 (a ∷ s)) 3) None
  unfolding char_of
  lead_3 l h = rw (not_1 (omega arith), not_2 l, not_4_yet h) refl

  pub lead_4 : 0xf0 ≤ a → char_of (a ∷ s) ≡ pick (begins utf8_4 (a ∷ s)) (character (bits4 (a ∷ s)) 4) None
  unfolding char_of
  lead_4 l = rw (not_1 (omega arith), not_2 (omega arith), not_3 l) refl

  pub lead_past : 0xf5 ≤ a → char_of (a ∷ s) ≡ None
  lead_past l = rw (lead_4 (omega arith), not_4 l) refl
