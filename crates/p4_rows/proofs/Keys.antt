-- A key tells parts apart, so that the rows that have a part's key are the rows that have the part.
use Prim.Native.Nat.{ℕ, suc, ◌+◌, ◌*◌, ◌<◌}
use mathlib.Core.Path.{◌≡◌, refl, sym, ap, ap₂, ◌∙◌}
use mathlib.Core.Bool.{Bool, true, false}
use mathlib.Core.List.{List, [], ◌∷◌, map}
use native.Mathlib.Omega.{arith}
use lib.Dec.{T, eqb, ltb, ltb→lt}
use Rattle.std.specs.List.{list_any}
use borrow.Author.Tests.{ltb-false, eq-eqb, eqb-true, eqb-false}
use Rattle.p0_choice.specs.Choice.{pick, among, each}
use Rattle.p0_choice.specs.Text.{word, words, words_from}
use Rattle.p0_choice.proofs.Tables.{pick_first, pick_second}
use Rattle.p4_rows.specs.Rows.{Word, onset_rows, vowel_rows, coda_rows}
use Rattle.p4_rows.specs.Lookup.{same_word, in_list, rows_from, rows_of}
use Rattle.p4_rows.specs.Mirror.{is_high, key_of, key_rows, onset_keys, vowel_keys, coda_keys, rows_on_from, rows_on}
use Rattle.p4_rows.proofs.Words.{same_word_lem}

-- what a word with a key is
data Keyed (w : Word) : Type 0 where
  none : key_of w ≡ 0 → Keyed w
  one : (a : ℕ) → w ≡ a ∷ [] → key_of w ≡ a * 0x10 + 1 → Keyed w
  two : (a b : ℕ) → b < 0x10000 → w ≡ a ∷ b ∷ [] → key_of w ≡ (a * 0x10000 + b) * 0x10 + 2 → Keyed w
  three : (a b c : ℕ) → b < 0x10000 → c < 0x10000 → w ≡ a ∷ b ∷ c ∷ [] → key_of w ≡ ((a * 0x10000 + b) * 0x10000 + c) * 0x10 + 3 → Keyed w

keyed_two : (a b : ℕ) → Keyed (a ∷ b ∷ [])
unfolding key_of
keyed_two a b = go (is_high a) refl (is_high b) refl
  where
    go : (p : Bool) → is_high a ≡ p → (q : Bool) → is_high b ≡ q → Keyed (a ∷ b ∷ [])
    go true e q f = none (rw e)
    go false e true f = none (rw (e, f))
    go false e false f = two a b (omega (arith, ltb-false 0xffff b f)) refl (rw (e, f))

keyed_three : (a b c : ℕ) → Keyed (a ∷ b ∷ c ∷ [])
unfolding key_of
keyed_three a b c = go (is_high a) refl (is_high b) refl (is_high c) refl
  where
    go : (p : Bool) → is_high a ≡ p → (q : Bool) → is_high b ≡ q → (r : Bool) → is_high c ≡ r → Keyed (a ∷ b ∷ c ∷ [])
    go true e q f r g = none (rw e)
    go false e true f r g = none (rw (e, f))
    go false e false f true g = none (rw (e, f, g))
    go false e false f false g =
        three a b c (omega (arith, ltb-false 0xffff b f)) (omega (arith, ltb-false 0xffff c g)) refl (rw (e, f, g))

both_none : (b : Bool) → ◌≡◌ {A = ℕ} (pick b 0 0) 0
both_none true = refl
both_none false = refl

keyed : (w : Word) → Keyed w
unfolding key_of
keyed [] = none refl
keyed (a ∷ []) = go (is_high a) refl
  where
    go : (p : Bool) → is_high a ≡ p → Keyed (a ∷ [])
    go true e = none (rw e)
    go false e = one a refl (rw e)
keyed (a ∷ b ∷ []) = keyed_two a b
keyed (a ∷ b ∷ c ∷ []) = keyed_three a b c
keyed (a ∷ b ∷ c ∷ d ∷ w) = none (both_none (list_any is_high (a ∷ b ∷ c ∷ d ∷ w)))

-- the last letter and what stands before it
digits : (x b y d : ℕ) → b < 0x10000 → d < 0x10000 → x * 0x10000 + b ≡ y * 0x10000 + d → (x ≡ y) × (b ≡ d)
digits x b y d hb hd e = (omega arith, omega arith)

same_two : (a b x y : ℕ) → b < 0x10000 → y < 0x10000 → (a * 0x10000 + b) * 0x10 + 2 ≡ (x * 0x10000 + y) * 0x10 + 2
    → a ∷ b ∷ [] ≡ x ∷ y ∷ []
same_two a b x y hb hy e =
    let d : (a ≡ x) × (b ≡ y) = digits a b x y hb hy (omega arith) in
    rw (d.0, d.1)

same_three : (a b c x y z : ℕ) → b < 0x10000 → c < 0x10000 → y < 0x10000 → z < 0x10000
    → ((a * 0x10000 + b) * 0x10000 + c) * 0x10 + 3 ≡ ((x * 0x10000 + y) * 0x10000 + z) * 0x10 + 3 → a ∷ b ∷ c ∷ [] ≡ x ∷ y ∷ z ∷ []
same_three a b c x y z hb hc hy hz e =
    let d : (a * 0x10000 + b ≡ x * 0x10000 + y) × (c ≡ z) = digits (a * 0x10000 + b) c (x * 0x10000 + y) z hc hz (omega arith) in
    let f : (a ≡ x) × (b ≡ y) = digits a b x y hb hy d.0 in
    rw (f.0, f.1, d.1)

-- two words with one key, not 0, are one
tells : (u w : Word) → Keyed u → Keyed w → key_of u ≡ key_of w → 0 < key_of w → u ≡ w
tells u w k (none f) e h = absurd (omega arith)
tells u w (none d) (one x q f) e h = absurd (omega arith)
tells u w (one a p d) (one x q f) e h = p ∙ ap (λ (y : ℕ). y ∷ []) (omega arith) ∙ sym q
tells u w (two a b hb p d) (one x q f) e h = absurd (omega arith)
tells u w (three a b c hb hc p d) (one x q f) e h = absurd (omega arith)
tells u w (none d) (two x y hy q f) e h = absurd (omega arith)
tells u w (one a p d) (two x y hy q f) e h = absurd (omega arith)
tells u w (two a b hb p d) (two x y hy q f) e h = p ∙ same_two a b x y hb hy (sym d ∙ e ∙ f) ∙ sym q
tells u w (three a b c hb hc p d) (two x y hy q f) e h = absurd (omega arith)
tells u w (none d) (three x y z hy hz q f) e h = absurd (omega arith)
tells u w (one a p d) (three x y z hy hz q f) e h = absurd (omega arith)
tells u w (two a b hb p d) (three x y z hy hz q f) e h = absurd (omega arith)
tells u w (three a b c hb hc p d) (three x y z hy hz q f) e h = p ∙ same_three a b c x y z hb hc hy hz (sym d ∙ e ∙ f) ∙ sym q

pub key_tells : (u w : Word) → key_of u ≡ key_of w → 0 < key_of w → u ≡ w
key_tells u w e h = tells u w (keyed u) (keyed w) e h

same_self : (w : Word) → same_word w w ≡ true
unfolding same_word
same_self [] = refl
same_self (x ∷ w) = rw (eq-eqb x x refl) (same_self w)

same_key : (u w : Word) → T (ltb 0 (key_of w)) → same_word u w ≡ eqb (key_of u) (key_of w)
same_key u w t = go (same_word u w) refl (eqb (key_of u) (key_of w)) refl
  where
    go : (a : Bool) → same_word u w ≡ a → (b : Bool) → eqb (key_of u) (key_of w) ≡ b → a ≡ b
    go true p true q = refl
    go true p false q = absurd (eqb-false (key_of u) (key_of w) q (ap key_of (same_word_lem u w (rw p tt))))
    go false p true q =
        let e : u ≡ w = key_tells u w (eqb-true (key_of u) (key_of w) q) (ltb→lt 0 (key_of w) t) in
        sym p ∙ ap (λ (v : Word). same_word v w) e ∙ same_self w
    go false p false q = refl

has_key : Word → Bool
has_key w = ltb 0 (key_of w)

both_same : (a b c d : Bool) → a ≡ b → c ≡ d → pick a true c ≡ pick b true d
both_same a b c d e f = ap₂ (λ (x y : Bool). pick x true y) e f

in_keys : (w : Word) (us : List Word) → T (each has_key us) → in_list w us ≡ among (key_of w) (map key_of us)
unfolding in_list has_key
in_keys w [] t = refl
in_keys w (u ∷ us) t =
    both_same (same_word w u) (eqb (key_of w) (key_of u)) (in_list w us) (among (key_of w) (map key_of us))
    (same_key w u (rw (pick_first (has_key u) (each has_key us) t) tt)) (in_keys w us (pick_second (has_key u) (each has_key us) t))

rows_keyed : (i : ℕ) (rows : List (List Word)) (w : Word) → T (each (each has_key) rows)
    → rows_from i rows w ≡ rows_on_from i (key_rows rows) (key_of w)
unfolding rows_from rows_on_from key_rows
rows_keyed i [] w t = refl
rows_keyed i (r ∷ rs) w t =
    alike (in_list w r) (among (key_of w) (map key_of r)) (rows_from (suc i) rs w) (rows_on_from (suc i) (key_rows rs) (key_of w))
    (in_keys w r (rw (pick_first (each has_key r) (each (each has_key) rs) t) tt))
    (rows_keyed (suc i) rs w (pick_second (each has_key r) (each (each has_key) rs) t))
  where
    alike : (a b : Bool) (l m : List ℕ) → a ≡ b → l ≡ m → pick a (i ∷ l) l ≡ pick b (i ∷ m) m
    alike a b l m e f = ap₂ (λ (x : Bool) (y : List ℕ). pick x (i ∷ y) y) e f

-- the rows of a part are those of its key
module _ (w : Word) where
  onset_keyed : rows_of onset_rows w ≡ rows_on onset_keys (key_of w)
  unfolding rows_of rows_on onset_keys onset_rows word words words_from has_key key_of
  onset_keyed = rows_keyed 0 onset_rows w tt

  vowels_keyed : rows_of vowel_rows w ≡ rows_on vowel_keys (key_of w)
  unfolding rows_of rows_on vowel_keys vowel_rows word words words_from has_key key_of
  vowels_keyed = rows_keyed 0 vowel_rows w tt

  coda_keyed : rows_of coda_rows w ≡ rows_on coda_keys (key_of w)
  unfolding rows_of rows_on coda_keys coda_rows word words words_from has_key key_of
  coda_keyed = rows_keyed 0 coda_rows w tt

  -- what a lookup answers, from what its key and its table answer
  module _ (k : ℕ) (r : List ℕ) (e : k ≡ key_of w) where
    pub looks_up_onset : r ≡ rows_on onset_keys k → r ≡ rows_of onset_rows w
    looks_up_onset h = h ∙ ap (rows_on onset_keys) e ∙ sym onset_keyed

    pub looks_up_vowels : r ≡ rows_on vowel_keys k → r ≡ rows_of vowel_rows w
    looks_up_vowels h = h ∙ ap (rows_on vowel_keys) e ∙ sym vowels_keyed

    pub looks_up_coda : r ≡ rows_on coda_keys k → r ≡ rows_of coda_rows w
    looks_up_coda h = h ∙ ap (rows_on coda_keys) e ∙ sym coda_keyed
