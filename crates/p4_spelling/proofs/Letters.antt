-- A letter in lower case without its tone: a rule that holds of the letters that neither changes, and of the others by a
-- test that antt computes, holds of every letter. So an accepted word has letters of the alphabet alone.
use Prim.Native.Nat.{ℕ, zero, suc, ◌+◌, ◌-◌, ◌%◌}
use mathlib.Core.Path.{◌≡◌, refl, sym, ap, ap₂, ◌∙◌, subst}
use mathlib.Core.Logic.{◌⊎◌, inl, inr, ⊎_elim}
use mathlib.Core.Bool.{Bool, true, false}
use mathlib.Core.List.{List, [], ◌∷◌, ◌++◌, map}
use native.Mathlib.Omega.{arith}
use lib.Dec.{T, ltb, leb, eqb, eqb→eq}
use lib.ListN.{get_or}
use borrow.Author.Tests.{ltb-false, leb-true}
use Rattle.p0_choice.specs.Choice.{pick, among, each, from, same}
use Rattle.p0_choice.specs.Text.{word, words, words_from}
use Rattle.p0_choice.proofs.Tables.{each_among, same_true, among_left, among_right, among_map, among_count}
use Rattle.p1_letters.specs.Alphabet.{lower, is_ascii_capital, small_by32, small_by1, small_high, small_next, is_small, is_capital, in_alphabet}
use Rattle.p1_letters.specs.Alphabet.{all_letters}
use Rattle.p1_letters.specs.Tones.{tone_off, off_in, tone_rows}
use Rattle.p4_rows.specs.Rows.{Word, onset_rows, vowel_rows, coda_rows}
use Rattle.p4_rows.specs.Lookup.{in_list}
use Rattle.p4_rows.proofs.Words.{each_in}
use Rattle.p4_rows.proofs.InRows.{parts, row_words as joined_rows}
use Rattle.p4_spelling.specs.Cut.{onset_of, vowels_of, coda_of}
use Rattle.p4_spelling.specs.Verdict.{has_foreign, fits, lowered, toneless, verdict}
use Rattle.p4_spelling.proofs.Parts.{Parts, parts_join, fits_parts}

-- a letter's lower-case toneless form
unfoldable pub plain_letter : ℕ → ℕ
plain_letter x = tone_off (lower x)

unfoldable pub joined : List (List ℕ) → List ℕ
joined [] = []
joined (r ∷ rs) = r ++ joined rs

-- the letters that lower case changes, and those in whose rows tones go on and off
unfoldable pub touched : List (List ℕ)
touched = from 26 65 ∷ map (λ (y : ℕ). y - 32) small_by32 ∷ map (λ (y : ℕ). y - 1) small_by1 ∷ from 89 0x1ea0 ∷ tone_rows

among_joined : (x : ℕ) (rs : List (List ℕ)) (k : ℕ) → among x (get_or rs k []) ≡ true → among x (joined rs) ≡ true
unfolding joined
among_joined x [] zero e = let z : ◌≡◌ {A = ℕ} 0 1 = cc in absurd (omega arith)
among_joined x [] (suc k) e = let z : ◌≡◌ {A = ℕ} 0 1 = cc in absurd (omega arith)
among_joined x (r ∷ rs) zero e = among_left x r (joined rs) e
among_joined x (r ∷ rs) (suc k) e = among_right x r (joined rs) (among_joined x rs k e)

among_later : (x : ℕ) (r : List ℕ) (rs : List (List ℕ)) → among x (joined rs) ≡ true → among x (joined (r ∷ rs)) ≡ true
unfolding joined
among_later x r rs e = among_right x r (joined rs) e

-- the letters that the tests of `lower` find are touched
module _ (x : ℕ) where
  capital_touched : is_ascii_capital x ≡ true → among x (from 26 65) ≡ true
  unfolding is_ascii_capital
  capital_touched e = go (ltb x 65) refl (leb x 90) refl e
    where
      go : (b : Bool) → ltb x 65 ≡ b → (c : Bool) → leb x 90 ≡ c → pick b false c ≡ true → among x (from 26 65) ≡ true
      go true p c q h = let z : ◌≡◌ {A = ℕ} 0 1 = cc in absurd (omega arith)
      go false p true q h = among_count 26 65 x (ltb-false x 65 p) (omega (arith, leb-true x 90 q))
      go false p false q h = let z : ◌≡◌ {A = ℕ} 0 1 = cc in absurd (omega arith)

  high_touched : small_high (x + 1) ≡ true → among x (from 89 0x1ea0) ≡ true
  unfolding small_high
  high_touched e = go (ltb (x + 1) 0x1ea1) refl (ltb 0x1ef9 (x + 1)) refl e
    where
      go : (b : Bool) → ltb (x + 1) 0x1ea1 ≡ b → (c : Bool) → ltb 0x1ef9 (x + 1) ≡ c
          → pick b false (pick c false (eqb ((x + 1) % 2) 1)) ≡ true → among x (from 89 0x1ea0) ≡ true
      go true p c q h = let z : ◌≡◌ {A = ℕ} 0 1 = cc in absurd (omega arith)
      go false p true q h = let z : ◌≡◌ {A = ℕ} 0 1 = cc in absurd (omega arith)
      go false p false q h = among_count 89 0x1ea0 x (omega (arith, ltb-false (x + 1) 0x1ea1 p)) (omega (arith, ltb-false 0x1ef9 (x + 1) q))

  less : (k : ℕ) (ys : List ℕ) → among (x + k) ys ≡ true → among x (map (λ (y : ℕ). y - k) ys) ≡ true
  less k ys e = let d : x + k - k ≡ x = omega arith in rw d at (among_map (λ (y : ℕ). y - k) (x + k) ys e)

  lower_or : (lower x ≡ x) ⊎ (among x (joined touched) ≡ true)
  unfolding lower small_next touched
  lower_or =
      go (is_ascii_capital x) refl (among (x + 32) small_by32) refl (among (x + 1) small_by1) refl (small_high (x + 1)) refl
    where
      go : (a : Bool) → is_ascii_capital x ≡ a → (b : Bool) → among (x + 32) small_by32 ≡ b → (c : Bool) → among (x + 1) small_by1 ≡ c
          → (d : Bool)
          → small_high (x + 1) ≡ d → (pick a (x + 32) (pick b (x + 32) (pick (pick c true d) (x + 1) x)) ≡ x)
          ⊎ (among x (joined touched) ≡ true)
      go true p b q c r d s = inr (among_joined x touched 0 (capital_touched p))
      go false p true q c r d s = inr (among_joined x touched 1 (less 32 small_by32 q))
      go false p false q true r d s = inr (among_joined x touched 2 (less 1 small_by1 r))
      go false p false q false r true s = inr (among_joined x touched 3 (high_touched s))
      go false p false q false r false s = inl refl

  off_or : (rs : List (List ℕ)) → (off_in rs x ≡ x) ⊎ (among x (joined rs) ≡ true)
  unfolding off_in joined
  off_or [] = inl refl
  off_or (r ∷ rs) = go (among x r) refl (off_or rs)
    where
      go : (b : Bool) → among x r ≡ b → (off_in rs x ≡ x) ⊎ (among x (joined rs) ≡ true)
          → (pick b (get_or r 0 0) (off_in rs x) ≡ x) ⊎ (among x (r ++ joined rs) ≡ true)
      go true p h = inr (among_left x r (joined rs) p)
      go false p (inl h) = inl h
      go false p (inr h) = inr (among_right x r (joined rs) h)

  rows_touched : among x (joined tone_rows) ≡ true → among x (joined touched) ≡ true
  unfolding touched
  rows_touched e = among_later x _ _ (among_later x _ _ (among_later x _ _ (among_later x _ tone_rows e)))

-- a letter that neither changes
pub record Stays (x : ℕ) : Type 0 where
  pub low : lower x ≡ x
  pub off : tone_off x ≡ x

stays_or : (x : ℕ) → Stays x ⊎ (among x (joined touched) ≡ true)
unfolding tone_off
stays_or x = go (lower_or x) (off_or x tone_rows)
  where
    go : (lower x ≡ x) ⊎ (among x (joined touched) ≡ true) → (off_in tone_rows x ≡ x) ⊎ (among x (joined tone_rows) ≡ true)
        → Stays x ⊎ (among x (joined touched) ≡ true)
    go (inr h) k = inr h
    go (inl h) (inl k) = inl (record { low = h; off = k })
    go (inl h) (inr k) = inr (rows_touched x k)

-- what holds of a letter that stays, and of the touched by a test, holds of every letter
pub each_code_point : (p : ℕ → Bool) → ((x : ℕ) → Stays x → p x ≡ true) → T (each p (joined touched)) → (x : ℕ) → p x ≡ true
each_code_point p f t x = ⊎_elim (λ s. f x s) (λ e. each_among p (joined touched) t x e) (stays_or x)

pub plain_stays : (x : ℕ) → Stays x → plain_letter x ≡ x
unfolding plain_letter
plain_stays x s = ap tone_off s.low ∙ s.off

alike : (b c : Bool) → b ≡ c → same b c ≡ true
alike true c e = sym e
alike false c e = rw (← e)

-- ---- f j w z: the loss of a tone makes none of another letter
foreign_letter : ℕ → Bool
foreign_letter x = same (among (plain_letter x) (word "fjwz")) (among (lower x) (word "fjwz"))

letter_foreign : (x : ℕ) → among (plain_letter x) (word "fjwz") ≡ among (lower x) (word "fjwz")
unfolding foreign_letter plain_letter touched joined word lower is_ascii_capital small_by32 small_by1 small_high small_next tone_off off_in tone_rows
letter_foreign x = same_true (among (plain_letter x) (word "fjwz")) (among (lower x) (word "fjwz"))
    (each_code_point foreign_letter kept tt x)
  where
    kept : (y : ℕ) → Stays y → foreign_letter y ≡ true
    kept y s = alike _ _ (ap (λ (z : ℕ). among z (word "fjwz")) (plain_stays y s ∙ sym s.low))

pub foreign_kept : (w : Word) → has_foreign (toneless (lowered w)) ≡ has_foreign (lowered w)
unfolding lowered toneless plain_letter has_foreign
foreign_kept [] = refl
foreign_kept (x ∷ w) = ap₂ (λ (a b : Bool). pick a true b) (letter_foreign x) (foreign_kept w)

-- of the parts of the rows only the onset z has one
join_foreign : (u w : Word) → has_foreign u ≡ false → has_foreign w ≡ false → has_foreign (u ++ w) ≡ false
unfolding has_foreign
join_foreign [] w e f = f
join_foreign (x ∷ u) w e f = go (among x (word "fjwz")) e (λ q. join_foreign u w q f)
  where
    go : (b : Bool) → pick b true (has_foreign u) ≡ false → (has_foreign u ≡ false → has_foreign (u ++ w) ≡ false)
        → pick b true (has_foreign (u ++ w)) ≡ false
    go true q g = q
    go false q g = g q

foreign_is_z : Word → Bool
foreign_is_z u = pick (has_foreign u) (eqb (get_or u 0 0) 0x7a) true

no_foreign : Word → Bool
no_foreign u = pick (has_foreign u) false true

no_foreign_lem : (b : Bool) → T (pick b false true) → b ≡ false
no_foreign_lem true t = absurd t
no_foreign_lem false t = refl

module _ (u : Word) where
  onset_foreign : T (in_list u (parts onset_rows)) → T (foreign_is_z u)
  unfolding foreign_is_z has_foreign parts joined_rows onset_rows word words words_from
  onset_foreign t = each_in foreign_is_z (parts onset_rows) tt u t

  vowels_foreign : T (in_list u (parts vowel_rows)) → has_foreign u ≡ false
  unfolding no_foreign has_foreign parts joined_rows vowel_rows word words words_from
  vowels_foreign t = no_foreign_lem (has_foreign u) (each_in no_foreign (parts vowel_rows) tt u t)

  coda_foreign : T (in_list u (parts coda_rows)) → has_foreign u ≡ false
  unfolding no_foreign has_foreign parts joined_rows coda_rows word words words_from
  coda_foreign t = no_foreign_lem (has_foreign u) (each_in no_foreign (parts coda_rows) tt u t)

-- a first letter is that of all that follows it
starts : (o w : Word) (z : ℕ) → T (pick (has_foreign o) (eqb (get_or o 0 0) z) true) → (get_or (o ++ w) 0 0 ≡ z → ⊥) → has_foreign o ≡ false
unfolding has_foreign
starts [] w z t n = refl
starts (x ∷ o) w z t n = go (has_foreign (x ∷ o)) t
  where
    go : (b : Bool) → T (pick b (eqb x z) true) → b ≡ false
    go true q = absurd (n (eqb→eq x z q))
    go false q = refl

pub fits_foreign : (u : Word) → T (fits u) → (get_or u 0 0 ≡ 0x7a → ⊥) → has_foreign u ≡ false
unfolding foreign_is_z
fits_foreign u t n =
    let p : Parts u = fits_parts u t in
    let j : onset_of u ++ (vowels_of u ++ coda_of u) ≡ u = parts_join u in
    let o : has_foreign (onset_of u) ≡ false =
    starts (onset_of u) (vowels_of u ++ coda_of u) 0x7a (onset_foreign (onset_of u) p.onset)
    (λ (e : get_or (onset_of u ++ (vowels_of u ++ coda_of u)) 0 0 ≡ 0x7a). n (ap (λ (v : Word). get_or v 0 0) (sym j) ∙ e)) in
    ap has_foreign (sym j)
    ∙ join_foreign (onset_of u) (vowels_of u ++ coda_of u) o
    (join_foreign (vowels_of u) (coda_of u) (vowels_foreign (vowels_of u) p.vowels) (coda_foreign (coda_of u) p.coda))

pub first_foreign_lem : (u : Word) → get_or u 0 0 ≡ 0x7a → has_foreign u ≡ true
unfolding has_foreign word
first_foreign_lem [] e = absurd (omega arith)
first_foreign_lem (x ∷ u) e = rw e

-- ---- the alphabet
stays_letter : ℕ → Bool
stays_letter x = same (in_alphabet (plain_letter x)) (in_alphabet x)

letter_in_lem : (x : ℕ) → in_alphabet (plain_letter x) ≡ in_alphabet x
unfolding stays_letter plain_letter touched joined word lower is_ascii_capital small_by32 small_by1 small_high small_next is_small is_capital
    in_alphabet tone_off off_in tone_rows
letter_in_lem x = same_true (in_alphabet (plain_letter x)) (in_alphabet x) (each_code_point stays_letter kept tt x)
  where
    kept : (y : ℕ) → Stays y → stays_letter y ≡ true
    kept y s = alike _ _ (ap in_alphabet (plain_stays y s))

form_letters : (w : Word) → all_letters (toneless (lowered w)) ≡ all_letters w
unfolding toneless lowered plain_letter
form_letters [] = refl
form_letters (x ∷ w) = ap₂ (λ (a b : Bool). pick a b false) (letter_in_lem x) (form_letters w)

join_letters : (u w : Word) → T (all_letters u) → T (all_letters w) → T (all_letters (u ++ w))
join_letters [] w t h = h
join_letters (x ∷ u) w t h = go (in_alphabet x) t (λ q. join_letters u w q h)
  where
    go : (b : Bool) → T (pick b (all_letters u) false) → (T (all_letters u) → T (all_letters (u ++ w)))
        → T (pick b (all_letters (u ++ w)) false)
    go true q f = f q
    go false q f = q

module _ (u : Word) where
  onset_letters : T (in_list u (parts onset_rows)) → T (all_letters u)
  unfolding parts joined_rows onset_rows word words words_from in_alphabet is_small is_capital is_ascii_capital small_by32 small_by1 small_high
      small_next
  onset_letters t = each_in all_letters (parts onset_rows) tt u t

  vowels_letters : T (in_list u (parts vowel_rows)) → T (all_letters u)
  unfolding parts joined_rows vowel_rows word words words_from in_alphabet is_small is_capital is_ascii_capital small_by32 small_by1 small_high
      small_next
  vowels_letters t = each_in all_letters (parts vowel_rows) tt u t

  coda_letters : T (in_list u (parts coda_rows)) → T (all_letters u)
  unfolding parts joined_rows coda_rows word words words_from in_alphabet is_small is_capital is_ascii_capital small_by32 small_by1 small_high
      small_next
  coda_letters t = each_in all_letters (parts coda_rows) tt u t

fits_letters : (u : Word) → T (fits u) → T (all_letters u)
fits_letters u t =
    let p : Parts u = fits_parts u t in
    subst (λ (v : Word). T (all_letters v)) (parts_join u)
    (join_letters (onset_of u) (vowels_of u ++ coda_of u) (onset_letters (onset_of u) p.onset)
    (join_letters (vowels_of u) (coda_of u) (vowels_letters (vowels_of u) p.vowels) (coda_letters (coda_of u) p.coda)))

is_true : (b : Bool) → T b → b ≡ true
is_true true t = refl
is_true false t = absurd t

pub accepted_letters : (w : Word) → verdict w ≡ true → all_letters w ≡ true
unfolding verdict
accepted_letters w e = sym (form_letters w)
    ∙ is_true (all_letters (toneless (lowered w))) (fits_letters (toneless (lowered w)) (go (has_foreign (lowered w)) e))
  where
    go : (b : Bool) → pick b false (fits (toneless (lowered w))) ≡ true → T (fits (toneless (lowered w)))
    go true q = let z : ◌≡◌ {A = ℕ} 0 1 = cc in absurd (omega arith)
    go false q = rw q tt
