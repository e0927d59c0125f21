-- How many letters there are of each kind, by computation.
use Prim.Native.Nat.{ℕ, suc, ◌≤◌, ◌<◌}
use mathlib.Core.Path.{◌≡◌, refl, sym, ◌∙◌}
use mathlib.Core.Bool.{Bool, true, false, not}
use mathlib.Core.List.{List, [], ◌∷◌, ◌++◌}
use mathlib.Core.Logic.{◌⊎◌, ⊎_elim}
use native.Mathlib.Omega.{arith}
use lib.Dec.{T, ltb, leb, eqb}
use lib.ListN.{length}
use borrow.Author.Tests.{eqb-true, eq-eqb, leb-true, le-leb}
use Rattle.p0_choice.specs.Choice.{pick, among, from}
use Rattle.p0_choice.specs.Text.{word}
use Rattle.p0_choice.proofs.Tables.{among_left, among_right, among_count}
use Rattle.p0_choice.proofs.Tests.{both_are, are_both}
use Rattle.p1_letters.specs.Alphabet.{small_by32, small_by1, small_high, small_next, is_small, is_ascii_capital, is_capital, in_alphabet}
use Rattle.p1_letters.specs.Tones.{tone_rows, off_in, tone_off}
use Rattle.p1_letters.specs.Vowels.{vowels, is_spelling_vowel}
use Rattle.p1_letters.proofs.Alphabet.{alphabet_runs}
use Rattle.p1_letters.proofs.Tones.{off_rows}
use Rattle.p1_letters.proofs.Vowels.{spelling_fails}

-- ---- exactly n numbers pass a test: they stand in a list of n, each once, and no other passes
-- in ascending order, from b on
abbrev ascending : ℕ → List ℕ → Bool
ascending b [] = true
ascending b (x ∷ xs) = pick (leb b x) (ascending (suc x) xs) false

abbrev pub Exactly : ℕ → (ℕ → Bool) → Type 0
Exactly n p = (xs : List ℕ) × (length xs ≡ n) × (ascending 0 xs ≡ true) × ((x : ℕ) → among x xs ≡ p x)

abbrev kept : (ℕ → Bool) → List ℕ → List ℕ
kept p [] = []
kept p (x ∷ xs) = pick (p x) (x ∷ kept p xs) (kept p xs)

kept_ascending : (p : ℕ → Bool) (xs : List ℕ) (a b : ℕ) → a ≤ b → ascending b xs ≡ true → ascending a (kept p xs) ≡ true
kept_ascending p [] a b l e = refl
kept_ascending p (x ∷ xs) a b l e = go (p x) (kept_ascending p xs a (suc x)) (kept_ascending p xs (suc x) (suc x))
  where
    h : (b ≤ x) × (ascending (suc x) xs ≡ true)
    h = let q = both_are (leb b x) (ascending (suc x) xs) e in (leb-true b x q.0, q.1)

    go : (t : Bool) → (a ≤ suc x → ascending (suc x) xs ≡ true → ascending a (kept p xs) ≡ true)
        → (suc x ≤ suc x → ascending (suc x) xs ≡ true → ascending (suc x) (kept p xs) ≡ true)
        → ascending a (pick t (x ∷ kept p xs) (kept p xs)) ≡ true
    go true f g = are_both (leb a x) (ascending (suc x) (kept p xs)) (le-leb a x (omega (arith, h.0))) (g (omega arith) h.1)
    go false f g = f (omega (arith, h.0)) h.1

-- a number is kept exactly if it stands there and passes
kept_among : (p : ℕ → Bool) (xs : List ℕ) (x : ℕ) → among x (kept p xs) ≡ pick (p x) (among x xs) false
kept_among p [] x = go (p x)
  where
    go : (b : Bool) → false ≡ pick b false false
    go true = refl
    go false = refl
kept_among p (y ∷ ys) x = go (p y) refl (eqb x y) refl (kept_among p ys x)
  where
    go : (a : Bool) → p y ≡ a → (b : Bool) → eqb x y ≡ b → among x (kept p ys) ≡ pick (p x) (among x ys) false
        → among x (pick a (y ∷ kept p ys) (kept p ys)) ≡ pick (p x) (pick b true (among x ys)) false
    go true q true h e = rw (h, eqb-true x y h, q) refl
    go true q false h e = rw h e
    go false q true h e = e ∙ (rw (eqb-true x y h, q) refl)
    go false q false h e = e

-- the numbers at which a test is tried: the letters stand in two runs of code points
unfoldable runs : List ℕ
runs = from 0x1b1 0 ++ from 90 0x1ea0

in_runs : (x : ℕ) → (x < 0x1b1) ⊎ ((0x1ea0 ≤ x) × (x < 0x1efa)) → among x runs ≡ true
unfolding runs
in_runs x =
    ⊎_elim (λ (h : x < 0x1b1). among_left x (from 0x1b1 0) (from 90 0x1ea0) (among_count 0x1b1 0 x (omega arith) (omega arith)))
    (λ (h : (0x1ea0 ≤ x) × (x < 0x1efa)).
    among_right x (from 0x1b1 0) (from 90 0x1ea0) (among_count 90 0x1ea0 x h.0 (omega (arith, h.1))))

yes : (b : Bool) → T b → b ≡ true
yes true t = refl
yes false t = absurd t

runs_ascend : ascending 0 runs ≡ true
unfolding runs
runs_ascend = yes (ascending 0 runs) tt

-- a test that no number outside the alphabet passes
exactly : (n : ℕ) (p : ℕ → Bool) → ((x : ℕ) → in_alphabet x ≡ false → false ≡ p x) → T (eqb (length (kept p runs)) n) → Exactly n p
exactly n p f t = (
  kept p runs,
  eqb-true (length (kept p runs)) n (yes _ t),
  kept_ascending p runs 0 0 (omega arith) runs_ascend,
  λ x. kept_among p runs x ∙ go x (p x) refl (in_alphabet x) refl,
)
  where
    go : (x : ℕ) (b : Bool) → p x ≡ b → (a : Bool) → in_alphabet x ≡ a → pick b (among x runs) false ≡ b
    go x true q true e = in_runs x (alphabet_runs x e)
    go x true q false e = let h : false ≡ true = f x e ∙ q in let z : ◌≡◌ {A = ℕ} 0 1 = cc in absurd (omega arith)
    go x false q a e = refl

-- ---- what is no letter is none of any kind
no_letter : (x : ℕ) → in_alphabet x ≡ false → (is_small x ≡ false) × (is_capital x ≡ false)
unfolding in_alphabet
no_letter x e = go (ltb x 0x80) (is_small x) (is_capital x) e
  where
    go : (a b c : Bool) → pick a true (pick b true c) ≡ false → (b ≡ false) × (c ≡ false)
    go true b c q = let z : ◌≡◌ {A = ℕ} 0 1 = cc in absurd (omega arith)
    go false true c q = let z : ◌≡◌ {A = ℕ} 0 1 = cc in absurd (omega arith)
    go false false c q = (refl, q)

pub off_no_letter : (x : ℕ) → in_alphabet x ≡ false → x ≡ tone_off x
unfolding small_by32 small_by1 small_high small_next is_small is_ascii_capital is_capital in_alphabet tone_rows tone_off word
off_no_letter x e = off_rows in_alphabet x tone_rows e tt

spelling_no_letter : (x : ℕ) → in_alphabet x ≡ false → false ≡ is_spelling_vowel x
unfolding small_by32 small_by1 small_high small_next is_small is_ascii_capital is_capital in_alphabet tone_rows vowels word
spelling_no_letter x e = spelling_fails in_alphabet x e tt tt

-- letters outside ASCII
abbrev pub beyond_ascii : (ℕ → Bool) → ℕ → Bool
beyond_ascii p x = pick (ltb x 0x80) false (p x)

none_beyond : (p : ℕ → Bool) (x : ℕ) → false ≡ p x → false ≡ beyond_ascii p x
none_beyond p x e = go (ltb x 0x80)
  where
    go : (b : Bool) → false ≡ pick b false (p x)
    go true = refl
    go false = e

-- ---- the alphabet
-- "Lower case, 67"
pub small_67 : Exactly 67 is_small
unfolding small_by32 small_by1 small_high small_next is_small word runs
small_67 = exactly 67 is_small (λ x e. sym (no_letter x e).0) tt

-- "the 67 capitals"
pub capitals_67 : Exactly 67 (beyond_ascii is_capital)
unfolding small_by32 small_by1 small_high small_next is_ascii_capital is_capital word runs
capitals_67 = exactly 67 (beyond_ascii is_capital) (λ x e. none_beyond is_capital x (sym (no_letter x e).1)) tt

-- "one of 134 Vietnamese letters"
pub vietnamese_134 : Exactly 134 (beyond_ascii in_alphabet)
unfolding small_by32 small_by1 small_high small_next is_small is_ascii_capital is_capital in_alphabet word runs
vietnamese_134 = exactly 134 (beyond_ascii in_alphabet) (λ x e. none_beyond in_alphabet x (sym e)) tt

pub letters_262 : Exactly 262 in_alphabet
unfolding small_by32 small_by1 small_high small_next is_small is_ascii_capital is_capital in_alphabet word runs
letters_262 = exactly 262 in_alphabet (λ x e. sym e) tt

-- ---- the vowels
-- "those twelve small vowels, plain or with any of five tones, 72 letters"
pub spelling_vowels_72 : Exactly 72 is_spelling_vowel
unfolding tone_rows off_in tone_off vowels is_spelling_vowel word runs
spelling_vowels_72 = exactly 72 is_spelling_vowel spelling_no_letter tt

-- .. and 60 of them have a tone to lose
pub toned_60 : Exactly 60 (λ (x : ℕ). not (eqb (tone_off x) x))
unfolding tone_rows off_in tone_off word runs
toned_60 = exactly 60 (λ (x : ℕ). not (eqb (tone_off x) x)) (λ x e. rw (← off_no_letter x e, eq-eqb x x refl) refl) tt
