-- The bytes are read as the letters whose encoding they are, and else refused for their first faulty character.
use Prim.Native.Nat.{ℕ, zero, suc, ◌<◌, ◌≤◌}
use mathlib.Core.Path.{◌≡◌, refl, sym, ap, ◌∙◌}
use mathlib.Core.Bool.{Bool, true, false}
use mathlib.Core.List.{List, [], ◌∷◌, ◌++◌, append_assoc, append-nil}
use mathlib.Core.Logic.{◌⊎◌, inl, inr, ◌↔◌}
use native.Mathlib.Omega.{arith}
use lib.ListN.{length, drop, length-drop}
use lib.Seq.{drop-append_seam}
use Rattle.p0_choice.specs.Choice.{pick}
use Rattle.p0_refusals.specs.declared.Refusal.{Refusal}
use Rattle.p0_refusals.specs.declared.Refusal.TheVariants.{Foreign, Malformed}
use Rattle.p1_letters.specs.Alphabet.{in_alphabet, all_letters}
use Rattle.p5_utf8.specs.declared.Char.{Char}
use Rattle.std.specs.Prelude.{None, Some, Option}
use Rattle.p5_utf8.specs.Rfc3629.{character}
use Rattle.p5_utf8.specs.Rfc3629.{is_scalar, encode, encode_all, char_of}
use Rattle.p0_refusals.specs.Answers.{Outcome, writes, refuses}
use Rattle.p0_refusals.proofs.Room.{Fits}
use Rattle.p5_utf8.proofs.Encode.{some_bytes, many_bytes}
use Rattle.p5_utf8.proofs.Exact.{found, there}
use Rattle.p5_utf8_text.proofs.Alphabet.{letter_scalar, all_head}
use Rattle.p5_utf8_text.specs.Read.{before, letters}
use Rattle.p5_utf8_text.proofs.Letters.{letters_none, letters_malformed, letters_char}

-- ---- letters that stand at the start are read, whatever follows
letters_before : (x : ℕ) (s : List ℕ) → is_scalar x ≡ true
    → letters (encode x ++ s) ≡ pick (in_alphabet x) (before x (letters s)) (refuses Foreign)
letters_before x s d =
    letters_char (encode x ++ s) x (length (encode x)) (there x s d)
    ∙ ap (λ (t : List ℕ). pick (in_alphabet x) (before x (letters t)) (refuses Foreign)) (drop-append_seam (encode x) s)

abbrev before_all : List ℕ → Outcome → Outcome
before_all [] u = u
before_all (x ∷ xs) u = before x (before_all xs u)

letters_over : (xs s : List ℕ) → all_letters xs ≡ true → letters (encode_all xs ++ s) ≡ before_all xs (letters s)
letters_over [] s a = refl
letters_over (x ∷ xs) s a =
    let h = all_head x xs a in
    rw (append_assoc (encode x) (encode_all xs) s, letters_before x (encode_all xs ++ s) (letter_scalar x h.0), h.0)
    (ap (before x) (letters_over xs s h.1))

all_written : (xs : List ℕ) → before_all xs (writes []) ≡ writes xs
unfolding before
all_written [] = refl
all_written (x ∷ xs) = rw (all_written xs) refl

all_refused : (xs : List ℕ) (r : Refusal) → before_all xs (refuses r) ≡ refuses r
unfolding before
all_refused [] r = refl
all_refused (x ∷ xs) r = rw (all_refused xs r) refl

module _ (xs : List ℕ) (a : all_letters xs ≡ true) where
  -- the bytes of letters are read as these letters
  pub read_written : letters (encode_all xs) ≡ writes xs
  read_written = ap letters (sym (append-nil (encode_all xs))) ∙ letters_over xs [] a ∙ rw letters_none (all_written xs)

  -- letters, then bytes that begin with no character
  pub first_malformed : (s : List ℕ) → 0 < length s → char_of s ≡ None → letters (encode_all xs ++ s) ≡ refuses Malformed
  first_malformed [] h e = absurd (omega arith)
  first_malformed (b ∷ s) h e = letters_over xs (b ∷ s) a ∙ rw (letters_malformed b s e) (all_refused xs Malformed)

  -- letters, then a code point outside the alphabet, then anything
  pub first_foreign_lem : (x : ℕ) (s : List ℕ) → is_scalar x ≡ true → in_alphabet x ≡ false
      → letters (encode_all xs ++ (encode x ++ s)) ≡ refuses Foreign
  first_foreign_lem x s d f = letters_over xs (encode x ++ s) a ∙ rw (letters_before x s d, f) (all_refused xs Foreign)

-- ---- and there is nothing else that bytes can be
abbrev AfterLetters : List ℕ → (List ℕ → Type 0) → Type 0
AfterLetters s P = (xs : List ℕ) × (t : List ℕ) × (all_letters xs ≡ true) × (s ≡ encode_all xs ++ t) × P t

abbrev NoCharacter : List ℕ → Type 0
NoCharacter t = (0 < length t) × (char_of t ≡ None)

abbrev ForeignLetter : List ℕ → Type 0
ForeignLetter t = (x : ℕ) × (r : List ℕ) × (is_scalar x ≡ true) × (in_alphabet x ≡ false) × (t ≡ encode x ++ r)

abbrev Is : List ℕ → Outcome → Type 0
Is s (writes xs) = (encode_all xs ≡ s) × (all_letters xs ≡ true)
Is s (refuses r) = ((r ≡ Malformed) × AfterLetters s NoCharacter) ⊎ ((r ≡ Foreign) × AfterLetters s ForeignLetter)

further : (x : ℕ) (s t : List ℕ) (P : List ℕ → Type 0) → in_alphabet x ≡ true → s ≡ encode x ++ t → AfterLetters t P → AfterLetters s P
further x s t P a e (xs, u, b, f, p) = (x ∷ xs, u, rw a b, e ∙ rw f (sym (append_assoc (encode x) (encode_all xs) u)), p)

is_before : (x : ℕ) (s t : List ℕ) (u : Outcome) → in_alphabet x ≡ true → s ≡ encode x ++ t → Is t u → Is s (before x u)
unfolding before
is_before x s t (writes xs) a e h = (rw h.0 (sym e), rw a h.1)
is_before x s t (refuses r) a e (inl h) = inl (h.0, further x s t NoCharacter a e h.1)
is_before x s t (refuses r) a e (inr h) = inr (h.0, further x s t ForeignLetter a e h.1)

is_read_on : (n : ℕ) (s : List ℕ) → length s ≤ n → ((t : List ℕ) → length t < n → Is t (letters t)) → Is s (letters s)
is_read_on n [] l rec = rw letters_none (refl, refl)
is_read_on n (b ∷ s) l rec = go (char_of (b ∷ s)) refl
  where
    char : (x w : ℕ) → char_of (b ∷ s) ≡ character x w → (v : Bool) → in_alphabet x ≡ v
        → Is (b ∷ s) (pick v (before x (letters (drop w (b ∷ s)))) (refuses Foreign))
    char x w e true a =
        let f = found (b ∷ s) x w e in
        let k = some_bytes x in
        is_before x (b ∷ s) (drop w (b ∷ s)) (letters (drop w (b ∷ s))) a f.2
        (rec (drop w (b ∷ s)) (omega (arith, length-drop w (b ∷ s))))
    char x w e false a = let f = found (b ∷ s) x w e in inr (refl, ([], b ∷ s, refl, refl, (x, drop w (b ∷ s), f.0, a, f.2)))

    go : (c : Option Char) → char_of (b ∷ s) ≡ c → Is (b ∷ s) (letters (b ∷ s))
    go None e = rw (letters_malformed b s e) (inl (refl, ([], b ∷ s, refl, refl, (omega arith, e))))
    go (Some c) e = rw (letters_char (b ∷ s) c.scalar c.width e) (char c.scalar c.width e (in_alphabet c.scalar) refl)

is_read : (n : ℕ) (s : List ℕ) → length s < n → Is s (letters s)
is_read zero s l = absurd (omega arith)
is_read (suc n) s l = is_read_on n s (omega arith) (is_read n)

-- ---- exactly
module _ (s : List ℕ) where
  what : Is s (letters s)
  what = is_read (suc (length s)) s (omega arith)

  -- 8: the first faulty character, after letters alone, is malformed
  pub malformed_exactly : letters s ≡ refuses Malformed ↔ AfterLetters s NoCharacter
  malformed_exactly = (λ e. go (rw e at what), λ (xs, t, a, e, p). rw e (first_malformed xs a t p.0 p.1))
    where
      go : Is s (refuses Malformed) → AfterLetters s NoCharacter
      go (inl h) = h.1
      go (inr h) = let q = h.0 in let z : ◌≡◌ {A = ℕ} 0 1 = cc in absurd (omega arith)

  -- 1: the first faulty character, after letters alone, is outside the alphabet
  pub foreign_exactly : letters s ≡ refuses Foreign ↔ AfterLetters s ForeignLetter
  foreign_exactly = (λ e. go (rw e at what), λ (xs, t, a, e, p). back xs t a e p)
    where
      go : Is s (refuses Foreign) → AfterLetters s ForeignLetter
      go (inl h) = let q = h.0 in let z : ◌≡◌ {A = ℕ} 0 1 = cc in absurd (omega arith)
      go (inr h) = h.1

      back : (xs t : List ℕ) → all_letters xs ≡ true → s ≡ encode_all xs ++ t → ForeignLetter t → letters s ≡ refuses Foreign
      back xs t a e (x, r, d, f, q) = rw (e, q) (first_foreign_lem xs a x r d f)

  -- the letters are exactly those whose encoding the bytes are
  pub letters_exactly : (xs : List ℕ) → letters s ≡ writes xs ↔ ((encode_all xs ≡ s) × (all_letters xs ≡ true))
  letters_exactly xs = (λ e. rw e at what, λ h. rw (← h.0) (read_written xs h.1))

  -- they are no more than the bytes
  pub letters_fit_lem : (m : ℕ) → length s ≤ m → Fits m (letters s)
  letters_fit_lem m l = go (letters s) what
    where
      go : (u : Outcome) → Is s u → Fits m u
      go (writes xs) h = omega (arith, many_bytes xs, ap length h.0)
      go (refuses r) (inl h) = λ e. let q = h.0 in let z : ◌≡◌ {A = ℕ} 0 1 = cc in omega arith
      go (refuses r) (inr h) = λ e. let q = h.0 in let z : ◌≡◌ {A = ℕ} 0 1 = cc in omega arith

-- so no two strings of letters share their bytes
pub one_form : (xs ys : List ℕ) → all_letters xs ≡ true → all_letters ys ≡ true → encode_all xs ≡ encode_all ys → xs ≡ ys
one_form xs ys a b e = let h = read_written xs a in let k = read_written ys b in let q : writes xs ≡ writes ys = sym h ∙ ap letters e ∙ k in
    cc
