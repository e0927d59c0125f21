-- What is written is read back, and what is read of bytes that spell a state is written back: a sound state has one form only, and
-- sound bytes are the form of one. Bytes of specs/ may be any numbers; that a byte is below 256 is a premise.
use Prim.Native.Nat.{ℕ, zero, suc, ◌+◌, ◌*◌, ◌/◌, ◌%◌, ◌≤◌, ◌<◌}
use mathlib.Core.Path.{◌≡◌, refl, sym, ap, ◌∙◌}
use mathlib.Core.Bool.{true}
use mathlib.Core.List.{List, [], ◌∷◌, ◌++◌, append_assoc}
use mathlib.Core.Logic.{⊎_elim}
use native.Mathlib.Omega.{arith}
use lib.Dec.{eqb}
use lib.ListN.{length, get_or, drop, length-append, drop_of_length-le}
use lib.Seq.{get_or-append-add, drop-cons}
use borrow.Author.Tests.{eq-eqb, eqb-true}
use Rattle.p0_choice.specs.Choice.{among}
use Rattle.p0_choice.proofs.Tables.{each_among}
use Rattle.p0_choice.proofs.Tests.{both_are, are_both}
use Rattle.p1_letters.specs.Alphabet.{in_alphabet}
use Rattle.p1_letters.proofs.Alphabet.{alphabet_runs}
use Rattle.p4_note_parts.specs.State.{Standing, end_fits, in_word, letters_fit, line_sound}
use Rattle.p4_note_parts.specs.declared.Line.{Line}
use Rattle.p4_note_parts.proofs.Soundness.{end_cases, sound_facts}
use Rattle.p4_spelling.specs.Verdict.{longest_length}
use Rattle.p6_note_bytes.specs.Bytes.{kept_start, line_size, standing_byte, two_bytes, kept_bytes, line_head, line_bytes}
use Rattle.p6_note_bytes.specs.Bytes.{standing_of, two_at, kept_at, line_of, standings, spells_line, line_bytes_sound}
use Rattle.p6_note_bytes.proofs.Writing.{kept_bytes_lem}
use Rattle.p6_zeros.specs.Zeros.{byte_at}

-- ---- read back
standing_back : (o : Standing) (length run : ℕ) → end_fits o length run ≡ true → standing_of (standing_byte o) ≡ o
unfolding standing_of
standing_back o length run e = end_cases (λ (o : Standing). standing_of (standing_byte o) ≡ o) o length run refl refl (λ f. refl) e

standing_spelt : (o : Standing) (length run : ℕ) → end_fits o length run ≡ true → among (standing_byte o) standings ≡ true
standing_spelt o length run e = end_cases (λ (o : Standing). among (standing_byte o) standings ≡ true) o length run refl refl (λ f. refl) e

-- a number that two bytes have room for
two_back : (n : ℕ) → n < 65536 → n % 256 + n / 256 % 256 * 256 ≡ n
two_back n h = omega arith

-- every letter has room in two bytes
word_small : (x : ℕ) → in_word x ≡ true → x < 65536
unfolding in_word
word_small x e = ⊎_elim (λ h. omega arith) (λ h. omega arith) (alphabet_runs x (both_are (in_alphabet x) _ e).0)

letters_small : (run : ℕ) (xs : List ℕ) → letters_fit run xs ≡ true → (i : ℕ) → get_or xs i 0 < 65536
unfolding letters_fit
letters_small run [] e i = omega arith
letters_small zero (x ∷ xs) e zero = omega (arith, eqb-true x 0 (both_are (eqb x 0) _ e).0)
letters_small zero (x ∷ xs) e (suc i) = letters_small zero xs (both_are (eqb x 0) _ e).1 i
letters_small (suc run) (x ∷ xs) e zero = word_small x (both_are (in_word x) _ e).0
letters_small (suc run) (x ∷ xs) e (suc i) = letters_small run xs (both_are (in_word x) _ e).1 i

-- the letter that stands after p
letter_back : (p : List ℕ) (x : ℕ) (r : List ℕ) (n : ℕ) → length p ≡ n → x < 65536 → two_at (p ++ (two_bytes x ++ r)) n ≡ x
letter_back p x r n e h =
    let z : length p + 0 ≡ n = omega arith in
    let o : length p + 1 ≡ n + 1 = omega arith in
    let b0 : byte_at (p ++ (two_bytes x ++ r)) n ≡ x % 256 = rw z at (get_or-append-add p (two_bytes x ++ r) 0 0) in
    let b1 : byte_at (p ++ (two_bytes x ++ r)) (n + 1) ≡ x / 256 % 256 = rw o at (get_or-append-add p (two_bytes x ++ r) 1 0) in
    rw (b0, b1) (two_back x h)

kept_back : (p xs : List ℕ) (n : ℕ) → length p ≡ n → ((i : ℕ) → get_or xs i 0 < 65536) → kept_at (length xs) (p ++ kept_bytes xs) n ≡ xs
kept_back p [] n e f = refl
kept_back p (x ∷ xs) n e f =
    let l : length (p ++ two_bytes x) ≡ n + 2 = omega (arith, length-append p (two_bytes x)) in
    let h : kept_at (length xs) (p ++ (two_bytes x ++ kept_bytes xs)) (n + 2) ≡ xs
    = rw (← append_assoc p (two_bytes x) (kept_bytes xs)) (kept_back (p ++ two_bytes x) xs (n + 2) l (λ i. f (suc i))) in
    rw (letter_back p x (kept_bytes xs) n e (f 0), h)

module _ (s : Line) (h : line_sound s ≡ true) (n : length s.letters ≡ longest_length) where
  -- a sound state, with the places of all its letters
  pub read_written : line_of (line_bytes s) ≡ s
  unfolding line_bytes line_head line_of
  read_written =
      let f = sound_facts s h in
      let c = f.counts in
      let k : kept_at longest_length (line_bytes s) kept_start ≡ s.letters
      = rw n at (kept_back (line_head s) s.letters kept_start refl (letters_small s.run s.letters f.letters)) in
      let r : s.run % 256 ≡ s.run = omega arith in
      rw (
        k,
        r,
        two_back s.length (omega arith),
        two_back s.words (omega arith),
        two_back s.noes (omega arith),
        two_back s.first (omega arith),
        standing_back s.standing s.length s.run f.end,
      ) refl

  -- the form of a sound state is sound
  pub written_sound : line_bytes_sound (line_bytes s) ≡ true
  unfolding line_bytes_sound spells_line line_bytes line_head
  written_sound =
      let l : length (line_bytes s) ≡ line_size = omega (arith, kept_bytes_lem s.letters) in
      are_both _ _
      (are_both _ _ (eq-eqb (length (line_bytes s)) line_size l) (standing_spelt s.standing s.length s.run (sound_facts s h).end))
      (rw read_written h)

-- ---- written back
-- a byte that spells a standing
standing_forth : (x : ℕ) → among x standings ≡ true → standing_byte (standing_of x) ≡ x
unfolding standing_of
standing_forth x e =
    eqb-true (standing_byte (standing_of x)) x (each_among (λ (y : ℕ). eqb (standing_byte (standing_of y)) y) standings tt x e)

spelt_tests : (b : List ℕ) → spells_line b ≡ true → (length b ≡ line_size) × (among (byte_at b 0) standings ≡ true)
unfolding spells_line
spelt_tests b e =
    let q = both_are (eqb (length b) line_size) _ e in (eqb-true (length b) line_size q.0, q.1)

pub spelt_size : (b : List ℕ) → spells_line b ≡ true → length b ≡ line_size
spelt_size b e = (spelt_tests b e).0

module _ (b : List ℕ) (bytes : (k : ℕ) → byte_at b k < 256) where
  two_drop : (at : ℕ) → at + 2 ≤ length b → drop at b ≡ byte_at b at ∷ byte_at b (suc at) ∷ drop (suc (suc at)) b
  two_drop at h =
      drop-cons b at 0 (omega arith) ∙ ap (λ (l : List ℕ). byte_at b at ∷ l) (drop-cons b (suc at) 0 (omega arith))

  two_forth : (at : ℕ) → at + 2 ≤ length b → two_bytes (two_at b at) ++ drop (at + 2) b ≡ drop at b
  two_forth at h =
      let x = byte_at b at in
      let y = byte_at b (at + 1) in
      let p : (x + y * 256) % 256 ≡ x = omega (arith, bytes at) in
      let q : (x + y * 256) / 256 ≡ y = omega (arith, bytes at) in
      let r : y % 256 ≡ y = omega (arith, bytes (at + 1)) in
      let e1 : at + 1 ≡ suc at = omega arith in
      let e2 : at + 2 ≡ suc (suc at) = omega arith in
      rw (p, q, r, e1, e2) (sym (two_drop at h))

  kept_forth : (n at : ℕ) → at + 2 * n ≡ length b → kept_bytes (kept_at n b at) ≡ drop at b
  kept_forth zero at h = let l : length b ≤ at = omega arith in sym (drop_of_length-le b l)
  kept_forth (suc n) at h = rw (kept_forth n (at + 2) (omega arith)) (two_forth at (omega arith))

  -- bytes that spell a state, sound or not
  pub spelt_back : spells_line b ≡ true → line_bytes (line_of b) ≡ b
  unfolding line_bytes line_head line_of
  spelt_back e =
      let q = spelt_tests b e in
      let n = q.0 in
      let r : byte_at b 1 % 256 ≡ byte_at b 1 = omega (arith, bytes 1) in
      rw (
        standing_forth (byte_at b 0) q.1,
        r,
        kept_forth longest_length kept_start (omega arith),
        two_forth 8 (omega arith),
        two_forth 6 (omega arith),
        two_forth 4 (omega arith),
        two_forth 2 (omega arith),
      ) (sym (two_drop 0 (omega arith)))

  pub written_back : line_bytes_sound b ≡ true → line_bytes (line_of b) ≡ b
  unfolding line_bytes_sound
  written_back e = spelt_back (both_are (spells_line b) _ e).0

-- ---- one form only: two sound byte strings of one state are the same
pub one_form : (b d : List ℕ) → ((k : ℕ) → byte_at b k < 256) → ((k : ℕ) → byte_at d k < 256) → line_bytes_sound b ≡ true
    → line_bytes_sound d ≡ true → line_of b ≡ line_of d → b ≡ d
one_form b d f g s t e = sym (written_back b f s) ∙ ap line_bytes e ∙ written_back d g t
