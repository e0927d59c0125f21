-- What `read` answers, by document 01's numbers and in its order; and reading undoes writing.
use Rattle.std.specs.Prelude.{Err, Ok}
use Prim.Native.Nat.{ℕ, ◌<◌, ◌≤◌}
use mathlib.Core.Path.{◌≡◌, refl, ap}
use mathlib.Core.Bool.{Bool, true, false}
use mathlib.Core.List.{List, ◌++◌}
use mathlib.Core.Logic.{◌↔◌}
use native.Mathlib.Omega.{arith}
use lib.Dec.{ltb}
use lib.ListN.{length}
use borrow.Author.Tests.{lt-ltb, le-ltb, ltb-false}
use Rattle.p0_choice.specs.Choice.{pick}
use Rattle.p0_refusals.specs.Limits.{letter_limit, byte_limit}
use Rattle.p0_refusals.specs.declared.Refusal.TheVariants.{Short, Long}
use Rattle.p1_letters.specs.Alphabet.{in_alphabet, all_letters}
use Rattle.std.specs.Prelude.{None}
use Rattle.p5_utf8.specs.Rfc3629.{is_scalar, encode, encode_all, char_of}
use Rattle.p0_refusals.specs.Answers.{writes, refuses, refusal_of, answer}
use Rattle.p0_refusals.proofs.Answers.{call, call_writes, call_room, output_done}
use Rattle.p0_refusals.proofs.Room.{Fits, enough}
use Rattle.p5_utf8_text.specs.Write.{writing}
use Rattle.p5_utf8_text.proofs.Alphabet.{few_bytes}
use Rattle.p5_utf8_text.proofs.Writing.{written_exactly}
use Rattle.p5_utf8_text.specs.Read.{letters, reading}
use Rattle.p5_utf8_text.proofs.Exact.{read_written, first_malformed, first_foreign_lem, letters_exactly, letters_fit_lem}

pub read_long : (s : List ℕ) (m : ℕ) → byte_limit < length s → refusal_of (answer (reading s) m) ≡ 6
unfolding reading answer
read_long s m h = rw (lt-ltb byte_limit (length s) h) refl

module _ (xs : List ℕ) (m : ℕ) (a : all_letters xs ≡ true) where
  pub malformed : (s : List ℕ) → length (encode_all xs ++ s) ≤ byte_limit → 0 < length s → char_of s ≡ None
      → refusal_of (answer (reading (encode_all xs ++ s)) m) ≡ 8
  unfolding reading answer
  malformed s h l e = rw (le-ltb byte_limit (length (encode_all xs ++ s)) h, first_malformed xs a s l e) refl

  pub foreign : (x : ℕ) (s : List ℕ) → length (encode_all xs ++ (encode x ++ s)) ≤ byte_limit → is_scalar x ≡ true → in_alphabet x ≡ false
      → refusal_of (answer (reading (encode_all xs ++ (encode x ++ s))) m) ≡ 1
  unfolding reading answer
  foreign x s h d f = rw (le-ltb byte_limit (length (encode_all xs ++ (encode x ++ s))) h, first_foreign_lem xs a x s d f) refl

  module _ (h : length (encode_all xs) ≤ byte_limit) where
    pub short : m < length xs → refusal_of (answer (reading (encode_all xs)) m) ≡ 3
    unfolding reading answer
    short l = rw (le-ltb byte_limit (length (encode_all xs)) h, read_written xs a, lt-ltb m (length xs) l) refl

    pub done : length xs ≤ m → answer (reading (encode_all xs)) m ≡ Ok (length xs)
    unfolding reading answer
    done l = rw (le-ltb byte_limit (length (encode_all xs)) h, read_written xs a, le-ltb m (length xs) l) refl

-- ---- with room for as many letters as bytes may be read 3 is never the answer
reading_fits : (s : List ℕ) → Fits byte_limit (reading s)
unfolding reading
reading_fits s = go (ltb byte_limit (length s)) refl
  where
    go : (t : Bool) → ltb byte_limit (length s) ≡ t → Fits byte_limit (pick t (refuses Long) (letters s))
    go true p = λ e. let z : ◌≡◌ {A = ℕ} 0 1 = cc in omega arith
    go false p = letters_fit_lem s byte_limit (omega (arith, ltb-false byte_limit (length s) p))

pub read_room_lem : (s : List ℕ) (n : ℕ) → byte_limit ≤ n → answer (reading s) n ≡ Err Short → ⊥
read_room_lem s n h = enough (reading s) byte_limit n (reading_fits s) h

-- ---- reading and writing
-- bytes are read exactly as the letters whose encoding they are, if they are within the limit
pub read_exactly : (s xs : List ℕ) → reading s ≡ writes xs ↔ ((length s ≤ byte_limit) × (encode_all xs ≡ s) × (all_letters xs ≡ true))
unfolding reading
read_exactly s xs =
    (go (ltb byte_limit (length s)) refl, λ h. rw (le-ltb byte_limit (length s) h.0) ((letters_exactly s xs).1 (h.1, h.2)))
  where
    go : (t : Bool) → ltb byte_limit (length s) ≡ t → pick t (refuses Long) (letters s) ≡ writes xs
        → (length s ≤ byte_limit) × (encode_all xs ≡ s) × (all_letters xs ≡ true)
    go true p q = let z : ◌≡◌ {A = ℕ} 0 1 = cc in absurd (omega arith)
    go false p q = let k = (letters_exactly s xs).0 q in (ltb-false byte_limit (length s) p, k.0, k.1)

-- bytes that are read as no more letters than may be written are what these letters are written as
pub written_again : (s xs : List ℕ) → reading s ≡ writes xs → length xs ≤ letter_limit → writing xs ≡ writes s
unfolding writing
written_again s xs e h = let k = (read_exactly s xs).0 e in rw (le-ltb letter_limit (length xs) h, k.2, k.1) refl

-- bytes that were written are read back as the letters: so many bytes may be read
pub read_back : (xs bs : List ℕ) → writing xs ≡ writes bs → reading bs ≡ writes xs
unfolding reading
read_back xs bs e =
    let w = written_exactly xs bs e in
    let n = few_bytes xs w.1 in
    let l : length bs ≤ byte_limit = omega (arith, ap length w.2) in
    rw (le-ltb byte_limit (length bs) l, w.2) (read_written xs w.1)

-- each way through `read`
pub ruleset ways = (call, call_writes, call_room, output_done)
