-- What `write` writes is the bytes of the letters, and there is no second answer.
use Rattle.std.specs.Prelude.{Err, Ok, Result}
use Rattle.p0_refusals.specs.declared.Refusal.{Refusal}
use Prim.Native.Nat.{ℕ, ◌<◌, ◌≤◌}
use mathlib.Core.Path.{◌≡◌, refl, sym, ap, ◌∙◌}
use mathlib.Core.Bool.{Bool, true, false}
use mathlib.Core.List.{List}
use native.Mathlib.Omega.{arith}
use lib.Dec.{ltb}
use lib.ListN.{length}
use borrow.Author.Tests.{lt-ltb, le-ltb, ltb-false}
use Rattle.p0_choice.specs.Choice.{pick}
use Rattle.p0_refusals.specs.Limits.{letter_limit}
use Rattle.p0_refusals.specs.declared.Refusal.TheVariants.{Foreign, Short, Long}
use Rattle.p1_letters.specs.Alphabet.{all_letters}
use Rattle.p5_utf8.specs.Rfc3629.{encode_all}
use Rattle.p0_refusals.specs.Answers.{writes, refuses, refusal_of, content, answer, onto, output}
use Rattle.p0_refusals.specs.Mirror.{counted}
use Rattle.p0_refusals.proofs.Answers.{call, counted_done, output_done}
use Rattle.p0_refusals.proofs.Room.{Fits, enough}
use Rattle.p5_utf8_text.specs.Write.{write_room, writing}
use Rattle.p5_utf8_text.proofs.Alphabet.{few_bytes}

-- ---- bytes are written exactly of letters within the limit
pub written_exactly : (xs bs : List ℕ) → writing xs ≡ writes bs → (length xs ≤ letter_limit) × (all_letters xs ≡ true) × (bs ≡ encode_all xs)
unfolding writing
written_exactly xs bs e = go (ltb letter_limit (length xs)) (all_letters xs) refl e
  where
    go : (t u : Bool) → ltb letter_limit (length xs) ≡ t
        → pick t (refuses Long) (pick u (writes (encode_all xs)) (refuses Foreign)) ≡ writes bs
        → (length xs ≤ letter_limit) × (u ≡ true) × (bs ≡ encode_all xs)
    go true u p q = let z : ◌≡◌ {A = ℕ} 0 1 = cc in absurd (omega arith)
    go false true p q = (ltb-false letter_limit (length xs) p, refl, cc)
    go false false p q = let z : ◌≡◌ {A = ℕ} 0 1 = cc in absurd (omega arith)

module _ (xs : List ℕ) (v : Result ℕ Refusal) (n : ℕ) (e : v ≡ counted (writing xs)) (q : v ≡ Ok n) where
  is_written : (n ≡ length (content (writing xs))) × (all_letters xs ≡ true) × (content (writing xs) ≡ encode_all xs)
  is_written = let k = counted_done (writing xs) n (sym e ∙ q) in let w = written_exactly xs (content (writing xs)) k.0 in
      (k.1, w.1, w.2)

  pub lay_letters : all_letters xs ≡ true
  lay_letters = is_written.1

  pub lay_room : (m : ℕ) → n ≤ m → length (encode_all xs) ≤ m
  lay_room m h = let k = is_written in omega (arith, ap length k.2)

  pub lay_output : (o out : List ℕ) → n ≤ length o → out ≡ onto (encode_all xs) o → out ≡ output (writing xs) o
  lay_output o out h f = output_done (writing xs) v e n q o out h (rw is_written.2 f)

-- ---- each refusal has its condition, in document 01's order
pub write_long : (xs : List ℕ) (m : ℕ) → letter_limit < length xs → refusal_of (answer (writing xs) m) ≡ 6
unfolding writing answer
write_long xs m h = rw (lt-ltb letter_limit (length xs) h) refl

module _ (xs : List ℕ) (m : ℕ) (h : length xs ≤ letter_limit) where
  pub foreign : all_letters xs ≡ false → refusal_of (answer (writing xs) m) ≡ 1
  unfolding writing answer
  foreign a = rw (le-ltb letter_limit (length xs) h, a) refl

  pub short : all_letters xs ≡ true → m < length (encode_all xs) → refusal_of (answer (writing xs) m) ≡ 3
  unfolding writing answer
  short a l = rw (le-ltb letter_limit (length xs) h, a, lt-ltb m (length (encode_all xs)) l) refl

  pub done : all_letters xs ≡ true → length (encode_all xs) ≤ m → answer (writing xs) m ≡ Ok (length (encode_all xs))
  unfolding writing answer
  done a l = rw (le-ltb letter_limit (length xs) h, a, le-ltb m (length (encode_all xs)) l) refl

-- ---- with room for the bytes of all letters that are written 3 is never the answer
writing_fits : (xs : List ℕ) → Fits write_room (writing xs)
unfolding writing
writing_fits xs = go (ltb letter_limit (length xs)) (all_letters xs) refl refl
  where
    go : (t u : Bool) → ltb letter_limit (length xs) ≡ t → all_letters xs ≡ u
        → Fits write_room (pick t (refuses Long) (pick u (writes (encode_all xs)) (refuses Foreign)))
    go true u p q = λ e. let z : ◌≡◌ {A = ℕ} 0 1 = cc in omega arith
    go false true p q = omega (arith, few_bytes xs q, ltb-false letter_limit (length xs) p)
    go false false p q = λ e. let z : ◌≡◌ {A = ℕ} 0 1 = cc in omega arith

pub write_room_lem : (xs : List ℕ) (n : ℕ) → write_room ≤ n → answer (writing xs) n ≡ Err Short → ⊥
write_room_lem xs n h = enough (writing xs) write_room n (writing_fits xs) h

-- each way through `write`
pub ruleset ways = (call, lay_letters, lay_room, lay_output)
