-- A line read as letters: as many places as bytes may be read always suffice, so that only what the bytes are refuses it.
use Rattle.std.specs.Prelude.{Err, Ok, Result}
use Prim.Native.Nat.{ℕ, ◌≤◌}
use mathlib.Core.Path.{◌≡◌, refl, sym, ap, ◌∙◌}
use mathlib.Core.Bool.{Bool, true, false}
use mathlib.Core.List.{List, []}
use native.Mathlib.Omega.{arith}
use lib.Dec.{ltb}
use lib.ListN.{length, take, drop}
use lib.Seq.{take_at}
use borrow.Author.Tests.{le-ltb, ltb-false}
use Rattle.p0_choice.specs.Choice.{pick}
use Rattle.p0_refusals.specs.Answers.{Outcome, writes, refuses, content, answer, onto, output}
use Rattle.p0_refusals.specs.Limits.{byte_limit}
use Rattle.p0_refusals.specs.declared.Refusal.{Refusal}
use Rattle.p0_refusals.specs.declared.Refusal.TheVariants.{Long}
use Rattle.p1_letters.specs.Alphabet.{all_letters}
use Rattle.p5_utf8.specs.Rfc3629.{encode_all}
use Rattle.p5_utf8.proofs.Encode.{many_bytes}
use Rattle.p5_utf8_text.specs.Read.{letters, reading}
use Rattle.p5_utf8_text.proofs.Exact.{letters_exactly}
use Rattle.p2_input_method.specs.declared.InputMethod.{InputMethod}
use Rattle.p3_cells.specs.Settings.{at_first}
use Rattle.p7_line.specs.Line.{keys_made, made_line, refused_line, keys_line, line_out}
use Rattle.p7_line.specs.Method.{method_named, begun_by}

-- what is read is no more letters than bytes may be, and all of the alphabet
pub read_small : (s xs : List ℕ) → reading s ≡ writes xs → (length xs ≤ byte_limit) × (all_letters xs ≡ true)
unfolding reading
read_small s xs e = go (ltb byte_limit (length s)) refl e
  where
    go : (b : Bool) → ltb byte_limit (length s) ≡ b → pick b (refuses Long) (letters s) ≡ writes xs
        → (length xs ≤ byte_limit) × (all_letters xs ≡ true)
    go true p q = let z : ◌≡◌ {A = ℕ} 0 1 = cc in absurd (omega arith)
    go false p q =
        let h = (letters_exactly s xs).0 q in
        let l = ltb-false byte_limit (length s) p in
        let k : length (encode_all xs) ≤ byte_limit = rw h.0 l in
        (omega (arith, many_bytes xs), h.1)

module _ (s : List ℕ) (m : ℕ) (g : Result ℕ Refusal) (e : g ≡ answer (reading s) m) (l : m ≡ byte_limit) (r : Refusal) (q : g ≡ Err r) where
  pub read_refused : reading s ≡ refuses r
  unfolding answer
  read_refused = go (reading s) refl (sym q ∙ e)
    where
      go : (u : Outcome) → reading s ≡ u → Err r ≡ answer u m → reading s ≡ refuses r
      go (writes xs) p h =
          let k = (read_small s xs p).0 in
          let d : Err r ≡ Ok (length xs) = h ∙ rw (le-ltb m (length xs) (omega arith)) refl in
          let z : ◌≡◌ {A = ℕ} 0 1 = cc in absurd (omega arith)
      go (refuses w) p h = let k : w ≡ r = cc in p ∙ ap refuses k

  -- the method line
  pub method_refused : begun_by s ≡ Err r
  unfolding begun_by method_named
  method_refused = rw read_refused refl

  -- a line of keys
  pub keys_refused : (i : InputMethod) → line_out i s ≡ refused_line r
  unfolding line_out keys_line
  keys_refused i = rw read_refused refl

module _ (s o : List ℕ) (g : Result ℕ Refusal) (e : g ≡ answer (reading s) (length o)) (l : length o ≡ byte_limit) where
  read_whole : (n : ℕ) (out : List ℕ) → g ≡ Ok n → out ≡ output (reading s) o → (reading s ≡ writes (take n out)) × (n ≤ byte_limit)
  unfolding answer content output
  read_whole n out q f = go (reading s) refl (sym q ∙ e) f
    where
      go : (u : Outcome) → reading s ≡ u → Ok n ≡ answer u (length o) → out ≡ output u o
          → (reading s ≡ writes (take n out)) × (n ≤ byte_limit)
      go (writes xs) p h w =
          let k = (read_small s xs p).0 in
          let m : length xs ≤ length o = omega arith in
          let d : Ok n ≡ Ok (length xs) = h ∙ rw (le-ltb (length o) (length xs) m) refl in
          let c : n ≡ length xs = cc in
          let v : out ≡ onto xs o = w ∙ rw (le-ltb (length o) (length xs) m) refl in
          (p ∙ ap writes (sym (rw v (take_at xs (drop (length xs) o) n (sym c)))), omega arith)
      go (refuses w) p h f = let z : ◌≡◌ {A = ℕ} 0 1 = cc in absurd (omega arith)

  pub read_done : (n : ℕ) (out : List ℕ) → g ≡ Ok n → out ≡ output (reading s) o → reading s ≡ writes (take n out)
  read_done n out q f = (read_whole n out q f).0

  module _ (n : ℕ) (out xs : List ℕ) (q : g ≡ Ok n) (f : out ≡ output (reading s) o) (k : xs ≡ take n out) where
    pub method_read : begun_by s ≡ method_named (writes xs)
    unfolding begun_by
    method_read = rw (read_done n out q f, k) refl

    -- a line of keys
    pub keys_letters : all_letters xs ≡ true
    keys_letters = rw k (read_small s (take n out) (read_done n out q f)).1

    pub keys_read : (m : InputMethod) → line_out m s ≡ made_line (at_first m) (keys_made (at_first m) [] xs)
    unfolding line_out keys_line
    keys_read m = rw (read_done n out q f, k) refl
