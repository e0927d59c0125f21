-- What is to be written decides answer and output: first the refusals of the letters or bytes, then the room.
use Rattle.std.specs.Prelude.{Err, Ok, Result}
use Prim.Native.Nat.{ℕ, ◌<◌, ◌≤◌}
use mathlib.Core.Path.{◌≡◌, refl, sym, ap, ◌∙◌}
use mathlib.Core.List.{List}
use native.Mathlib.Omega.{arith}
use lib.ListN.{length}
use Rattle.p0_choice.proofs.Choices.{picks}
use Rattle.p0_refusals.specs.declared.Refusal.{Refusal}
use Rattle.p0_refusals.specs.declared.Refusal.TheVariants.{Short}
use Rattle.p0_refusals.specs.Answers.{Outcome, writes, refuses, content, answer, onto, output}
use Rattle.p0_refusals.specs.Mirror.{counted}

-- ---- a call, given what it has to write
module _ (w : Outcome) (r : Refusal) (q : w ≡ refuses r) where
  pub refuses_answer : (n : ℕ) → Err r ≡ answer w n
  unfolding answer
  refuses_answer n = rw q refl

  pub refuses_output : (o : List ℕ) → o ≡ output w o
  unfolding output
  refuses_output o = rw (← refuses_answer (length o)) refl

module _ (w : Outcome) (xs : List ℕ) (q : w ≡ writes xs) where
  pub short_answer : (n : ℕ) → n < length xs → Err Short ≡ answer w n
  unfolding answer
  short_answer n h = rw q (search picks)

  pub short_output : (o : List ℕ) → length o < length xs → o ≡ output w o
  unfolding output
  short_output o h = rw (← short_answer (length o) h) refl

  pub writes_answer : (n k : ℕ) → length xs ≤ n → k ≡ length xs → Ok k ≡ answer w n
  unfolding answer
  writes_answer n k h e = rw (q, e) (search picks)

  pub writes_output : (o out : List ℕ) → length xs ≤ length o → out ≡ onto xs o → out ≡ output w o
  unfolding output content
  writes_output o out h f = rw (← writes_answer (length o) (length xs) h refl, q) f

-- the count is there exactly if there is something to write
pub counted_done : (u : Outcome) (n : ℕ) → counted u ≡ Ok n → (u ≡ writes (content u)) × (n ≡ length (content u))
unfolding counted content
counted_done (writes xs) n e = (refl, cc)
counted_done (refuses r) n e = let z : ◌≡◌ {A = ℕ} 0 1 = cc in absurd (omega arith)

pub counted_refused : (u : Outcome) (r : Refusal) → counted u ≡ Err r → u ≡ refuses r
unfolding counted
counted_refused (writes xs) r e = let z : ◌≡◌ {A = ℕ} 0 1 = cc in absurd (omega arith)
counted_refused (refuses q) r e = let k : q ≡ r = cc in ap refuses k

-- ---- a call, given its count v
module _ (u : Outcome) (v : Result ℕ Refusal) (e : v ≡ counted u) where
  module _ (r : Refusal) (q : v ≡ Err r) where
    pub call_refused : (m : ℕ) → Err r ≡ answer u m
    call_refused m = refuses_answer u r (counted_refused u r (sym e ∙ q)) m

    pub kept_refused : (o : List ℕ) → o ≡ output u o
    kept_refused o = refuses_output u r (counted_refused u r (sym e ∙ q)) o

  module _ (n : ℕ) (q : v ≡ Ok n) where
    pub call_writes : u ≡ writes (content u)
    call_writes = (counted_done u n (sym e ∙ q)).0

    count : n ≡ length (content u)
    count = (counted_done u n (sym e ∙ q)).1

    pub call_room : (m : ℕ) → n ≤ m → length (content u) ≤ m
    call_room m h = omega (arith, count)

    pub call_short : (m : ℕ) → m < n → Err Short ≡ answer u m
    call_short m h = short_answer u (content u) call_writes m (omega (arith, count))

    pub kept_short : (o : List ℕ) → length o < n → o ≡ output u o
    kept_short o h = short_output u (content u) call_writes o (omega (arith, count))

    pub call_done : (m : ℕ) → n ≤ m → Ok n ≡ answer u m
    call_done m h = writes_answer u (content u) call_writes m n (call_room m h) count

    pub output_done : (o out : List ℕ) → n ≤ length o → out ≡ onto (content u) o → out ≡ output u o
    output_done o out h f = writes_output u (content u) call_writes o out (call_room (length o) h) f

-- every way out of a call but what it lends to the function that writes, and what that leaves
pub ruleset call = (call_refused, kept_refused, call_short, kept_short, call_done)
