-- Document 01, "A refusal returns its number; .. An answer is written from the start of the output": what a call answers
-- and leaves in the lent output, given what there is to write.
use Rattle.std.specs.Prelude.{ℕ, List, [], ◌++◌, ltb, length, drop, Err, Ok, Result}
use Rattle.p0_choice.specs.Choice.{pick}
use Rattle.p0_refusals.specs.declared.Refusal.{Refusal}
use Rattle.p0_refusals.specs.declared.Refusal.TheVariants.{Short}
use Rattle.p0_refusals.specs.Refusals.{number_of}

-- "A refusal returns its number"; 0 where the call is done.
abbrev pub refusal_of : Result ℕ Refusal → ℕ
refusal_of (Ok n) = 0
refusal_of (Err r) = number_of r

-- What a call has to write, if nothing but the output's length is against it.
pub data Outcome : Type 0 where
  writes : List ℕ → Outcome
  refuses : Refusal → Outcome

-- the letters or bytes to be written
unfoldable pub content : Outcome → List ℕ
content (writes xs) = xs
content (refuses r) = []

-- The answer with so much room lent. "3: the lent output is shorter than the answer", and 3 comes last.
unfoldable pub answer : Outcome → ℕ → Result ℕ Refusal
answer (writes xs) room = pick (ltb room (length xs)) (Err Short) (Ok (length xs))
answer (refuses r) room = Err r

-- "A refusal returns its number; the composition and lent outputs stay as they were": the old, or the new if the call is done.
abbrev pub unless : {A : Type 0} → Result ℕ Refusal → A → A → A
unless (Ok n) old new = new
unless (Err r) old new = old

-- "An answer is written from the start of the output; the rest of it keeps its values."
abbrev pub onto : List ℕ → List ℕ → List ℕ
onto xs o = xs ++ drop (length xs) o

-- The lent output at the end.
unfoldable pub output : Outcome → List ℕ → List ℕ
output w o = unless (answer w (length o)) o (onto (content w) o)
