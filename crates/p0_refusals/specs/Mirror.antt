-- How the code holds things: no sentence of document 01 stands here, and no promise to a host leads here.
use Rattle.p0_refusals.specs.declared.Refusal.{Refusal}
use Rattle.std.specs.Prelude.{ℕ, length, Err, Ok, Result}
use Rattle.p0_refusals.specs.Answers.{writes, refuses, Outcome}

-- the answer if any output is long enough
unfoldable pub counted : Outcome → Result ℕ Refusal
counted (writes xs) = Ok (length xs)
counted (refuses r) = Err r
