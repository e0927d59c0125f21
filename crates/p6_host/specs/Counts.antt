-- How much was written goes into a lent number, which a refusal leaves as it was.
use Rattle.p0_refusals.specs.declared.Refusal.{Refusal}
use Rattle.std.specs.Prelude.{ℕ, eqb, Err, Ok, Result}
use Rattle.p0_choice.specs.Choice.{pick}

abbrev pub count_out : Result ℕ Refusal → ℕ → ℕ
count_out (Ok n) old = n
count_out (Err r) old = old

-- So does what becomes of an undo's trigger: 0 append, 1 consume.
abbrev pub behaviour_out : Result ℕ Refusal → ℕ → ℕ
behaviour_out (Ok n) old = pick (eqb n 0) 0 1
behaviour_out (Err r) old = old
