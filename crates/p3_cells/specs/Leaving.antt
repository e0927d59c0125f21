-- Document 01, "A refusal returns its number; the composition and lent outputs stay as they were": what a call leaves.
use Rattle.std.specs.Prelude.{ℕ, Err, Result}
use Rattle.p0_refusals.specs.Answers.{unless}
use Rattle.p0_refusals.specs.declared.Refusal.{Refusal}
use Rattle.p3_cells.specs.declared.Composition.{Composition}
use Rattle.p3_cells.specs.declared.After.{After}

-- c before, d where the call is done
unfoldable pub leaving : Result ℕ Refusal → Composition → Composition → After
leaving a c d = record { comp = unless a c d; answer = a }

abbrev pub refusing : Composition → Refusal → After
refusing c r = record { comp = c; answer = Err r }
