-- What C is told of a cut and of a verdict; a refusal leaves the lent places as they were.
use Rattle.std.specs.Prelude.{ℕ, Bool, Result, Ok, Err}
use Rattle.p0_choice.specs.Choice.{pick}
use Rattle.p0_refusals.specs.declared.Refusal.{Refusal}
use Rattle.p4_spelling.specs.declared.CutPlaces.{CutPlaces}

-- where the onset ends
abbrev pub onset_out : Result CutPlaces Refusal → ℕ → ℕ
onset_out (Ok p) old = p.onset
onset_out (Err r) old = old

-- where the vowels end
abbrev pub vowels_out : Result CutPlaces Refusal → ℕ → ℕ
vowels_out (Ok p) old = p.vowels
vowels_out (Err r) old = old

-- yes is 1, no is 0
abbrev pub verdict_out : Result Bool Refusal → ℕ → ℕ
verdict_out (Ok b) old = pick b 1 0
verdict_out (Err r) old = old
