-- What C is told of a line; a refusal leaves the lent places as they were.
use Rattle.std.specs.Prelude.{ℕ, Result, Ok, Err}
use Rattle.p0_refusals.specs.declared.Refusal.{Refusal}
use Rattle.p4_note_line.specs.declared.Report.{Report}

-- how many words
abbrev pub words_out : Result Report Refusal → ℕ → ℕ
words_out (Ok n) old = n.words
words_out (Err r) old = old

-- how many of them are judged no
abbrev pub no_out : Result Report Refusal → ℕ → ℕ
no_out (Ok n) old = n.noes
no_out (Err r) old = old

-- where the first of these begins, or the line's length
abbrev pub first_out : Result Report Refusal → ℕ → ℕ
first_out (Ok n) old = n.first
first_out (Err r) old = old
