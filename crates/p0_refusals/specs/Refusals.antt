-- Document 01's table of refusals, and what requests of document 02 add to it: the number of each.
use Rattle.std.specs.Prelude.{ℕ}
use Rattle.p0_refusals.specs.declared.Refusal.{Refusal}
use Rattle.p0_refusals.specs.declared.Refusal.TheVariants.{Foreign, Full, Short, Empty, NoUndo, Long, NoWord, Malformed, NoMethod}
use Rattle.p0_refusals.specs.declared.Refusal.TheVariants.{Unsound, NoDraft}

abbrev pub number_of : Refusal → ℕ
number_of Foreign = 1
number_of Full = 2
number_of Short = 3
number_of Empty = 4
number_of NoUndo = 5
number_of Long = 6
number_of NoWord = 7
number_of Malformed = 8
number_of NoMethod = 9
number_of Unsound = 10
-- 2026-02: "11 .. exactly when the bytes are no such form of a sound composition"
number_of NoDraft = 11
