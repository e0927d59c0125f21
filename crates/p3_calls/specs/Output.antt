-- Document 01: "Key, text and removal write the text as code points". The text's refusals are 10 and 3, the removal's 10,
-- 4 and 3.
use Rattle.std.specs.Prelude.{ℕ, ◌-◌, List, eqb, length, take}
use Rattle.p0_choice.specs.Choice.{pick}
use Rattle.p0_refusals.specs.Answers.{Outcome, writes, refuses, answer}
use Rattle.p0_refusals.specs.declared.Refusal.TheVariants.{Empty, Unsound}
use Rattle.p3_cells.specs.Cells.{is_sound, used, holding}
use Rattle.p3_cells.specs.Leaving.{leaving}
use Rattle.p3_cells.specs.Text.{text_of}
use Rattle.p3_cells.specs.declared.Cell.{Cell}
use Rattle.p3_cells.specs.declared.After.{After}
use Rattle.p3_cells.specs.declared.Composition.{Composition}

-- ---- text
unfoldable pub text_outcome : Composition → Outcome
text_outcome c = pick (is_sound c) (writes (text_of c.settings.capitals (used c))) (refuses Unsound)

-- ---- removal
-- "Removing the last cell blanks it."
unfoldable pub left : Composition → List Cell
left c = take (length (used c) - 1) (used c)

-- "4: last cell to be removed, none there"
unfoldable pub removal_outcome : Composition → Outcome
removal_outcome c =
    pick (is_sound c) (pick (eqb (length (used c)) 0) (refuses Empty) (writes (text_of c.settings.capitals (left c)))) (refuses Unsound)

-- what it leaves, where the output has n places
unfoldable pub removed : Composition → ℕ → After
removed c n = leaving (answer (removal_outcome c) n) c (holding c (left c))
