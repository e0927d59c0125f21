-- Document 01: "A literal is appended in either mode", and "a literal .. write[s] nothing". Its refusals in their order: 10,
-- 1, 2.
use Rattle.std.specs.Prelude.{ℕ, [], ◌∷◌, ◌++◌, ltb, length}
use Rattle.p0_choice.specs.Choice.{pick}
use Rattle.p0_refusals.specs.Answers.{Outcome, writes, refuses, answer}
use Rattle.p0_refusals.specs.declared.Refusal.TheVariants.{Foreign, Full, Unsound}
use Rattle.p1_letters.specs.Alphabet.{in_alphabet}
use Rattle.p3_cells.specs.Cells.{limit, typed, is_sound, used, holding}
use Rattle.p3_cells.specs.Leaving.{leaving}
use Rattle.p3_cells.specs.declared.After.{After}
use Rattle.p3_cells.specs.declared.Composition.{Composition}

unfoldable pub literal_outcome : Composition → ℕ → Outcome
literal_outcome c ch =
    pick (is_sound c)
    (pick (in_alphabet ch) (pick (ltb (length (used c)) limit) (writes []) (refuses Full)) (refuses Foreign))
    (refuses Unsound)

unfoldable pub literal : Composition → ℕ → After
literal c ch = leaving (answer (literal_outcome c ch) 0) c (holding c (used c ++ (typed ch ∷ [])))
