-- Document 01: the key call, with its refusals in their order, "10, .. then 1 .., then 2, .. last 3".
use Rattle.std.specs.Prelude.{ℕ, Bool, false, List, [], ◌∷◌, ltb, length}
use Rattle.p0_choice.specs.Choice.{pick}
use Rattle.p0_refusals.specs.Answers.{Outcome, writes, refuses, answer}
use Rattle.p0_refusals.specs.declared.Refusal.TheVariants.{Foreign, Full, Unsound}
use Rattle.p1_letters.specs.Alphabet.{in_alphabet}
use Rattle.p3_cells.specs.Cells.{limit, is_sound, used, holding}
use Rattle.p3_cells.specs.Text.{text_of}
use Rattle.p3_cells.specs.Leaving.{leaving}
use Rattle.p3_cells.specs.declared.Cell.{Cell}
use Rattle.p3_cells.specs.declared.After.{After}
use Rattle.p3_cells.specs.declared.Composition.{Composition}
use Rattle.p3_cells.specs.declared.Mode.{Mode}
use Rattle.p3_cells.specs.declared.Mode.TheVariants.{Vietnamese, English}
use Rattle.p3_step.specs.Key.{key_cells}

abbrev pub in_mode : {A : Type 0} → Mode → A → A → A
in_mode Vietnamese a b = a
in_mode English a b = b

-- the cells after the key
unfoldable pub next_cells : Composition → ℕ → List Cell
next_cells c key = key_cells c.settings (used c) key

-- what is written: the text, and "in English mode .. that one letter"
unfoldable pub written_for : Composition → ℕ → List ℕ
written_for c key = in_mode c.settings.mode (text_of c.settings.capitals (next_cells c key)) (key ∷ [])

-- "a letter must be appended and [all] cells are used", of which request 2026-05 makes 96: then there would be one more
unfoldable pub is_full : Composition → ℕ → Bool
is_full c key = in_mode c.settings.mode (ltb limit (length (next_cells c key))) false

-- what there is to write, or the refusal
unfoldable pub key_outcome : Composition → ℕ → Outcome
key_outcome c key =
    pick (is_sound c) (pick (in_alphabet key) (pick (is_full c key) (refuses Full) (writes (written_for c key))) (refuses Foreign))
    (refuses Unsound)

-- the composition after a key that is not refused; English mode: "nothing changes"
unfoldable pub key_next : Composition → ℕ → Composition
key_next c key = in_mode c.settings.mode (holding c (next_cells c key)) c

-- what the key leaves, where the output has n places
unfoldable pub keyed : Composition → ℕ → ℕ → After
keyed c key n = leaving (answer (key_outcome c key) n) c (key_next c key)
