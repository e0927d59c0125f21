-- Document 01: a new composition, the reset and the settings, that of request 2026-01 too. They "write nothing"; each refuses a
-- composition that is not sound, by 10, and has no other refusal.
use Rattle.std.specs.Prelude.{Bool, []}
use Rattle.p0_choice.specs.Choice.{pick}
use Rattle.p0_refusals.specs.Answers.{Outcome, writes, refuses, answer}
use Rattle.p0_refusals.specs.declared.Refusal.TheVariants.{Unsound}
use Rattle.p2_input_method.specs.declared.InputMethod.{InputMethod}
use Rattle.p3_cells.specs.Cells.{is_sound, used, composed}
use Rattle.p3_cells.specs.Settings.{at_first, with_method, with_mode, with_capitals}
use Rattle.p3_cells.specs.declared.Composition.{Composition}
use Rattle.p3_cells.specs.declared.Mode.TheVariants.{Vietnamese, English}
use Rattle.p3_cells.specs.Leaving.{leaving}
use Rattle.p3_cells.specs.declared.After.{After}

-- a new composition: no cells
unfoldable pub created : InputMethod → Composition
created m = composed (at_first m) []

-- "10: composition not sound"
unfoldable pub settled : Composition → Outcome
settled c = pick (is_sound c) (writes []) (refuses Unsound)

-- "A reset empties the cells and keeps all else"
unfoldable pub reset_to : Composition → After
reset_to c = leaving (answer (settled c) 0) c (composed c.settings [])

-- "setting the method empties them and keeps the mode"
unfoldable pub method_set : Composition → InputMethod → After
method_set c m = leaving (answer (settled c) 0) c (composed (with_method c.settings m) [])

-- "Turning to English empties them, always; turning to Vietnamese empties nothing."
unfoldable pub turned : Composition → Bool → Composition
turned c on = pick on (composed (with_mode c.settings Vietnamese) (used c)) (composed (with_mode c.settings English) [])

unfoldable pub enabled_set : Composition → Bool → After
enabled_set c on = leaving (answer (settled c) 0) c (turned c on)

-- 2026-01, capitals: "Changing it leaves the cells. .. Refusals: none new."
unfoldable pub capitals_set : Composition → Bool → After
capitals_set c on = leaving (answer (settled c) 0) c (composed (with_capitals c.settings on) (used c))
