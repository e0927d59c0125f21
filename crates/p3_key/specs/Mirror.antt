-- How the code holds things: no sentence of document 01 stands here, and no promise to a host leads here.
-- How the code holds what a key does: the step, or nothing where it is refused, with how many letters are written and the
-- answer. That this is document 01's answer is proved (proofs/Right).
use Rattle.std.specs.Prelude.{ℕ, Bool, true, false, List, ltb, eqb, Err, Ok, Result}
use Rattle.p0_choice.specs.Choice.{pick}
use Rattle.p0_refusals.specs.declared.Refusal.{Refusal}
use Rattle.p0_refusals.specs.declared.Refusal.TheVariants.{Foreign, Full, Short, Unsound}
use Rattle.p1_letters.specs.Alphabet.{in_alphabet, ascii_lower}
use Rattle.p3_cells.specs.Cells.{limit}
use Rattle.p3_cells.specs.Text.{shown}
use Rattle.p3_cells.specs.declared.Cell.{Cell}
use Rattle.p3_cells.specs.declared.Settings.{Settings}
use Rattle.p3_step.specs.Mirror.{still, step_of}
use Rattle.p3_step.specs.declared.Step.{Step}
use Rattle.p3_key.specs.Process.{in_mode}
use Rattle.p3_key.specs.declared.Stroke.{Stroke}

-- the test of soundness by the sum of its faults, where it is not trusted
unfoldable pub sound_by : Bool → ℕ → ℕ → Bool
sound_by trusted n faults = pick trusted true (pick (ltb limit n) false (eqb faults 0))

-- the letter that is written for a cell
unfoldable pub letter_for : Settings → ℕ → Cell → ℕ
letter_for z key x = in_mode z.mode (shown z.capitals x) key

-- ---- the step with the refusals; n cells are used, and the output has room letters
abbrev pub stays : ℕ → ℕ → Result ℕ Refusal → Stroke
stays n letters answer = record { step = still n; letters = letters; answer = answer }

abbrev pub no_stroke : Refusal → ℕ → Stroke
no_stroke r n = stays n 0 (Err r)

-- the key alone is written, or the letters of all cells
abbrev pub wrote_key : ℕ → Stroke
wrote_key n = stays n 1 (Ok 1)

abbrev pub wrote : Step → Stroke
wrote s = record { step = s; letters = s.count; answer = Ok s.count }

unfoldable pub step_stroke : Step → ℕ → ℕ → Stroke
step_stroke s n room = pick (ltb limit s.count) (no_stroke Full n) (pick (ltb room s.count) (no_stroke Short n) (wrote s))

unfoldable pub pass_stroke : ℕ → ℕ → Stroke
pass_stroke n room = pick (ltb room 1) (no_stroke Short n) (wrote_key n)

unfoldable pub stroke_of : Bool → Settings → List Cell → ℕ → ℕ → ℕ → Stroke
stroke_of sound z cs key n room =
    pick sound (pick (in_alphabet key) (in_mode z.mode (step_stroke (step_of z cs (ascii_lower key)) n room) (pass_stroke n room))
    (no_stroke Foreign n))
    (no_stroke Unsound n)
