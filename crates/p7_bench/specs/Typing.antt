-- A note typed under Telex: the composition at hand, the text that the keys so far left, and how many of them were refused.
use Rattle.p0_refusals.specs.declared.Refusal.{Refusal}
use Rattle.std.specs.Prelude.{ℕ, ◌+◌, List, length, eqb, Err, Ok, Result}
use Rattle.p0_choice.specs.Choice.{pick}
use Rattle.p0_choice.specs.Text.{line_end}
use Rattle.p2_input_method.specs.declared.InputMethod.TheVariants.{Telex}
use Rattle.p0_refusals.specs.Answers.{output}
use Rattle.p3_calls.specs.Settings.{created}
use Rattle.p3_cells.specs.declared.Composition.{Composition}
use Rattle.p3_key.specs.Process.{key_outcome, keyed}

pub record Typed : Type 0 where
  pub comp : Composition
  pub text : List ℕ
  pub refused : ℕ

abbrev pub refusals_of : Result ℕ Refusal → ℕ
refusals_of (Ok n) = 0
refusals_of (Err r) = 1

-- a line end starts afresh
unfoldable pub type_key : Typed → ℕ → Typed
type_key t k =
    pick (eqb k line_end) (record { comp = created Telex; text = t.text; refused = t.refused })
    (record {
      comp = (keyed t.comp k (length t.text)).comp;
      text = output (key_outcome t.comp k) t.text;
      refused = t.refused + refusals_of (keyed t.comp k (length t.text)).answer;
    })

unfoldable pub fresh : List ℕ → Typed
fresh text = record { comp = created Telex; text = text; refused = 0 }
