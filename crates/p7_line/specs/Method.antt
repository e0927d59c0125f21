-- Document 01: "a method line"; "9: first line of the program is neither `telex` nor `vni`", and "9 follows" 8 and 1.
use Rattle.std.specs.Prelude.{ℕ, List, Result, Ok, Err}
use Rattle.p0_choice.specs.Choice.{pick}
use Rattle.p0_choice.specs.Text.{word}
use Rattle.p0_refusals.specs.declared.Refusal.{Refusal}
use Rattle.p0_refusals.specs.declared.Refusal.TheVariants.{NoMethod}
use Rattle.p2_input_method.specs.declared.InputMethod.{InputMethod}
use Rattle.p2_input_method.specs.declared.InputMethod.TheVariants.{Telex, Vni}
use Rattle.p4_rows.specs.Lookup.{same_word}
use Rattle.p0_refusals.specs.Answers.{Outcome, writes, refuses}
use Rattle.p5_utf8_text.specs.Read.{reading}

unfoldable pub method_named : Outcome → Result InputMethod Refusal
method_named (writes name) =
    pick (same_word name (word "telex")) (Ok Telex) (pick (same_word name (word "vni")) (Ok Vni) (Err NoMethod))
method_named (refuses r) = Err r

unfoldable pub begun_by : List ℕ → Result InputMethod Refusal
begun_by line = method_named (reading line)
