-- How the code holds things: no sentence of document 01 stands here, and no promise to a host leads here.
use Rattle.std.specs.Prelude.{ℕ, Option, None, Some, Result, Ok, Err, eqb}
use Rattle.p0_choice.specs.Choice.{pick}
use Rattle.p0_refusals.specs.declared.Refusal.{Refusal}
use Rattle.p0_refusals.specs.declared.Refusal.TheVariants.{Unsound}
use Rattle.p2_input_method.specs.Rules.{mark_for}
use Rattle.p2_input_method.specs.declared.InputMethod.{InputMethod}
use Rattle.p2_input_method.specs.declared.InputMethod.TheVariants.{Telex, Vni}
use Rattle.p2_input_method.specs.declared.MarkRule.{MarkRule}

-- the letter that base and key make, where they make one
unfoldable pub mark_found : InputMethod → ℕ → ℕ → Option ℕ
mark_found m b k = pick (eqb (mark_for m b k) 0) None (Some (mark_for m b k))

-- the method that a host names by a number; one that is none is refused as what is not sound
unfoldable pub method_numbered : ℕ → Result InputMethod Refusal
method_numbered n = pick (eqb n 0) (Ok Telex) (pick (eqb n 1) (Ok Vni) (Err Unsound))

-- what stands past the last rule
abbrev pub no_rule : MarkRule
no_rule = record { first = 0; key = 0; result = 0 }
