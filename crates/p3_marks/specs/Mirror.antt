-- How the code holds things: no sentence of document 01 stands here, and no promise to a host leads here.
use Rattle.std.specs.Prelude.{ℕ, Bool, List, [], ◌∷◌}
use Rattle.p0_choice.specs.Choice.{among}
use Rattle.p2_input_method.specs.Rules.{mark_rules}
use Rattle.p2_input_method.specs.declared.MarkRule.{MarkRule}
use Rattle.p2_input_method.specs.declared.InputMethod.{InputMethod}

-- the keys of mark rules
unfoldable pub mark_keys : List MarkRule → List ℕ
mark_keys [] = []
mark_keys (r ∷ rs) = r.key ∷ mark_keys rs

unfoldable pub is_mark_key : InputMethod → ℕ → Bool
is_mark_key m k = among k (mark_keys (mark_rules m))
