-- How the code holds things: no sentence of document 01 stands here, and no promise to a host leads here.
use Rattle.std.specs.Prelude.{ℕ, Bool, List}
use Rattle.p0_choice.specs.Choice.{among}
use Rattle.p0_choice.specs.Text.{word}
use Rattle.p2_input_method.specs.declared.InputMethod.{InputMethod}
use Rattle.p2_input_method.specs.declared.InputMethod.TheVariants.{Telex, Vni}

-- the tone keys, and the keys of the mark rules
unfoldable pub act_keys : InputMethod → List ℕ
act_keys Telex = word "fsrxjadeow"
act_keys Vni = word "123456789"

-- a key, in lower case, that may do something else than be appended
unfoldable pub acts : InputMethod → ℕ → Bool
acts m k = among k (act_keys m)
