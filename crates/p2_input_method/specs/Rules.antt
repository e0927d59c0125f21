-- Document 01, "Port order", 2: "tone keys as just given. Mark rules, in order".
use Rattle.std.specs.Prelude.{ℕ, Bool, List, [], ◌∷◌, eqb, get_or}
use Prim.Native.Char.{code}
use Prim.Native.String.{String}
use Rattle.p0_choice.specs.Choice.{pick, among}
use Rattle.p0_choice.specs.Text.{word}
use Rattle.p2_input_method.specs.declared.InputMethod.{InputMethod}
use Rattle.p2_input_method.specs.declared.InputMethod.TheVariants.{Telex, Vni}
use Rattle.p2_input_method.specs.declared.MarkRule.{MarkRule}

-- "sắc (s, 1), huyền (f, 2), hỏi (r, 3), ngã (x, 4), nặng (j, 5)"
unfoldable pub tone_keys : InputMethod → List ℕ
tone_keys Telex = word "fsrxj"
tone_keys Vni = word "12345"

unfoldable pub is_tone_key : InputMethod → ℕ → Bool
is_tone_key m k = among k (tone_keys m)

-- a rule's pattern, its first letter and its key; the letter that it makes
unfoldable pub mark_rule : String → String → MarkRule
mark_rule pattern result =
    record { first = get_or (word pattern) 0 0; key = get_or (word pattern) 1 0; result = get_or (word result) 0 0 }

-- "Telex aw aa ee oo ow uw dd; VNI a6 e6 o6 o7 u7 a8 d9."
unfoldable pub mark_rules : InputMethod → List MarkRule
mark_rules Telex =
    mark_rule "aw" "ă" ∷
    mark_rule "aa" "â" ∷
    mark_rule "ee" "ê" ∷
    mark_rule "oo" "ô" ∷
    mark_rule "ow" "ơ" ∷
    mark_rule "uw" "ư" ∷
    mark_rule "dd" "đ" ∷
    []
mark_rules Vni =
    mark_rule "a6" "â" ∷
    mark_rule "e6" "ê" ∷
    mark_rule "o6" "ô" ∷
    mark_rule "o7" "ơ" ∷
    mark_rule "u7" "ư" ∷
    mark_rule "a8" "ă" ∷
    mark_rule "d9" "đ" ∷
    []

-- the result of the first rule whose pattern is the base b with the key k; 0 where there is none
unfoldable pub mark_in : List MarkRule → ℕ → ℕ → ℕ
mark_in [] b k = 0
mark_in (r ∷ rs) b k = pick (eqb b r.first) (pick (eqb k r.key) r.result (mark_in rs b k)) (mark_in rs b k)

unfoldable pub mark_for : InputMethod → ℕ → ℕ → ℕ
mark_for m b k = mark_in (mark_rules m) b k

-- "Telex w, VNI 7": the key of the uo and ua steps
unfoldable pub is_horn_key : InputMethod → ℕ → Bool
is_horn_key Telex k = eqb k (code "w")
is_horn_key Vni k = eqb k (code "7")
