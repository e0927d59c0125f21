-- Document 01: "Undo (trigger t in lower case, raw string): only under Telex." Over the cells in use.
use Rattle.std.specs.Prelude.{ℕ, zero, suc, Bool, false, List, [], ◌∷◌, eqb, length, get_or, set, None, Option, Some}
use Rattle.p0_choice.specs.Choice.{pick}
use Rattle.p1_letters.specs.Alphabet.{ascii_upper}
use Rattle.p2_input_method.specs.Rules.{mark_rules}
use Rattle.p2_input_method.specs.declared.InputMethod.{InputMethod}
use Rattle.p2_input_method.specs.declared.InputMethod.TheVariants.{Telex, Vni}
use Rattle.p2_input_method.specs.declared.MarkRule.{MarkRule}
use Rattle.p3_cells.specs.Cells.{blank}
use Rattle.p3_cells.specs.Place.{place_or}
use Rattle.p3_cells.specs.declared.Cell.{Cell}
use Rattle.p3_undo.specs.Raw.{ends_in, active}
use Rattle.p3_undo.specs.declared.Undoing.{Undoing}
use Rattle.p3_undo.specs.declared.Undoing.TheVariants.{Tone, Mark}

-- the last of the first n cells that passes a test
unfoldable pub last_with : (Cell → Bool) → List Cell → ℕ → Option ℕ
last_with p cs zero = None
last_with p cs (suc i) = pick (p (get_or cs i blank)) (Some i) (last_with p cs i)

-- a cell "with tone t"; 0 stands for none, and U+0000 is a letter that can be the trigger
unfoldable pub has_tone : ℕ → Cell → Bool
has_tone t x = pick (eqb t 0) false (eqb x.tone t)

-- a cell "with that mark and no tone"
unfoldable pub has_mark : ℕ → Cell → Bool
has_mark m x = pick (eqb x.mark m) (eqb x.tone 0) false

-- a rule "ending in t .. whose last occurrence in the lowered raw string has none of a e i o u y after it: the last cell
-- with that mark and no tone"
unfoldable pub rule_at : List Cell → List ℕ → ℕ → MarkRule → Option ℕ
rule_at cs raw t r =
    pick (eqb r.key t) (pick (active raw r.first r.key) (last_with (has_mark r.result) cs (length cs)) None) None

-- "each mark rule .. in order", "No such cell: next rule."
unfoldable pub by_rules : List Cell → List ℕ → ℕ → List MarkRule → Option Undoing
by_rules cs raw t [] = None
by_rules cs raw t (r ∷ rs) = place_or (rule_at cs raw t r) (λ i. Some (Mark i r)) (by_rules cs raw t rs)

-- "If the raw string ends in t, either case, the last cell with tone t [..] Otherwise each mark rule"
unfoldable pub tone_at : List Cell → List ℕ → ℕ → Option ℕ
tone_at cs raw t = pick (ends_in raw t) (last_with (has_tone t) cs (length cs)) None

-- "only under Telex"; "VNI has none."
unfoldable pub to_undo : InputMethod → List Cell → List ℕ → ℕ → Option Undoing
to_undo Telex cs raw t = place_or (tone_at cs raw t) (λ i. Some (Tone i)) (by_rules cs raw t (mark_rules Telex))
to_undo Vni cs raw t = None

-- "loses it"
unfoldable pub tone_lost : Cell → Cell
tone_lost x = record { base = x.base; mark = x.mark; tone = 0; upper = x.upper }

-- "gets the rule's first letter back, capital if flagged, mark gone"
unfoldable pub restored : ℕ → Cell → Cell
restored a x = record { base = pick x.upper (ascii_upper a) a; mark = 0; tone = x.tone; upper = x.upper }

-- the cells after it
unfoldable pub undone : List Cell → Undoing → List Cell
undone cs (Tone i) = set cs i (tone_lost (get_or cs i blank))
undone cs (Mark i r) = set cs i (restored r.first (get_or cs i blank))
