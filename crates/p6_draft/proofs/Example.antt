-- The drafts that docs/DRAFTS.md takes apart, and one more: no two of the fields, and no two parts of a cell, are the same in all three.
use mathlib.Core.Path.{◌≡◌, refl}
use mathlib.Core.Bool.{true, false}
use mathlib.Core.List.{List, [], ◌∷◌}
use Rattle.p2_input_method.specs.declared.InputMethod.TheVariants.{Telex, Vni}
use Rattle.p3_cells.specs.Cells.{used, composed}
use Rattle.p3_cells.specs.Settings.{at_first, with_capitals}
use Rattle.p3_cells.specs.declared.Cell.{Cell}
use Rattle.p6_draft.specs.Draft.{field, mark_byte, draft_cell, fields, draft_of}

-- the Telex keys dad, which are đ and a
abbrev đa : List Cell
đa =
    record { base = 0x111; mark = 0x111; tone = 0; upper = false } ∷ record { base = 0x61; mark = 0; tone = 0; upper = false } ∷ []

pub dad_draft : draft_of (composed (at_first Telex) đa)
    ≡ 1 ∷ 0 ∷ 1 ∷ 0
    ∷ 2 ∷ 0 ∷ 1 ∷ 0
    ∷ 3 ∷ 0 ∷ 14 ∷ 0 ∷ 0 ∷ 1 ∷ 0x11 ∷ 1 ∷ 0 ∷ 0 ∷ 0 ∷ 0 ∷ 0 ∷ 0x61 ∷ 0 ∷ 0 ∷ 0
    ∷ 4 ∷ 0 ∷ 1 ∷ 0 ∷ []
unfolding draft_of fields field draft_cell mark_byte used composed
dad_draft = refl

-- the Telex keys Aas with capitals on, which are Ấ
abbrev ấ : List Cell
ấ = record { base = 0xe2; mark = 0xe2; tone = 0x73; upper = true } ∷ []

pub aas_draft : draft_of (composed (with_capitals (at_first Telex) true) ấ)
    ≡ 1 ∷ 0 ∷ 1 ∷ 0
    ∷ 2 ∷ 0 ∷ 1 ∷ 0
    ∷ 3 ∷ 0 ∷ 7 ∷ 0 ∷ 0 ∷ 0 ∷ 0xe2 ∷ 1 ∷ 0x73 ∷ 1
    ∷ 4 ∷ 0 ∷ 1 ∷ 1 ∷ []
unfolding draft_of fields field draft_cell mark_byte used composed
aas_draft = refl

-- no keys under VNI
pub vni_draft : draft_of (composed (at_first Vni) [])
    ≡ 1 ∷ 0 ∷ 1 ∷ 1
    ∷ 2 ∷ 0 ∷ 1 ∷ 0
    ∷ 3 ∷ 0 ∷ 0
    ∷ 4 ∷ 0 ∷ 1 ∷ 0 ∷ []
unfolding draft_of fields field used composed
vni_draft = refl
