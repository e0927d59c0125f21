-- Document 01, "A key, step by step", *ua*: "Last two bases u a, no q before: the u becomes ư; its tone and flag stay."
use Rattle.std.specs.Prelude.{ℕ, zero, suc, ◌-◌, Bool, false, List, eqb, ltb, length, get_or, set, None, Option, Some}
use Prim.Native.Char.{code}
use Rattle.p0_choice.specs.Choice.{pick}
use Rattle.p3_cells.specs.Cells.{blank}
use Rattle.p3_cells.specs.declared.Cell.{Cell}
use Rattle.p3_marks.specs.Uo.{base_at}

-- "no q before": there is no cell before, or its base is no q
unfoldable pub after_q : List Cell → ℕ → Bool
after_q cs zero = false
after_q cs (suc i) = eqb (base_at cs i) (code "q")

-- the place of the u
unfoldable pub ua_place : List Cell → Option ℕ
ua_place cs =
    pick (ltb (length cs) 2) None
    (pick (eqb (base_at cs (length cs - 2)) (code "u"))
    (pick (eqb (base_at cs (length cs - 1)) (code "a")) (pick (after_q cs (length cs - 2)) None (Some (length cs - 2))) None) None)

-- a cell with a letter as its base and mark, tone and flag kept
unfoldable pub marked : Cell → ℕ → Cell
marked x l = record { base = l; mark = l; tone = x.tone; upper = x.upper }

unfoldable pub ua_made : List Cell → ℕ → List Cell
ua_made cs i = set cs i (marked (get_or cs i blank) (code "ư"))
