-- How the code holds things: no sentence of document 01 stands here, and no promise to a host leads here.
-- How the code holds the step of a key: the place of a cell, what comes there, and how many cells there are then. That
-- these numbers are document 01's step, key_cells, is proved (proofs/Makes).
use Rattle.std.specs.Prelude.{ℕ, ◌+◌, ◌%◌, Bool, List, length, None, Option, Some}
use Prim.Native.Char.{code}
use Rattle.p0_choice.specs.Choice.{pick}
use Rattle.p2_input_method.specs.Rules.{is_tone_key, is_horn_key, mark_for}
use Rattle.p3_cells.specs.declared.Settings.{Settings}
use Rattle.p3_cells.specs.Cells.{typed}
use Rattle.p3_cells.specs.Mirror.{cell_of}
use Rattle.p3_cells.specs.Place.{place_or}
use Rattle.p3_cells.specs.declared.Cell.{Cell}
use Rattle.p3_cells.specs.declared.Composition.{Composition}
use Rattle.p3_tone.specs.TonePlace.{any_vowel, tone_place}
use Rattle.p3_marks.specs.Uo.{base_at, uo_place, horn_u, horn_o}
use Rattle.p3_marks.specs.Ua.{ua_place, marked}
use Rattle.p3_marks.specs.Mark.{mark_place}
use Rattle.p3_step.specs.declared.Change.{Change}
use Rattle.p3_step.specs.declared.Change.TheVariants.{Nothing, Tone, Mark, Pair, Append}
use Rattle.p3_step.specs.declared.Step.{Step}

-- ---- steps of n cells in use: nothing changes, a cell takes a tone or a mark, two become a pair, or there is one more
abbrev pub one_at : Change → ℕ → ℕ → Step
one_at change i n = record { change = change; at = i; also = i; count = n }

abbrev pub still : ℕ → Step
still n = one_at Nothing 0 n

abbrev pub tones_at : ℕ → ℕ → Step
tones_at n i = one_at Tone i n

abbrev pub marks_at : ℕ → ℕ → ℕ → Step
marks_at n l i = one_at (Mark l) i n

abbrev pub pairs_at : ℕ → ℕ → Step
pairs_at n i = record { change = Pair; at = i; also = i + 1; count = n }

abbrev pub appends_at : ℕ → Step
appends_at n = one_at Append n (n + 1)

-- ---- the step of a key
unfoldable pub tone_for : Settings → List Cell → ℕ → Option ℕ
tone_for z cs k = pick (is_tone_key z.method k) (pick (any_vowel cs) (Some (tone_place cs)) None) None

unfoldable pub uo_for : Settings → List Cell → ℕ → Option ℕ
uo_for z cs k = pick (is_horn_key z.method k) (uo_place cs) None

unfoldable pub ua_for : Settings → List Cell → ℕ → Option ℕ
ua_for z cs k = pick (is_horn_key z.method k) (ua_place cs) None

unfoldable pub mark_step : Settings → List Cell → ℕ → Step
mark_step z cs k =
    place_or (mark_place z.method cs k) (λ i. marks_at (length cs) (mark_for z.method (base_at cs i) k) i) (appends_at (length cs))

unfoldable pub ua_step : Settings → List Cell → ℕ → Step
ua_step z cs k = place_or (ua_for z cs k) (marks_at (length cs) (code "ư")) (mark_step z cs k)

unfoldable pub uo_step : Settings → List Cell → ℕ → Step
uo_step z cs k = place_or (uo_for z cs k) (pairs_at (length cs)) (ua_step z cs k)

unfoldable pub step_of : Settings → List Cell → ℕ → Step
step_of z cs k = place_or (tone_for z cs k) (tones_at (length cs)) (uo_step z cs k)

-- ---- the cells that come at the two places, where x and y stand
unfoldable pub put_cell : Change → Cell → Cell → ℕ → ℕ → Cell
put_cell Nothing x y key k = x
put_cell Tone x y key k = record { base = x.base; mark = x.mark; tone = k % 256; upper = x.upper }
put_cell (Mark l) x y key k = marked x l
put_cell Pair x y key k = horn_u x y
put_cell Append x y key k = typed key

unfoldable pub also_cell : Change → Bool → Cell → Cell
also_cell Nothing capitals y = y
also_cell Tone capitals y = y
also_cell (Mark l) capitals y = y
also_cell Pair capitals y = horn_o capitals y
also_cell Append capitals y = y

-- the two cells that a step puts into a composition, each made of what stands there
abbrev pub put : Step → Composition → ℕ → ℕ → Cell
put s c key k = put_cell s.change (cell_of c s.at) (cell_of c s.also) key k

abbrev pub also_put : Step → Composition → Cell
also_put s c = also_cell s.change c.settings.capitals (cell_of c s.also)
