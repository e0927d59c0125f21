-- Document 01, "A key, step by step": "the first step that fits ends it", over the cells in use.
use Rattle.std.specs.Prelude.{ℕ, List, [], ◌∷◌, ◌++◌, get_or, set}
use Rattle.p0_choice.specs.Choice.{pick}
use Rattle.p1_letters.specs.Alphabet.{ascii_lower}
use Rattle.p2_input_method.specs.Rules.{is_tone_key, is_horn_key}
use Rattle.p3_cells.specs.declared.Settings.{Settings}
use Rattle.p3_cells.specs.Cells.{blank, typed}
use Rattle.p3_cells.specs.Place.{place_or}
use Rattle.p3_cells.specs.declared.Cell.{Cell}
use Rattle.p3_tone.specs.TonePlace.{any_vowel, tone_place}
use Rattle.p3_marks.specs.Uo.{uo_place, uo_made}
use Rattle.p3_marks.specs.Ua.{ua_place, ua_made}
use Rattle.p3_marks.specs.Mark.{mark_place, mark_made}

-- *Tone.* "The tone is set on one cell, and only there."
unfoldable pub with_tone : Cell → ℕ → Cell
with_tone x k = record { base = x.base; mark = x.mark; tone = k; upper = x.upper }

unfoldable pub tone_made : List Cell → ℕ → List Cell
tone_made cs k = set cs (tone_place cs) (with_tone (get_or cs (tone_place cs) blank) k)

-- *Append* "the letter as typed, flag on if capital."
unfoldable pub appended : List Cell → ℕ → List Cell
appended cs key = cs ++ (typed key ∷ [])

-- *Mark*, else *Append*; k is the key in ASCII lower case
unfoldable pub mark_or_later : Settings → List Cell → ℕ → ℕ → List Cell
mark_or_later z cs key k = place_or (mark_place z.method cs k) (mark_made z.method cs k) (appended cs key)

-- *uo* and *ua*, on their key, else the later ones
unfoldable pub horn_or_later : Settings → List Cell → ℕ → ℕ → List Cell
horn_or_later z cs key k =
    pick (is_horn_key z.method k)
    (place_or (uo_place cs) (uo_made z.capitals cs) (place_or (ua_place cs) (ua_made cs) (mark_or_later z cs key k)))
    (mark_or_later z cs key k)

-- *Tone*: "k is a tone key and any cell's letter in the whole composition .. is a composer vowel", else the later ones
unfoldable pub key_cells : Settings → List Cell → ℕ → List Cell
key_cells z cs key =
    pick (is_tone_key z.method (ascii_lower key))
    (pick (any_vowel cs) (tone_made cs (ascii_lower key)) (horn_or_later z cs key (ascii_lower key)))
    (horn_or_later z cs key (ascii_lower key))
