-- Document 01 as it reads without request 2026-01: the definitions that the request widens, word for word as the port of the
-- Rust has them. "With it off, demand 2 reads as before" (proofs/Off). All else that they name is not widened.
use Rattle.std.specs.Prelude.{ℕ, suc, Bool, false, List, [], ◌∷◌, map, eqb, ltb, length, get_or, set}
use Prim.Native.Char.{code}
use Rattle.p0_choice.specs.Choice.{pick}
use Rattle.p0_refusals.specs.Answers.{Outcome, writes, refuses, answer}
use Rattle.p0_refusals.specs.declared.Refusal.TheVariants.{Foreign, Full, Empty, Unsound}
use Rattle.p1_letters.specs.Alphabet.{in_alphabet, is_capital, ascii_lower, ascii_upper}
use Rattle.p2_input_method.specs.Rules.{is_tone_key, is_horn_key}
use Rattle.p3_calls.specs.Output.{left}
use Rattle.p3_cells.specs.Cells.{limit, blank, is_sound, used, holding}
use Rattle.p3_cells.specs.Leaving.{leaving}
use Rattle.p3_cells.specs.Place.{place_or}
use Rattle.p3_cells.specs.Text.{toned_letter}
use Rattle.p3_cells.specs.declared.After.{After}
use Rattle.p3_cells.specs.declared.Cell.{Cell}
use Rattle.p3_cells.specs.declared.Composition.{Composition}
use Rattle.p3_cells.specs.declared.Settings.{Settings}
use Rattle.p3_key.specs.Process.{in_mode}
use Rattle.p3_marks.specs.Uo.{uo_place, horn_u}
use Rattle.p3_marks.specs.Ua.{ua_place, ua_made}
use Rattle.p3_step.specs.Key.{tone_made, mark_or_later}
use Rattle.p3_tone.specs.TonePlace.{any_vowel}

-- ---- the uo step: "ơ has no tone and no flag"
unfoldable pub port_horn_o : Cell → Cell
port_horn_o o = record { base = code "ơ"; mark = code "ơ"; tone = 0; upper = false }

unfoldable pub port_uo_made : List Cell → ℕ → List Cell
port_uo_made cs i =
    set (set cs (suc i) (port_horn_o (get_or cs (suc i) blank))) i (horn_u (get_or cs i blank) (get_or cs (suc i) blank))

unfoldable pub port_horn_or_later : Settings → List Cell → ℕ → ℕ → List Cell
port_horn_or_later z cs key k =
    pick (is_horn_key z.method k) (place_or (uo_place cs) (port_uo_made cs) (place_or (ua_place cs) (ua_made cs) (mark_or_later z cs key k)))
    (mark_or_later z cs key k)

unfoldable pub port_key_cells : Settings → List Cell → ℕ → List Cell
port_key_cells z cs key =
    pick (is_tone_key z.method (ascii_lower key))
    (pick (any_vowel cs) (tone_made cs (ascii_lower key)) (port_horn_or_later z cs key (ascii_lower key)))
    (port_horn_or_later z cs key (ascii_lower key))

-- ---- "If the flag is on and the result is not a capital, ASCII upper case is tried"
unfoldable pub port_shown : Cell → ℕ
port_shown x = pick x.upper (pick (is_capital (toned_letter x)) (toned_letter x) (ascii_upper (toned_letter x))) (toned_letter x)

unfoldable pub port_text : List Cell → List ℕ
port_text xs = map port_shown xs

-- ---- the key
unfoldable pub port_next_cells : Composition → ℕ → List Cell
port_next_cells c key = port_key_cells c.settings (used c) key

unfoldable pub port_written_for : Composition → ℕ → List ℕ
port_written_for c key = in_mode c.settings.mode (port_text (port_next_cells c key)) (key ∷ [])

unfoldable pub port_is_full : Composition → ℕ → Bool
port_is_full c key = in_mode c.settings.mode (ltb limit (length (port_next_cells c key))) false

unfoldable pub port_key_outcome : Composition → ℕ → Outcome
port_key_outcome c key =
    pick (is_sound c)
    (pick (in_alphabet key) (pick (port_is_full c key) (refuses Full) (writes (port_written_for c key))) (refuses Foreign))
    (refuses Unsound)

unfoldable pub port_key_next : Composition → ℕ → Composition
port_key_next c key = in_mode c.settings.mode (holding c (port_next_cells c key)) c

unfoldable pub port_keyed : Composition → ℕ → ℕ → After
port_keyed c key n = leaving (answer (port_key_outcome c key) n) c (port_key_next c key)

-- ---- the text and the removal
unfoldable pub port_text_outcome : Composition → Outcome
port_text_outcome c = pick (is_sound c) (writes (port_text (used c))) (refuses Unsound)

unfoldable pub port_removal_outcome : Composition → Outcome
port_removal_outcome c =
    pick (is_sound c) (pick (eqb (length (used c)) 0) (refuses Empty) (writes (port_text (left c)))) (refuses Unsound)

unfoldable pub port_removed : Composition → ℕ → After
port_removed c n = leaving (answer (port_removal_outcome c) n) c (holding c (left c))
