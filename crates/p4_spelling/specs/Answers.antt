-- What the calls answer: the places of the cut, the parts between them, and refusals 6, then 1.
use Rattle.std.specs.Prelude.{ℕ, ◌-◌, Bool, [], ltb, length, take, drop, Err, Ok, Result}
use Rattle.p0_choice.specs.Choice.{pick}
use Rattle.p0_refusals.specs.Limits.{letter_limit}
use Rattle.p0_refusals.specs.Refusals as Refusals
use Rattle.p0_refusals.specs.declared.Refusal.{Refusal}
use Rattle.p0_refusals.specs.declared.Refusal.TheVariants.{Foreign, Long}
use Rattle.p1_letters.specs.Alphabet.{all_letters}
use Rattle.p4_rows.specs.Rows.{Word}
use Rattle.p4_spelling.specs.declared.CutPlaces.{CutPlaces}
use Rattle.p4_spelling.specs.Cut.{onset_end, vowels_end}
use Rattle.p4_spelling.specs.Verdict.{verdict}

-- document 01's number of an answer's refusal; 0 where it is none
abbrev pub cut_number : Result CutPlaces Refusal → ℕ
cut_number (Ok p) = 0
cut_number (Err r) = Refusals.number_of r

abbrev pub verdict_number : Result Bool Refusal → ℕ
verdict_number (Ok b) = 0
verdict_number (Err r) = Refusals.number_of r

-- "Words .. : at most 64": over the limit 6, a code point outside the alphabet 1
unfoldable pub permitted : {A : Type 0} → Word → A → Result A Refusal
permitted w answer = pick (ltb letter_limit (length w)) (Err Long) (pick (all_letters w) (Ok answer) (Err Foreign))

-- where onset and vowels end
unfoldable pub places_of : Word → CutPlaces
places_of w = record { onset = onset_end w; vowels = vowels_end w }

-- "The three answers are parts of the lent word": between the places, empty where those do not stand in it
unfoldable pub onset_part : Word → CutPlaces → Word
onset_part w p = pick (ltb (length w) p.onset) [] (take p.onset w)

unfoldable pub vowels_part : Word → CutPlaces → Word
vowels_part w p =
    pick (ltb (length w) p.vowels) [] (pick (ltb p.vowels p.onset) [] (take (p.vowels - p.onset) (drop p.onset w)))

unfoldable pub coda_part : Word → CutPlaces → Word
coda_part w p = pick (ltb (length w) p.vowels) [] (drop p.vowels w)

unfoldable pub cut_answer : Word → Result CutPlaces Refusal
cut_answer w = permitted w (places_of w)

unfoldable pub verdict_answer : Word → Result Bool Refusal
verdict_answer w = permitted w (verdict w)
