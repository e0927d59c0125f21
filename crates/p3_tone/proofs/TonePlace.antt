-- Whether the first vowel is dropped, which of the others is chosen, and the place that takes the tone, as the code goes.
use Rattle.std.specs.Prelude.{None, Some}
use Prim.Native.Nat.{ℕ, zero, suc, ◌+◌, ◌-◌, ◌<◌, ◌≤◌}
use mathlib.Core.Path.{◌≡◌, refl, sym, ap, ◌∙◌}
use mathlib.Core.Bool.{Bool, true, false}
use mathlib.Core.List.{List, [], ◌∷◌}
use native.Mathlib.Omega.{arith}
use lib.Dec.{eqb, ltb}
use lib.ListN.{length, get_or, drop}
use lib.Seq.{get_or-drop}
use borrow.Author.Tests.{ltb-false}
use Rattle.p0_choice.specs.Choice.{pick}
use Rattle.p1_letters.specs.Alphabet.{ascii_lower}
use Rattle.p1_letters.specs.Vowels.{is_vowel}
use Rattle.p3_cells.specs.Cells.{blank}
use Rattle.p3_cells.specs.Text.{letter_of}
use Rattle.p3_cells.specs.declared.Cell.{Cell}
use Rattle.p3_cells.specs.Mirror.{row_cells}
use Rattle.p3_cells.proofs.Row.{row_length, row_at}
use Rattle.p0_choice.specs.Text.{word, words, words_from}
use Rattle.p3_tone.specs.TonePlace.{pair_in, low_letter, low_base, any_vowel, syllable_start, vowel_places, gliding_pair, glides, kept}
use Rattle.p3_tone.specs.TonePlace.{rising_pair, rises, chosen, place_of, tone_place}
use Rattle.p3_tone.specs.Mirror.{seen_of, without_first, kept_seen, chosen_seen}
use Rattle.p3_tone.specs.declared.Seen.{Seen}
use Rattle.p3_tone.proofs.Bound.{vowel_some}
use Rattle.p3_tone.proofs.InWords.{SyllableVowel, places_are}
use Rattle.p3_tone.proofs.Syllable.{either, last_drop}

-- ---- the pairs, as code points
pub gliding_are : (a b : ℕ) → gliding_pair a b ≡ pair_in ((113 ∷ 117 ∷ []) ∷ (103 ∷ 105 ∷ []) ∷ []) a b
unfolding gliding_pair words words_from word
gliding_are a b = refl

pub rising_are : (a b : ℕ) → rising_pair a b
    ≡ pair_in ((111 ∷ 97 ∷ []) ∷ (111 ∷ 101 ∷ []) ∷ (117 ∷ 121 ∷ []) ∷ (105 ∷ 0xea ∷ []) ∷ (121 ∷ 0xea ∷ []) ∷ (117 ∷ 0xf4 ∷ [])
    ∷ (0x1b0 ∷ 0x1a1 ∷ []) ∷ (105 ∷ 111 ∷ []) ∷ (117 ∷ 0xe2 ∷ []) ∷ (117 ∷ 0xea ∷ []) ∷ (117 ∷ 0x1a1 ∷ []) ∷ []) a b
unfolding rising_pair words words_from word
rising_are a b = refl

-- ---- "where the first stands second in the syllable, and the bases read q u or g i, drop that first"
low_base_lem : (row : List ℕ) (start i j : ℕ) → start + j ≡ i → low_base (get_or (drop start (row_cells row)) j blank) ≡ ascii_lower (get_or row i 0)
unfolding low_base
low_base_lem row start i j e = rw (get_or-drop start (row_cells row) j blank, e, row_at row i) refl

pub glides_by : (row : List ℕ) (start : ℕ)
    → glides (drop start (row_cells row)) ≡ gliding_pair (ascii_lower (get_or row start 0)) (ascii_lower (get_or row (start + 1) 0))
unfolding glides
glides_by row start =
    let z : start + 0 ≡ start = omega arith in rw (low_base_lem row start start 0 z, low_base_lem row start (start + 1) 1 refl) refl

-- ---- "One left: it. Else, if the last two are [these]: the last. Else the second of three or more, the first of two."
low_letter_lem : (row : List ℕ) (i : ℕ) → low_letter (get_or (row_cells row) i blank) ≡ ascii_lower (get_or row i 0)
unfolding low_letter letter_of
low_letter_lem row i = rw (row_at row i) refl

pub rises_by : (row : List ℕ) (i j : ℕ) → rises (get_or (row_cells row) i blank) (get_or (row_cells row) j blank)
    ≡ rising_pair (ascii_lower (get_or row i 0)) (ascii_lower (get_or row j 0))
unfolding rises
rises_by row i j = rw (low_letter_lem row i, low_letter_lem row j) refl

-- the same by what the code keeps of the places
seen_all : (cs : List Cell) (vs : List ℕ) → chosen_seen cs (seen_of vs) ≡ chosen cs vs
unfolding chosen_seen seen_of chosen
seen_all cs vs = refl

seen_rest : (cs : List Cell) (vs : List ℕ) → 2 ≤ length vs → chosen_seen cs (without_first (seen_of vs)) ≡ chosen cs (drop 1 vs)
unfolding chosen_seen seen_of chosen
seen_rest cs [] h = absurd (omega arith)
seen_rest cs (x ∷ []) h = absurd (omega arith)
seen_rest cs (x ∷ y ∷ []) h = refl
seen_rest cs (x ∷ y ∷ z ∷ vs) h =
    let a : suc (suc (suc (length vs))) - 1 ≡ suc (suc (length vs)) = omega arith in
    let b : suc (suc (suc (length vs))) - 2 ≡ suc (length vs) = omega arith in
    let c : suc (suc (length vs)) - 1 ≡ suc (length vs) = omega arith in
    let d : suc (suc (length vs)) - 2 ≡ length vs = omega arith in
    rw (a, b, c, d) refl

seen_kept : (cs s : List Cell) (start : ℕ) (vs : List ℕ) → chosen_seen cs (kept_seen start s (seen_of vs)) ≡ chosen cs (kept start s vs)
unfolding kept_seen kept seen_of
seen_kept cs s start vs = go (ltb (length vs) 2) refl (eqb (get_or vs 0 0) (start + 1)) (glides s)
  where
    go : (a : Bool) → ltb (length vs) 2 ≡ a → (b g : Bool)
        → chosen_seen cs (pick a (seen_of vs) (pick b (pick g (without_first (seen_of vs)) (seen_of vs)) (seen_of vs)))
        ≡ chosen cs (pick a vs (pick b (pick g (drop 1 vs) vs) vs))
    go true q b g = seen_all cs vs
    go false q true true = seen_rest cs vs (ltb-false (length vs) 2 q)
    go false q true false = seen_all cs vs
    go false q false g = seen_all cs vs

-- the last two stay
last_two : (start : ℕ) (s : List Cell) (v : Seen) → ((kept_seen start s v).before ≡ v.before) × ((kept_seen start s v).last ≡ v.last)
unfolding kept_seen
last_two start s v = go (ltb v.count 2) (eqb v.first (start + 1)) (glides s)
  where
    go : (a b g : Bool) → ((pick a v (pick b (pick g (without_first v) v) v)).before ≡ v.before)
        × ((pick a v (pick b (pick g (without_first v) v) v)).last ≡ v.last)
    go true b g = (refl, refl)
    go false true true = (refl, refl)
    go false true false = (refl, refl)
    go false false g = (refl, refl)

-- ---- the place that takes the tone
some : (cs s : List Cell) (start : ℕ) (vs : List ℕ) → 0 < length vs → chosen cs (kept start s vs) ≡ place_of cs start s vs
unfolding place_of
some cs s start [] h = absurd (omega arith)
some cs s start (v ∷ vs) h = refl

none : (cs s : List Cell) (start : ℕ) (vs : List ℕ) → length vs ≡ 0 → length cs - 1 ≡ place_of cs start s vs
unfolding place_of
none cs s start [] h = refl
none cs s start (v ∷ vs) h = absurd (omega arith)

any_at : (cs : List Cell) (i : ℕ) → i < length cs → is_vowel (letter_of (get_or cs i blank)) ≡ true → any_vowel cs ≡ true
unfolding any_vowel
any_at [] i h e = absurd (omega arith)
any_at (x ∷ xs) zero h e = rw e refl
any_at (x ∷ xs) (suc i) h e = either (is_vowel (letter_of x)) (any_vowel xs) (any_at xs i (omega arith) e)

pub row_some : (row : List ℕ) (a : Bool) → a ≡ any_vowel (row_cells row) → a ≡ true → 0 < length row
row_some row a e t = rw (row_length row) at (vowel_some (row_cells row) (sym e ∙ t))

module _ (row : List ℕ) (start : ℕ) (v : Seen) (e : start ≡ syllable_start (row_cells row))
    (f : v ≡ seen_of (vowel_places start (drop start (row_cells row)))) where
  abbrev cs : List Cell
  cs = row_cells row

  abbrev vs : List ℕ
  vs = vowel_places start (drop start cs)

  count_is : v.count ≡ length vs
  unfolding seen_of
  count_is = rw f refl

  place : tone_place cs ≡ place_of cs start (drop start cs) vs
  unfolding tone_place
  place = rw (last_drop cs, ← e) refl

  pub place_last : (a : Bool) → v.count ≡ 0 → a ≡ any_vowel cs → a ≡ true
      → Some (length row - 1) ≡ pick (any_vowel cs) (Some (tone_place cs)) None
  place_last a z q t =
      rw (← q, t, place, ← row_length row) (ap Some (none cs (drop start cs) start vs (sym count_is ∙ z)))

  module _ (n : v.count ≡ 0 → ⊥) where
    vowel_at : (k : ℕ) → k < length vs → SyllableVowel cs (get_or vs k 0)
    vowel_at = rw (last_drop cs, ← e) at (places_are cs)

    below : (k : ℕ) → k < length vs → get_or vs k 0 < length row
    below k h = rw (row_length row) at (vowel_at k h).below

    found : 0 < length vs
    found = let c = count_is in omega arith

    pub first_below : v.first < length row
    unfolding seen_of
    first_below = let l = found in rw f (below 0 (omega arith))

    pub before_below : v.before < length row
    unfolding seen_of
    before_below = let l = found in rw f (below (length vs - 2) (omega arith))

    pub last_below : v.last < length row
    unfolding seen_of
    last_below = let l = found in rw f (below (length vs - 1) (omega arith))

    any : any_vowel cs ≡ true
    any = let p = vowel_at 0 found in any_at cs (get_or vs 0 0) p.below p.vowel

    module _ (k : Seen) (q : k ≡ kept_seen start (drop start cs) v) where
      pub kept_before : k.before < length row
      kept_before = rw (q, (last_two start (drop start cs) v).0) before_below

      pub kept_last : k.last < length row
      kept_last = rw (q, (last_two start (drop start cs) v).1) last_below

      pub place_some : (i : ℕ) → i ≡ chosen_seen cs k → Some i ≡ pick (any_vowel cs) (Some (tone_place cs)) None
      place_some i p = rw (any, place, ← some cs (drop start cs) start vs found, ← seen_kept cs (drop start cs) start vs, ← f, ← q) (ap Some p)

pub ruleset places = (place_last, first_below, kept_before, kept_last, place_some)
