-- The tests of soundness, as the code goes through them.
use Prim.Native.Nat.{ℕ, suc, ◌+◌, ◌-◌, ◌<◌, ◌≤◌}
use mathlib.Core.Path.{◌≡◌, refl, sym, ◌∙◌}
use mathlib.Core.Bool.{Bool, true, false}
use mathlib.Core.List.{List}
use native.Mathlib.Numerals.{add-one}
use native.Mathlib.Omega.{arith}
use lib.Dec.{eqb, leb}
use lib.ListN.{length, get_or, drop, drop_of_length-le}
use lib.Seq.{drop-cons}
use borrow.Author.Tests.{eq-eqb, ne_eqb}
use Rattle.p0_choice.specs.Choice.{pick}
use Rattle.p0_refusals.specs.Limits.{letter_limit}
use Rattle.p4_note_line.specs.Line.{line_limit}
use Rattle.p4_note_parts.specs.State.{in_word, letters_fit, counts_fit, end_fits, line_sound}
use Rattle.p4_note_parts.specs.declared.Line.{Line}

-- ---- the kept letters, one by one: what is left of them decides
module _ (kept : List ℕ) (run : ℕ) where
  -- the letter at i, and what is left past it
  module _ (i : ℕ) (e : letters_fit run kept ≡ letters_fit (run - i) (drop i kept)) (h : i < length kept) where
    past : run ≤ i → letters_fit run kept ≡ pick (eqb (get_or kept i 0) 0) (letters_fit (run - (i + 1)) (drop (i + 1) kept)) false
    unfolding letters_fit
    past l =
        let a : run - i ≡ 0 = omega arith in
        let b : run - (i + 1) ≡ 0 = omega arith in
        e ∙ rw (a, b, drop-cons kept i 0, add-one)

    within : i < run → letters_fit run kept ≡ pick (in_word (get_or kept i 0)) (letters_fit (run - (i + 1)) (drop (i + 1) kept)) false
    unfolding letters_fit
    within l =
        let a : run - i ≡ suc (run - (i + 1)) = omega arith in
        e ∙ rw (a, drop-cons kept i 0, add-one)

    -- past the open word's letters 0 alone may stand
    pub kept_stray : run ≤ i → (get_or kept i 0 ≡ 0 → ⊥) → false ≡ letters_fit run kept
    kept_stray l d = sym (past l ∙ rw (ne_eqb (get_or kept i 0) 0 d))

    pub kept_none : run ≤ i → get_or kept i 0 ≡ 0 → letters_fit run kept ≡ letters_fit (run - (i + 1)) (drop (i + 1) kept)
    kept_none l d = past l ∙ rw (eq-eqb (get_or kept i 0) 0 d)

    -- one of the open word is a letter that a word can have, as v answers
    pub kept_foreign : (v : Bool) → i < run → v ≡ in_word (get_or kept i 0) → v ≡ false → false ≡ letters_fit run kept
    kept_foreign v l a t = sym (within l ∙ rw (← a, t))

    pub kept_on : (v : Bool) → i < run → v ≡ in_word (get_or kept i 0) → v ≡ true
        → letters_fit run kept ≡ letters_fit (run - (i + 1)) (drop (i + 1) kept)
    kept_on v l a t = within l ∙ rw (← a, t)

  -- none is left, and none was refused
  pub kept_all : (i : ℕ) → letters_fit run kept ≡ letters_fit (run - i) (drop i kept) → length kept ≤ i → true ≡ letters_fit run kept
  unfolding letters_fit
  kept_all i e l = sym (e ∙ rw (drop_of_length-le kept l))

-- ---- the tests together: the limits stand with the counts
pub sound_tests : (s : Line) (r : Bool)
    → r
    ≡ pick (pick (leb s.length line_limit) (pick (leb s.run letter_limit) (counts_fit s) false) false)
    (pick (end_fits s.standing s.length s.run) (letters_fit s.run s.letters) false) false
    → r ≡ line_sound s
unfolding line_sound
sound_tests s r e =
    e
    ∙ regroup (leb s.length line_limit) (leb s.run letter_limit) (counts_fit s)
    (pick (end_fits s.standing s.length s.run) (letters_fit s.run s.letters) false)
  where
    regroup : (a b c d : Bool) → pick (pick a (pick b c false) false) d false ≡ pick a (pick b (pick c d false) false) false
    regroup true true c d = refl
    regroup true false c d = refl
    regroup false b c d = refl
