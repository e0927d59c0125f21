-- The words of a line as the readers come to them: over the gap to the next word, and over the word to the gap after it.
use Prim.Native.Nat.{ℕ, suc, ◌+◌, ◌-◌, ◌≤◌, ◌<◌}
use mathlib.Core.Path.{◌≡◌, refl, sym, ap, ◌∙◌}
use mathlib.Core.Bool.{Bool, true, false}
use mathlib.Core.List.{List, [], ◌∷◌}
use native.Mathlib.Omega.{arith}
use native.Mathlib.Nat.{suc-add, suc-ne-zero}
use native.Mathlib.Numerals.{unary_clauses}
use lib.ListN.{length, take, drop, get_or, length-drop, drop_of_length-le}
use lib.Seq.{drop-cons}
use Rattle.p0_choice.specs.Choice.{pick}
use Rattle.p1_letters.specs.Alphabet.{is_separator}
use Rattle.p4_spelling.specs.Verdict.{verdict}
use Rattle.p4_note_line.specs.Line.{Placed, until_gap, line_words_from}
use Rattle.p4_note_line.specs.declared.Report.{Report}
use Rattle.p4_note_line.specs.Mirror.{gap_run, one_more, reported, counted_from, CanCount, BeginsWord}
use Rattle.p4_spelling.proofs.Scans.{whole_rest}
use Rattle.p4_note_line.proofs.Scans.{gap_le, word_le}

-- the words of a line whose first letter x is a gap's or not, as b says
abbrev pub stepped : Bool → Bool → ℕ → ℕ → List ℕ → List Placed
stepped inside b at x xs =
    pick b (line_words_from false (suc at) xs)
    (pick inside (line_words_from true (suc at) xs) (record { start = at; letters = until_gap (x ∷ xs) } ∷ line_words_from true (suc at) xs))

-- ---- of any letters; b is what the first is, and h the law for those after it
module _ (at x : ℕ) (xs : List ℕ) where
  gap_turned : (b : Bool) → is_separator x ≡ b
      → line_words_from false (suc at) xs ≡ line_words_from false (suc at + gap_run xs) (drop (gap_run xs) xs)
      → line_words_from false at (x ∷ xs)
      ≡ line_words_from false (at + pick b (suc (gap_run xs)) 0) (drop (pick b (suc (gap_run xs)) 0) (x ∷ xs))
  unfolding line_words_from
  gap_turned true e h = rw e (simp unary_clauses (simp suc-add at h))
  gap_turned false e h = simp unary_clauses refl

  left_turned : (b : Bool) → is_separator x ≡ b → gap_run (drop (gap_run xs) xs) ≡ 0
      → gap_run (drop (pick b (suc (gap_run xs)) 0) (x ∷ xs)) ≡ 0
  unfolding gap_run
  left_turned true e h = h
  left_turned false e h = rw e

  word_turned : (b : Bool) → is_separator x ≡ b
      → line_words_from true (suc at) xs ≡ line_words_from false (suc at + length (until_gap xs)) (drop (length (until_gap xs)) xs)
      → line_words_from true at (x ∷ xs)
      ≡ line_words_from false (at + length (pick b [] (x ∷ until_gap xs))) (drop (length (pick b [] (x ∷ until_gap xs))) (x ∷ xs))
  unfolding line_words_from
  word_turned true e h = rw e (simp unary_clauses refl)
  word_turned false e h = rw e (simp unary_clauses (simp suc-add at h))

  taken_turned : (b : Bool) → take (length (until_gap xs)) xs ≡ until_gap xs
      → take (length (pick b [] (x ∷ until_gap xs))) (x ∷ xs) ≡ pick b [] (x ∷ until_gap xs)
  taken_turned true h = refl
  taken_turned false h = ap (λ w. x ∷ w) h

-- no word begins in a gap
over_gap : (at : ℕ) (xs : List ℕ) → line_words_from false at xs ≡ line_words_from false (at + gap_run xs) (drop (gap_run xs) xs)
unfolding line_words_from gap_run
over_gap at [] = refl
over_gap at (x ∷ xs) = gap_turned at x xs (is_separator x) refl (over_gap (suc at) xs)

none_left : (xs : List ℕ) → gap_run (drop (gap_run xs) xs) ≡ 0
unfolding gap_run
none_left [] = refl
none_left (x ∷ xs) = left_turned 0 x xs (is_separator x) refl (none_left xs)

first_left : (x : ℕ) (xs : List ℕ) → gap_run (x ∷ xs) ≡ 0 → is_separator x ≡ false
unfolding gap_run
first_left x xs e = go (is_separator x) e
  where
    go : (b : Bool) → pick b (suc (gap_run xs)) 0 ≡ 0 → b ≡ false
    go true h = absurd (suc-ne-zero _ h)
    go false h = refl

-- nor inside a word
over_word : (at : ℕ) (xs : List ℕ)
    → line_words_from true at xs ≡ line_words_from false (at + length (until_gap xs)) (drop (length (until_gap xs)) xs)
unfolding line_words_from until_gap
over_word at [] = refl
over_word at (x ∷ xs) = word_turned at x xs (is_separator x) refl (over_word (suc at) xs)

-- a word is the letters that the line begins with
taken_word : (xs : List ℕ) → take (length (until_gap xs)) xs ≡ until_gap xs
unfolding until_gap
taken_word [] = refl
taken_word (x ∷ xs) = taken_turned 0 x xs (is_separator x) (taken_word xs)

-- a word begins at a letter that is no gap's, with none of a word before it
begins : (at x : ℕ) (xs : List ℕ) → is_separator x ≡ false
    → line_words_from false at (x ∷ xs) ≡ record { start = at; letters = until_gap (x ∷ xs) } ∷ line_words_from true at (x ∷ xs)
unfolding line_words_from
begins at x xs e = rw e refl

-- the letters that are left after n
pub left_length : (xs : List ℕ) (n : ℕ) → n ≤ length xs → length (take (length xs - n) (drop n xs)) ≡ length xs - n
left_length xs n h = ap length (whole_rest xs n h) ∙ length-drop n xs

-- ---- over a gap of n letters
module _ (xs : List ℕ) (at n : ℕ) (c : Report) (e : n ≡ gap_run xs) where
  rest_is : take (length xs - n) (drop n xs) ≡ drop n xs
  rest_is = whole_rest xs n (omega (arith, gap_le xs))

  pub gap_next : (r : Report) → r ≡ counted_from c (at + n) (take (length xs - n) (drop n xs)) → r ≡ counted_from c at xs
  unfolding counted_from
  gap_next r q = q ∙ rw (rest_is, e) (ap (reported c) (sym (over_gap at xs)))

  pub gap_last : n ≡ length xs → c ≡ counted_from c at xs
  unfolding counted_from reported line_words_from
  gap_last l =
      let past : length xs ≤ gap_run xs = omega arith in
      sym (ap (reported c) (over_gap at xs ∙ ap (line_words_from false (at + gap_run xs)) (drop_of_length-le xs past)))

  pub gap_begins : (n ≡ length xs → ⊥) → BeginsWord (take (length xs - n) (drop n xs))
  gap_begins d =
      let l : n < length xs = omega (arith, gap_le xs) in
      rw rest_is
      (record {
        some = omega (arith, length-drop n xs);
        letter = rw (drop-cons xs n 0 l) (first_left (get_or xs n 0) (drop (suc n) xs) (ap gap_run (sym (drop-cons xs n 0 l)) ∙ left));
      })
    where
      left : gap_run (drop n xs) ≡ 0
      left = rw e (none_left xs)

  pub gap_counts : CanCount at xs c → CanCount (at + n) (take (length xs - n) (drop n xs)) c
  gap_counts k = rw rest_is (record { short = omega (arith, gap_le xs, length-drop n xs); few = omega arith; fewer = k.fewer })

-- ---- and over a word
module _ (xs : List ℕ) (at n : ℕ) (c : Report) (b : BeginsWord xs) (e : n ≡ length (until_gap xs)) where
  whole : take (length xs - n) (drop n xs) ≡ drop n xs
  whole = whole_rest xs n (omega (arith, word_le xs))

  cons : get_or xs 0 0 ∷ drop 1 xs ≡ xs
  cons = sym (drop-cons xs 0 0 b.some)

  pub word_some : 0 < n
  unfolding until_gap
  word_some = rw e (rw (← cons, b.letter) (omega arith))

  read : line_words_from false at xs ≡ record { start = at; letters = take n xs } ∷ line_words_from false (at + n) (drop n xs)
  read =
      rw (e, taken_word xs)
      (rw (← over_word at xs)
      (rw cons at (begins at (get_or xs 0 0) (drop 1 xs) b.letter)))

  pub word_next : (v : Bool) (o r : Report) → v ≡ verdict (take n xs) → o ≡ one_more c at v
      → r ≡ counted_from o (at + n) (take (length xs - n) (drop n xs)) → r ≡ counted_from c at xs
  unfolding counted_from reported
  word_next v o r q m h =
      h ∙ rw (whole, m, q) (ap (reported c) (sym read))

  pub word_counts : (v : Bool) (o : Report) → o ≡ one_more c at v → CanCount at xs c
      → CanCount (at + n) (take (length xs - n) (drop n xs)) o
  word_counts v o m k = rw (whole, m) (record {
    short = omega (arith, word_le xs, length-drop n xs);
    few = few v;
    fewer = fewer v;
  })
    where
      few : (v : Bool) → (one_more c at v).words ≤ at + n
      few true = omega (arith, word_some, k)
      few false = omega (arith, word_some, k)

      fewer : (v : Bool) → (one_more c at v).noes ≤ (one_more c at v).words
      fewer true = omega (arith, k)
      fewer false = omega (arith, k)
