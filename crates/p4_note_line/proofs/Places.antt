-- "6 at the 65th letter of a word or the 4,097th of the line, 1 at a foreign letter, whichever stands first, 1 if both at one place": the
-- refusal of a line, by the place where it is given.
use Rattle.std.specs.Prelude.{Err, Ok, Result}
use Prim.Native.Nat.{ℕ, suc, ◌+◌, ◌≤◌, ◌<◌}
use mathlib.Core.Path.{◌≡◌, refl, sym, ap, ◌∙◌, subst}
use mathlib.Core.Bool.{Bool, true, false}
use mathlib.Core.List.{List, [], ◌∷◌, ◌++◌, append_assoc}
use mathlib.Core.Logic.{◌⊎◌, inl, inr, ⊎_elim}
use native.Mathlib.Omega.{arith}
use native.Mathlib.Numerals.{unary_clauses}
use lib.ListN.{length, take, drop, get_or, length-append}
use lib.Seq.{append_snoc, length-take-le, split_at, take_at, get_or_at}
use Rattle.p0_choice.specs.Choice.{pick}
use Rattle.p0_choice.proofs.Numbers.{below_or_not}
use Rattle.p0_refusals.specs.Limits.{letter_limit}
use Rattle.p0_refusals.specs.declared.Refusal.{Refusal}
use Rattle.p0_refusals.specs.declared.Refusal.TheVariants as Refusals
use Rattle.p1_letters.specs.Alphabet.{in_alphabet, is_separator}
use Rattle.p4_note_line.specs.declared.Taken.{Taken}
use Rattle.p4_note_line.specs.declared.Taken.TheVariants.{Gap, Letter}
use Rattle.p4_note_line.specs.Line.{Placed, line_limit, until_gap, line_words, taking, whether, fault_from, line_fault}
use Rattle.p4_note_line.proofs.Runs.{Run, In, no_gap, gap_before, first_letter, until_whole, until_right, until_cut}
use Rattle.p4_note_line.proofs.Runs.{words_are_runs, runs_are_words}
use Rattle.p4_note_line.proofs.Taking.{Tells, tells}

-- ---- what is to be refused at place i
-- "1 at a foreign letter"
abbrev pub ForeignAt : List ℕ → ℕ → Type 0
ForeignAt line i = (i < length line) × (in_alphabet (get_or line i 0) ≡ false)

-- the 65th letter of a word
abbrev pub OverWord : List ℕ → ℕ → Type 0
OverWord line i = (p : Placed) × In p (line_words line) × (p.start + letter_limit ≡ i) × (letter_limit < length p.letters)

-- "6 at the 65th letter of a word or the 4,097th of the line"
abbrev pub LongAt : List ℕ → ℕ → Type 0
LongAt line i = (i < length line) × ((line_limit ≤ i) ⊎ OverWord line i)

-- ---- how many letters of one word end the letters xs, after r of one before them
end_run : ℕ → List ℕ → ℕ
end_run r [] = r
end_run r (x ∷ xs) = end_run (pick (is_separator x) 0 (suc r)) xs

run_on : (r : ℕ) (xs ys : List ℕ) → end_run r (xs ++ ys) ≡ end_run (end_run r xs) ys
unfolding end_run
run_on r [] ys = refl
run_on r (x ∷ xs) ys = run_on (pick (is_separator x) 0 (suc r)) xs ys

run_gap : (r x : ℕ) (xs : List ℕ) → gap_before (x ∷ xs) ≡ true → end_run r (x ∷ xs) ≡ 0
unfolding end_run
run_gap r x [] g = rw g
run_gap r x (y ∷ ys) g = run_gap (pick (is_separator x) 0 (suc r)) y ys g

run_whole : (r : ℕ) (w : List ℕ) → no_gap w ≡ true → end_run r w ≡ r + length w
unfolding end_run
run_whole r [] n = simp unary_clauses refl
run_whole r (x ∷ w) n = turned (is_separator x) n (λ k. run_whole (suc r) w k)
  where
    turned : (b : Bool) → pick b false (no_gap w) ≡ true → (no_gap w ≡ true → end_run (suc r) w ≡ suc r + length w)
        → end_run (pick b 0 (suc r)) w ≡ r + suc (length w)
    turned true h f = let z : ◌≡◌ {A = ℕ} 0 1 = cc in absurd (omega arith)
    turned false h f = f h ∙ omega arith

-- after a gap it is the letters since
run_since : (before w : List ℕ) → gap_before before ≡ true → no_gap w ≡ true → end_run 0 (before ++ w) ≡ length w
unfolding end_run
run_since [] w g n = run_whole 0 w n ∙ omega arith
run_since (x ∷ xs) w g n = run_on 0 (x ∷ xs) w ∙ ap (λ r. end_run r w) (run_gap 0 x xs g) ∙ run_whole 0 w n ∙ omega arith

-- ---- the letters of the last word, which ends with the letters
record Ending (seen : List ℕ) : Type 0 where
  before : List ℕ
  last : List ℕ
  cut : seen ≡ before ++ last
  left : gap_before before ≡ true
  whole : no_gap last ≡ true

ending_more : (x : ℕ) (xs before last : List ℕ) → xs ≡ before ++ last → gap_before before ≡ true → no_gap last ≡ true → Ending (x ∷ xs)
ending_more x xs (y ∷ ys) last c l w = record { before = x ∷ (y ∷ ys); last = last; cut = ap (λ zs. x ∷ zs) c; left = l; whole = w }
ending_more x xs [] last c l w = turned (is_separator x) refl
  where
    turned : (b : Bool) → is_separator x ≡ b → Ending (x ∷ xs)
    turned true e = record { before = x ∷ []; last = last; cut = ap (λ zs. x ∷ zs) c; left = e; whole = w }
    turned false e = record { before = []; last = x ∷ last; cut = ap (λ zs. x ∷ zs) c; left = refl; whole = rw e w }

ending : (seen : List ℕ) → Ending seen
ending [] = record { before = []; last = []; cut = refl; left = refl; whole = refl }
ending (x ∷ xs) = let e = ending xs in ending_more x xs e.before e.last e.cut e.left e.whole

whole_both : (a b : List ℕ) → no_gap (a ++ b) ≡ true → (no_gap a ≡ true) × (no_gap b ≡ true)
whole_both [] b h = (refl, h)
whole_both (x ∷ a) b h = turned (is_separator x) h (λ k. whole_both a b k)
  where
    turned : (c : Bool) → pick c false (no_gap (a ++ b)) ≡ true → (no_gap (a ++ b) ≡ true → (no_gap a ≡ true) × (no_gap b ≡ true))
        → (pick c false (no_gap a) ≡ true) × (no_gap b ≡ true)
    turned true k f = let z : ◌≡◌ {A = ℕ} 0 1 = cc in absurd (omega arith)
    turned false k f = f k

whole_and : (a b : List ℕ) → no_gap a ≡ true → no_gap b ≡ true → no_gap (a ++ b) ≡ true
whole_and [] b h k = k
whole_and (x ∷ a) b h k = turned (is_separator x) h (λ q. whole_and a b q k)
  where
    turned : (c : Bool) → pick c false (no_gap a) ≡ true → (no_gap a ≡ true → no_gap (a ++ b) ≡ true) → pick c false (no_gap (a ++ b)) ≡ true
    turned true q f = let z : ◌≡◌ {A = ℕ} 0 1 = cc in absurd (omega arith)
    turned false q f = f q

-- ---- the line has come to x, after the letters seen
module _ (line seen : List ℕ) (x : ℕ) (xs : List ℕ) (c : line ≡ seen ++ (x ∷ xs)) where
  -- x is the 65th letter of a word: so it is none of a gap, and 64 letters of its word stand before it
  over_told : OverWord line (length seen) → (is_separator x ≡ false) × (end_run 0 seen ≡ letter_limit)
  over_told o =
      let p = o.0 in
      let r = words_are_runs line p o.1 in
      let u = take letter_limit p.letters in
      let y = get_or p.letters letter_limit 0 in
      let v = drop (suc letter_limit) p.letters in
      let parts : p.letters ≡ u ++ (y ∷ v) = split_at p.letters letter_limit 0 o.3 in
      let w = whole_both u (y ∷ v) (ap no_gap (sym parts) ∙ r.whole) in
      let n : length u ≡ letter_limit = length-take-le letter_limit p.letters (omega (arith, o.3)) in
      let m : length (r.before ++ u) ≡ length seen = length-append r.before u ∙ omega (arith, n, r.starts, o.2) in
      let again : line ≡ (r.before ++ u) ++ (y ∷ (v ++ r.after)) =
      r.cut ∙ ap (λ l. r.before ++ (l ++ r.after)) parts ∙ regroup r.before u y v r.after in
      let same : r.before ++ u ≡ seen =
      sym (take_at (r.before ++ u) (y ∷ (v ++ r.after)) (length seen) m) ∙ ap (take (length seen)) (sym again ∙ c)
      ∙ take_at seen (x ∷ xs) (length seen) refl in
      let letter : y ≡ x =
      sym (get_or_at (r.before ++ u) y (v ++ r.after) 0 (length seen) m) ∙ ap (λ l. get_or l (length seen) 0) (sym again ∙ c)
      ∙ get_or_at seen x xs 0 (length seen) refl in (
        ap is_separator (sym letter) ∙ first_letter y v w.1,
        ap (end_run 0) (sym same) ∙ run_since r.before u r.left w.0 ∙ n,
      )
    where
      regroup : (b u : List ℕ) (y : ℕ) (v a : List ℕ) → b ++ ((u ++ (y ∷ v)) ++ a) ≡ (b ++ u) ++ (y ∷ (v ++ a))
      regroup b u y v a = simp append_assoc refl

  -- and the other way
  told_over : is_separator x ≡ false → end_run 0 seen ≡ letter_limit → OverWord line (length seen)
  unfolding until_gap
  told_over s n =
      let e = ending seen in
      let long : length e.last ≡ letter_limit =
      sym (run_since e.before e.last e.left e.whole) ∙ ap (end_run 0) (sym e.cut) ∙ n in
      let w = e.last ++ until_gap (x ∷ xs) in
      let all = length-append e.last (until_gap (x ∷ xs)) in
      let more = some_letter s in
      let p : Placed = record { start = length e.before; letters = w } in
      let run : Run line p =
      record {
        before = e.before;
        after = drop (length (until_gap (x ∷ xs))) (x ∷ xs);
        cut = c ∙ (λ i. e.cut i ++ until_cut (x ∷ xs) i) ∙ regroup e.before e.last (until_gap (x ∷ xs)) _;
        starts = refl;
        some = λ h. absurd (omega (arith, h, all, long));
        whole = whole_and e.last (until_gap (x ∷ xs)) e.whole (until_whole (x ∷ xs));
        left = e.left;
        right = until_right (x ∷ xs);
      } in (
        p,
        runs_are_words line p run,
        ap (λ k. length e.before + k) (sym long) ∙ sym (length-append e.before e.last) ∙ ap length (sym e.cut),
        omega (arith, all, long, more),
      )
    where
      regroup : (b l u a : List ℕ) → (b ++ l) ++ (u ++ a) ≡ b ++ ((l ++ u) ++ a)
      regroup b l u a = simp append_assoc refl

      some_letter : is_separator x ≡ false → 1 ≤ length (until_gap (x ∷ xs))
      some_letter k = rw k (omega arith)

-- ---- the law
-- nothing is refused at place j
abbrev pub Fine : List ℕ → ℕ → Type 0
Fine line j = (ForeignAt line j → ⊥) × (LongAt line j → ⊥)

-- "1 if both at one place"
abbrev pub RefusedAt : Refusal → List ℕ → ℕ → Type 0
RefusedAt r line i =
    ((r ≡ Refusals.Foreign) × ForeignAt line i) ⊎ ((r ≡ Refusals.Long) × LongAt line i × (ForeignAt line i → ⊥))

-- what an answer says of the line: nothing is refused anywhere, or at a place and nowhere before it
abbrev pub Says : List ℕ → Result ℕ Refusal → Type 0
Says line (Ok n) = (n ≡ length line) × ((j : ℕ) → Fine line j)
Says line (Err r) = (i : ℕ) × RefusedAt r line i × ((j : ℕ) → j < i → Fine line j)

clash : ◌≡◌ {A = Bool} true false → ⊥
clash e = let z : ◌≡◌ {A = ℕ} 0 1 = cc in absurd (omega arith)

module _ (line : List ℕ) where
  -- a letter that is taken is fine
  module _ (seen : List ℕ) (x : ℕ) (xs : List ℕ) (c : line ≡ seen ++ (x ∷ xs)) where
    here_is : get_or line (length seen) 0 ≡ x
    here_is = ap (λ l. get_or l (length seen) 0) c ∙ get_or_at seen x xs 0 (length seen) refl

    known_fine : in_alphabet x ≡ true → ForeignAt line (length seen) → ⊥
    known_fine k f = clash (sym k ∙ ap in_alphabet (sym here_is) ∙ f.1)

    gap_fine : in_alphabet x ≡ true → length seen < line_limit → is_separator x ≡ true → Fine line (length seen)
    gap_fine k l s = (
      known_fine k,
      λ h. ⊎_elim (λ m. absurd (omega (arith, l, m))) (λ o. clash (sym s ∙ (over_told line seen x xs c o).0)) h.1,
    )

    letter_fine : in_alphabet x ≡ true → length seen < line_limit → end_run 0 seen < letter_limit → Fine line (length seen)
    letter_fine k l r = (
      known_fine k,
      λ h. ⊎_elim (λ m. absurd (omega (arith, l, m))) (λ o. absurd (omega (arith, r, (over_told line seen x xs c o).1))) h.1,
    )

    in_line : length seen < length line
    in_line = omega (arith, ap length c, length-append seen (x ∷ xs))

    long_here : in_alphabet x ≡ true → end_run 0 seen ≤ letter_limit
        → (line_limit ≤ length seen) ⊎ ((is_separator x ≡ false) × (letter_limit ≤ end_run 0 seen)) → LongAt line (length seen)
    long_here k r h = (
      in_line,
      ⊎_elim (λ m. inl m) (λ o. inr (told_over line seen x xs c o.0 (omega (arith, r, o.1)))) h,
    )

  past_end : (j : ℕ) → length line ≤ j → Fine line j
  past_end j l = (λ f. absurd (omega (arith, l, f.0)), λ f. absurd (omega (arith, l, f.0)))

  -- fine before n, and at n: fine before n + 1
  one_more : (n : ℕ) → ((j : ℕ) → j < n → Fine line j) → Fine line n → (j : ℕ) → j < suc n → Fine line j
  one_more n f h j l =
      ⊎_elim (λ m. f j m) (λ m. let e : n ≡ j = omega (arith, l, m) in subst (Fine line) e h) (below_or_not j n)

  says_from : (seen xs : List ℕ) (at run : ℕ) → length seen ≡ at → end_run 0 seen ≡ run → line ≡ seen ++ xs → run ≤ letter_limit
      → ((j : ℕ) → j < at → Fine line j) → Says line (fault_from at run xs)
  unfolding fault_from end_run
  says_from seen [] at run l e c r f =
      let n : at ≡ length line = sym (ap length c ∙ length-append seen [] ∙ omega (arith, l)) in
      (n, λ j. ⊎_elim (λ m. f j m) (λ m. past_end j (omega (arith, m, n))) (below_or_not j at))
  says_from seen (x ∷ xs) at run l e c r f =
      let next : (q : ℕ) → end_run run (x ∷ []) ≡ q → q ≤ letter_limit → Fine line (length seen)
      → Says line (fault_from (suc at) q xs) = λ q m k h.
      says_from (seen ++ (x ∷ [])) xs (suc at) q (length-append seen (x ∷ []) ∙ omega (arith, l))
      (run_on 0 seen (x ∷ []) ∙ ap (λ n. end_run n (x ∷ [])) e ∙ m) (c ∙ sym (append_snoc seen x xs)) k
      (one_more at f (subst (Fine line) l h)) in
      turned l e (taking at run x) refl (next 0) (next (suc run))
    where
      turned : length seen ≡ at → end_run 0 seen ≡ run → (t : Result Taken Refusal) → t ≡ taking at run x
          → (end_run run (x ∷ []) ≡ 0 → 0 ≤ letter_limit → Fine line (length seen) → Says line (fault_from (suc at) 0 xs))
          → (end_run run (x ∷ []) ≡ suc run → suc run ≤ letter_limit → Fine line (length seen) → Says line (fault_from (suc at) (suc run) xs))
          → Says line (whether t (fault_from (suc at) 0 xs) (fault_from (suc at) (suc run) xs) Err)
      turned l e (Ok Gap) q gap letter =
          let h = tells at run x (Ok Gap) q in
          gap (rw h.2) (omega arith) (gap_fine seen x xs c h.0 (omega (arith, l, h.1)) h.2)
      turned l e (Ok Letter) q gap letter =
          let h = tells at run x (Ok Letter) q in
          letter (rw h.2) (omega (arith, h.3)) (letter_fine seen x xs c h.0 (omega (arith, l, h.1)) (omega (arith, e, h.3)))
      turned l e (Err why) q gap letter = (at, refused l e why (tells at run x (Err why) q), f)
        where
          refused : length seen ≡ at → end_run 0 seen ≡ run → (why : Refusal) → Tells (Err why) at run x → RefusedAt why line at
          refused l e why (inl h) =
              inl (
                h.0,
                (omega (arith, l, in_line seen x xs c), subst (λ i. in_alphabet (get_or line i 0) ≡ false) l (ap in_alphabet (here_is seen x xs c) ∙ h.1)),
              )
          refused l e why (inr h) =
              let way : (line_limit ≤ length seen) ⊎ ((is_separator x ≡ false) × (letter_limit ≤ end_run 0 seen)) =
              ⊎_elim (λ m. inl (omega (arith, l, m))) (λ o. inr (o.0, omega (arith, e, o.1))) h.2 in
              let k : end_run 0 seen ≤ letter_limit = omega (arith, e, r) in
              inr (
                h.0,
                subst (LongAt line) l (long_here seen x xs c h.1 k way),
                subst (λ i. ForeignAt line i → ⊥) l (known_fine seen x xs c h.1),
              )

-- the refusal of a line is that of the first place which has one, and 1 where it has both
pub by_place : (line : List ℕ) → Says line (line_fault line)
unfolding line_fault end_run
by_place line = says_from line [] line 0 0 refl refl refl (omega arith) (λ j l. absurd (omega (arith, l)))
