-- "A line is words and gaps by turns": the words of a line are its longest runs without a gap's letter, each of them once and in order.
use Prim.Native.Nat.{ℕ, suc, ◌+◌, ◌≤◌}
use mathlib.Core.Path.{◌≡◌, refl, sym, ap, ◌∙◌, subst}
use mathlib.Core.Bool.{Bool, true, false}
use mathlib.Core.List.{List, [], ◌∷◌, ◌++◌}
use mathlib.Core.Logic.{◌⊎◌, inl, inr}
use native.Mathlib.Omega.{arith}
use native.Mathlib.Nat.{suc-ne-zero}
use lib.ListN.{length, drop, length-append}
use lib.Seq.{append_snoc}
use Rattle.p0_choice.specs.Choice.{pick}
use Rattle.p1_letters.specs.Alphabet.{is_separator}
use Rattle.p4_note_line.specs.Line.{Placed, until_gap, line_words_from, line_words}
use Rattle.p4_note_line.proofs.Words.{stepped}

-- ---- what a run is
-- no letter of it is a gap's
abbrev pub no_gap : List ℕ → Bool
no_gap [] = true
no_gap (x ∷ xs) = pick (is_separator x) false (no_gap xs)

-- the line's start, or a gap's letter last
abbrev pub gap_before : List ℕ → Bool
gap_before [] = true
gap_before (x ∷ []) = is_separator x
gap_before (x ∷ (y ∷ ys)) = gap_before (y ∷ ys)

-- the line's end, or a gap's letter first
abbrev pub gap_after : List ℕ → Bool
gap_after [] = true
gap_after (x ∷ xs) = is_separator x

-- so many letters stand before it; it has a letter, and none of a gap; and it goes on to neither side
pub record Run (line : List ℕ) (p : Placed) : Type 0 where
  pub before : List ℕ
  pub after : List ℕ
  pub cut : line ≡ before ++ (p.letters ++ after)
  pub starts : length before ≡ p.start
  pub some : length p.letters ≡ 0 → ⊥
  pub whole : no_gap p.letters ≡ true
  pub left : gap_before before ≡ true
  pub right : gap_after after ≡ true

-- p is one of the words
abbrev pub In : Placed → List Placed → Type 0
In p [] = ⊥
In p (q ∷ qs) = (p ≡ q) ⊎ In p qs

-- ---- the letters up to the next gap
pub until_whole : (xs : List ℕ) → no_gap (until_gap xs) ≡ true
unfolding until_gap
until_whole [] = refl
until_whole (x ∷ xs) = turned (is_separator x) refl (until_whole xs)
  where
    turned : (b : Bool) → is_separator x ≡ b → no_gap (until_gap xs) ≡ true → no_gap (pick b [] (x ∷ until_gap xs)) ≡ true
    turned true e h = refl
    turned false e h = rw e h

pub until_right : (xs : List ℕ) → gap_after (drop (length (until_gap xs)) xs) ≡ true
unfolding until_gap
until_right [] = refl
until_right (x ∷ xs) = turned (is_separator x) refl (until_right xs)
  where
    turned : (b : Bool) → is_separator x ≡ b → gap_after (drop (length (until_gap xs)) xs) ≡ true
        → gap_after (drop (length (pick b [] (x ∷ until_gap xs))) (x ∷ xs)) ≡ true
    turned true e h = e
    turned false e h = h

pub until_cut : (xs : List ℕ) → xs ≡ until_gap xs ++ drop (length (until_gap xs)) xs
unfolding until_gap
until_cut [] = refl
until_cut (x ∷ xs) = turned (is_separator x) (until_cut xs)
  where
    turned : (b : Bool) → xs ≡ until_gap xs ++ drop (length (until_gap xs)) xs
        → x ∷ xs ≡ pick b [] (x ∷ until_gap xs) ++ drop (length (pick b [] (x ∷ until_gap xs))) (x ∷ xs)
    turned true h = refl
    turned false h = ap (λ ys. x ∷ ys) h

pub last_gap : (xs : List ℕ) (x : ℕ) → gap_before (xs ++ (x ∷ [])) ≡ is_separator x
last_gap [] x = refl
last_gap (y ∷ []) x = refl
last_gap (y ∷ (z ∷ ys)) x = last_gap (z ∷ ys) x

-- ---- each of the words is such a run: `seen` stands before the letters that are left
module _ (line : List ℕ) (p : Placed) where
  begins_run : (seen : List ℕ) (at x : ℕ) (xs : List ℕ) → line ≡ seen ++ (x ∷ xs) → length seen ≡ at → gap_before seen ≡ true
      → is_separator x ≡ false → p ≡ record { start = at; letters = until_gap (x ∷ xs) } → Run line p
  unfolding until_gap
  begins_run seen at x xs c l g s e =
      subst (Run line) (sym e)
      record {
        before = seen;
        after = drop (length (until_gap (x ∷ xs))) (x ∷ xs);
        cut = c ∙ ap (λ ys. seen ++ ys) (until_cut (x ∷ xs));
        starts = l;
        some = has;
        whole = until_whole (x ∷ xs);
        left = g;
        right = until_right (x ∷ xs);
      }
    where
      has : length (until_gap (x ∷ xs)) ≡ 0 → ⊥
      has = rw s (λ h. suc-ne-zero _ h)

  in_runs : (inside : Bool) (seen : List ℕ) (at : ℕ) (xs : List ℕ) → line ≡ seen ++ xs → length seen ≡ at
      → (inside ≡ false → gap_before seen ≡ true) → In p (line_words_from inside at xs) → Run line p
  unfolding line_words_from
  in_runs inside seen at [] c l g h = absurd h
  in_runs inside seen at (x ∷ xs) c l g h =
      turned inside (is_separator x) refl g
      (λ b w k. in_runs b (seen ++ (x ∷ [])) (suc at) xs (c ∙ sym (append_snoc seen x xs))
      (omega (arith, length-append seen (x ∷ []), l)) w k) h
    where
      turned : (inside b : Bool) → is_separator x ≡ b → (inside ≡ false → gap_before seen ≡ true)
          → ((t : Bool) → (t ≡ false → gap_before (seen ++ (x ∷ [])) ≡ true) → In p (line_words_from t (suc at) xs) → Run line p)
          → In p (stepped inside b at x xs) → Run line p
      turned inside true e g f k = f false (λ _. last_gap seen x ∙ e) k
      turned true false e g f k = f true (λ q. let z : ◌≡◌ {A = ℕ} 0 1 = cc in absurd (omega arith)) k
      turned false false e g f (inl k) = begins_run seen at x xs c l (g refl) e k
      turned false false e g f (inr k) = f true (λ q. let z : ◌≡◌ {A = ℕ} 0 1 = cc in absurd (omega arith)) k

  pub words_are_runs : In p (line_words line) → Run line p
  unfolding line_words
  words_are_runs h = in_runs false [] 0 line refl refl (λ _. refl) h

-- ---- and each such run is one of the words
until_run : (w after : List ℕ) → no_gap w ≡ true → gap_after after ≡ true → until_gap (w ++ after) ≡ w
unfolding until_gap
until_run [] [] n g = refl
until_run [] (x ∷ xs) n g = rw g
until_run (x ∷ w) after n g = turned (is_separator x) n (λ k. until_run w after k g)
  where
    turned : (b : Bool) → pick b false (no_gap w) ≡ true → (no_gap w ≡ true → until_gap (w ++ after) ≡ w)
        → pick b [] (x ∷ until_gap (w ++ after)) ≡ x ∷ w
    turned true h f = let z : ◌≡◌ {A = ℕ} 0 1 = cc in absurd (omega arith)
    turned false h f = ap (λ ys. x ∷ ys) (f h)

pub first_letter : (x : ℕ) (w : List ℕ) → no_gap (x ∷ w) ≡ true → is_separator x ≡ false
first_letter x w h = turned (is_separator x) h
  where
    turned : (b : Bool) → pick b false (no_gap w) ≡ true → b ≡ false
    turned true k = let z : ◌≡◌ {A = ℕ} 0 1 = cc in absurd (omega arith)
    turned false k = refl

module _ (w after : List ℕ) (some : length w ≡ 0 → ⊥) (n : no_gap w ≡ true) (g : gap_after after ≡ true) where
  -- where it begins, with nothing or a gap before
  here : (at : ℕ) (v : List ℕ) → v ≡ w → In (record { start = at; letters = w }) (line_words_from false at (v ++ after))
  unfolding line_words_from
  here at [] e = absurd (some (ap length (sym e)))
  here at (x ∷ v) e =
      let k : no_gap (x ∷ v) ≡ true = ap no_gap e ∙ n in
      rw (first_letter x v k) (inl (λ i. record { start = at; letters = (sym e ∙ sym (until_run (x ∷ v) after k g)) i }))

  there : (inside : Bool) (at start : ℕ) (before : List ℕ) → start ≡ at + length before → gap_before before ≡ true
      → (length before ≡ 0 → inside ≡ false) → In (record { start = start; letters = w }) (line_words_from inside at (before ++ (w ++ after)))
  unfolding line_words_from
  there inside at start [] s b f =
      let q : start ≡ at = omega (arith, s) in
      rw (f refl) (rw q (here at w refl))
  there inside at start (y ∷ []) s b f = rw b (there false (suc at) start [] (omega (arith, s)) refl (λ _. refl))
  there inside at start (y ∷ (z ∷ ys)) s b f =
      turned inside (is_separator y) (λ t. there t (suc at) start (z ∷ ys) (omega (arith, s)) b (λ h. absurd (suc-ne-zero _ h)))
    where
      left : List ℕ
      left = z ∷ (ys ++ (w ++ after))

      turned : (inside c : Bool) → ((t : Bool) → In (record { start = start; letters = w }) (line_words_from t (suc at) left))
          → In (record { start = start; letters = w }) (stepped inside c at y left)
      turned inside true k = k false
      turned true false k = k true
      turned false false k = inr (k true)

pub runs_are_words : (line : List ℕ) (p : Placed) → Run line p → In p (line_words line)
unfolding line_words
runs_are_words line p r =
    subst (λ xs. In p (line_words_from false 0 xs)) (sym r.cut)
    (there p.letters r.after r.some r.whole r.right false 0 p.start r.before (omega (arith, r.starts)) r.left
    (λ _. refl))

-- ---- in their order, and so each once
abbrev pub Ascend : ℕ → List Placed → Type 0
Ascend at [] = Unit
Ascend at (p ∷ ps) = (at ≤ p.start) × Ascend (suc p.start) ps

later : (m n : ℕ) (ps : List Placed) → m ≤ n → Ascend n ps → Ascend m ps
later m n [] l h = tt
later m n (p ∷ ps) l h = (omega (arith, l, h.0), h.1)

ascends_from : (inside : Bool) (at : ℕ) (xs : List ℕ) → Ascend at (line_words_from inside at xs)
unfolding line_words_from
ascends_from inside at [] = tt
ascends_from inside at (x ∷ xs) = turned inside (is_separator x) (ascends_from false (suc at) xs) (ascends_from true (suc at) xs)
  where
    turned : (inside b : Bool) → Ascend (suc at) (line_words_from false (suc at) xs) → Ascend (suc at) (line_words_from true (suc at) xs)
        → Ascend at (stepped inside b at x xs)
    turned inside true f t = later at (suc at) (line_words_from false (suc at) xs) (omega arith) f
    turned true false f t = later at (suc at) (line_words_from true (suc at) xs) (omega arith) t
    turned false false f t = (omega arith, t)

pub words_ascend : (line : List ℕ) → Ascend 0 (line_words line)
unfolding line_words
words_ascend line = ascends_from false 0 line

-- the words of a line are its longest runs without a gap's letter
pub words_exactly : (line : List ℕ) (p : Placed) → (In p (line_words line) → Run line p) × (Run line p → In p (line_words line))
words_exactly line p = (words_are_runs line p, runs_are_words line p)
