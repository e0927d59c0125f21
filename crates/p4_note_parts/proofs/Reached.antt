-- A state is sound exactly where it stands for some line. To reach a sound state: words of one letter and spaces make its counts, and the
-- open word's letters come after them.
use Rattle.std.specs.Prelude.{Err, Ok, Result}
use Prim.Native.Nat.{ℕ, zero, suc, ◌+◌, ◌*◌, ◌-◌, ◌/◌, ◌%◌, ◌<◌, ◌≤◌}
use mathlib.Core.Path.{◌≡◌, refl, sym, ap, ◌∙◌}
use mathlib.Core.Bool.{Bool, true, false}
use mathlib.Core.List.{List, [], ◌∷◌, ◌++◌}
use mathlib.Core.Logic.{⊎_elim}
use native.Mathlib.Omega.{arith}
use native.Mathlib.Nat.{add-zero, add-suc}
use lib.Dec.{eqb, ltb, eqb-suc-zero}
use lib.ListN.{length, get_or, set, length-set}
use lib.Seq.{set-set, set-get_or}
use borrow.Author.Tests.{lt-ltb, le-ltb, eqb-true}
use Rattle.p0_choice.specs.Choice.{pick}
use Rattle.p0_choice.specs.Text.{word, words}
use Rattle.p0_choice.proofs.Tests.{both_are, are_both, either_is}
use Rattle.p0_choice.proofs.Numbers.{below_or_not}
use Rattle.p0_refusals.specs.Limits.{letter_limit}
use Rattle.p0_refusals.specs.declared.Refusal.{Refusal}
use Rattle.p0_refusals.specs.declared.Refusal.TheVariants.{Foreign, Long}
use Rattle.p1_letters.specs.Alphabet.{small_by32, small_by1, small_high, small_next, is_small, is_ascii_capital, is_capital}
use Rattle.p1_letters.specs.Alphabet.{in_alphabet, is_white_space, is_separator, lower}
use Rattle.p1_letters.specs.Tones as Tones
use Rattle.p1_letters.specs.Vowels as Vowels
use Rattle.p4_rows.specs.Rows as Rows
use Rattle.p4_rows.specs.Lookup as Lookup
use Rattle.p4_spelling.specs.Cut as Cut
use Rattle.p4_spelling.specs.Verdict as Verdict
use Rattle.p4_spelling.specs.Verdict.{verdict, longest_length}
use Rattle.p4_note_line.specs.Line.{line_limit, taking}
use Rattle.p4_note_line.specs.declared.Report.{Report}
use Rattle.p4_note_line.specs.declared.Taken.{Taken}
use Rattle.p4_note_line.specs.declared.Taken.TheVariants as Takes
use Rattle.p4_note_parts.specs.State.{Standing, blank_letters, begun, in_word, letters_fit, line_sound, end_fits}
use Rattle.p4_note_parts.specs.Parts.{open_accepted, word_more, counted_all, gap_taken, letter_taken, ended, taken, part_taken}
use Rattle.p4_note_parts.specs.Reached.{Reached}
use Rattle.p4_note_parts.specs.declared.Line.{Line}
use Rattle.p4_note_parts.proofs.Soundness.{before, blank_kept, end_cases, sound_facts, begun_sound, part_kept, part_sound}
use Rattle.p4_note_parts.proofs.Taking.{going_taken}
use Rattle.p4_note_parts.proofs.Cutting.{part_append}

-- a letter more
more : (s t : Line) (x : ℕ) → taken s x ≡ t → Reached s → Reached t
unfolding part_taken
more s t x e r = (r.0 ++ (x ∷ []), sym e ∙ rw r.1 (sym (part_append begun r.0 (x ∷ []))))

-- "a" is a word that is judged yes, and "z" one that is judged no
a_yes : verdict (0x61 ∷ []) ≡ true
unfolding verdict Verdict.has_foreign Verdict.lowered Verdict.toneless Verdict.fits Verdict.parts_fit Verdict.in_rows_if_any Verdict.onset_fits
    Verdict.coda_fits Cut.before_vowel Cut.vowel_run Cut.starts_glued Cut.onset_end Cut.vowels_end Cut.onset_of Cut.vowels_of Cut.coda_of
    Rows.vowel_rows Lookup.same_word Lookup.in_list Lookup.rows_from Lookup.rows_of Lookup.in_rows lower is_ascii_capital small_by32 small_by1
    small_high small_next Tones.tone_rows Tones.off_in Tones.tone_off Vowels.vowels Vowels.is_spelling_vowel word words
a_yes = refl

z_no : verdict (0x7a ∷ []) ≡ false
unfolding verdict Verdict.has_foreign Verdict.lowered lower is_ascii_capital small_by32 small_by1 small_high small_next word
z_no = refl

a_in : in_word 0x61 ≡ true
unfolding in_word in_alphabet is_separator is_white_space word
a_in = refl

z_in : in_word 0x7a ≡ true
unfolding in_word in_alphabet is_separator is_white_space word
z_in = refl

-- ---- what a space, a letter that a word can have, a foreign letter and "a" past the limits are
space_gap : (at run : ℕ) → at < line_limit → taking at run 0x20 ≡ Ok Takes.Gap
unfolding taking in_alphabet is_separator is_white_space
space_gap at run l = rw (lt-ltb at line_limit l)

word_letter : (at run x : ℕ) → in_word x ≡ true → at < line_limit → run < letter_limit → taking at run x ≡ Ok Takes.Letter
unfolding taking in_word
word_letter at run x w l k = rw (lt-ltb at line_limit l, lt-ltb run letter_limit k) (go (in_alphabet x) (is_separator x) w)
  where
    go : (a b : Bool) → pick a (pick b false true) false ≡ true → pick a (pick b (Ok Takes.Gap) (Ok Takes.Letter)) (Err Foreign) ≡ Ok Takes.Letter
    go true true e = cc
    go true false e = refl
    go false b e = cc

x80_foreign : (at run : ℕ) → taking at run 0x80 ≡ Err Foreign
unfolding taking in_alphabet is_small is_capital is_ascii_capital small_by32 small_by1 small_high small_next word
x80_foreign at run = refl

a_long : (at run : ℕ) → end_fits (Err Long) at run ≡ true → taking at run 0x61 ≡ Err Long
unfolding taking in_alphabet is_separator is_white_space word
a_long at run e = ⊎_elim
    (λ p. rw (le-ltb run letter_limit (omega (arith, eqb-true run letter_limit p))) (go (ltb at line_limit)))
    (λ p. rw (le-ltb at line_limit (omega (arith, eqb-true at line_limit p))))
    (either_is (eqb run letter_limit) (eqb at line_limit) e)
  where
    go : (b : Bool) → ◌≡◌ {A = Result Taken Refusal} (pick b (Err Long) (Err Long)) (Err Long)
    go true = refl
    go false = refl

-- ---- a letter more of a line that goes on
module _ (s : Line) (g : s.standing ≡ Ok tt) (r : Reached s) where
  gap_reached : s.length < line_limit → Reached (gap_taken s)
  gap_reached l = more s (gap_taken s) 0x20 (going_taken s 0x20 g ∙ rw (space_gap s.length s.run l)) r

  letter_reached : (x : ℕ) → in_word x ≡ true → s.length < line_limit → s.run < letter_limit → Reached (letter_taken s x)
  letter_reached x w l k = more s (letter_taken s x) x (going_taken s x g ∙ rw (word_letter s.length s.run x w l k)) r

  foreign_reached : Reached (ended s (Err Foreign))
  foreign_reached = more s (ended s (Err Foreign)) 0x80 (going_taken s 0x80 g ∙ rw (x80_foreign s.length s.run)) r

  long_reached : end_fits (Err Long) s.length s.run ≡ true → Reached (ended s (Err Long))
  long_reached e = more s (ended s (Err Long)) 0x61 (going_taken s 0x61 g ∙ rw (a_long s.length s.run e)) r

-- ---- a line that goes on: its length, its open word's, the letters of that which are kept, and the words that have ended
abbrev line : ℕ → ℕ → List ℕ → Report → Line
line at run kept c =
    record {
      letters = kept;
      length = at;
      run = run;
      words = c.words;
      noes = c.noes;
      first = c.first;
      standing = Ok tt;
    }

-- ---- at a gap
abbrev rest : ℕ → Report → Line
rest at c = line at 0 (blank_letters longest_length) c

-- a space more
space : (at : ℕ) (c : Report) → at < line_limit → Reached (rest at c) → Reached (rest (suc at) c)
unfolding gap_taken counted_all
space at c l r = gap_reached (rest at c) refl r l

-- a word of one letter more, and a space
one : (x : ℕ) (v : Bool) (at : ℕ) (c : Report) → in_word x ≡ true → verdict (x ∷ []) ≡ v → suc at < line_limit
    → Reached (rest at c) → Reached (rest (suc (suc at)) (word_more c.words c.noes c.first at v))
unfolding gap_taken letter_taken counted_all open_accepted
one x v at c w e l r =
    let n : suc at - 1 ≡ at = omega arith in
    let q : gap_taken (letter_taken (rest at c) x) ≡ rest (suc (suc at)) (word_more c.words c.noes c.first at v) = rw (n, e) in
    rw (← q)
    (gap_reached (letter_taken (rest at c) x) refl (letter_reached (rest at c) refl r x w (omega arith) (omega arith)) (omega arith))

-- ---- as many of them as there is room for
abbrev counts : ℕ → ℕ → ℕ → Report
counts words noes first = record { words = words; noes = noes; first = first }

module _ (first : ℕ) where
  -- the line with these counts is reached
  abbrev At : ℕ → ℕ → ℕ → Type 0
  At at words noes = Reached (rest at (counts words noes first))

  at_same : {at at' words words' noes noes' : ℕ} → at ≡ at' → words ≡ words' → noes ≡ noes' → At at words noes → At at' words' noes'
  at_same p q o r = rw (← p, ← q, ← o) r

  -- spaces, words judged yes, and more words judged no
  spaces : (k at words noes : ℕ) → at + k ≤ line_limit → At at words noes → At (at + k) words noes
  spaces zero at words noes l r = at_same (omega arith) refl refl r
  spaces (suc k) at words noes l r =
      at_same (omega arith) refl refl (spaces k (suc at) words noes (omega arith) (space at (counts words noes first) (omega arith) r))

  yeses : (k at words noes : ℕ) → at + 2 * k ≤ line_limit → At at words noes → At (at + 2 * k) (words + k) noes
  yeses zero at words noes l r = at_same (omega arith) (omega arith) refl r
  yeses (suc k) at words noes l r =
      at_same (omega arith) (omega arith) refl
      (yeses k (suc (suc at)) (suc words) noes (omega arith) (one 0x61 true at (counts words noes first) a_in a_yes (omega arith) r))

  noes_more : (k at words noes : ℕ) → at + 2 * k ≤ line_limit → At at words (suc noes) → At (at + 2 * k) (words + k) (suc noes + k)
  noes_more zero at words noes l r = at_same (omega arith) (omega arith) (omega arith) r
  noes_more (suc k) at words noes l r =
      at_same (omega arith) (omega arith) (omega arith)
      (noes_more k (suc (suc at)) (suc words) (suc noes) (omega arith)
      (rw (eqb-suc-zero noes) at (one 0x7a false at (counts words (suc noes) first) z_in z_no (omega arith) r)))

-- ---- every line at a gap whose counts fit
-- with no word judged no: all words, then spaces
none_no : (words at : ℕ) → 2 * words ≤ at → at ≤ line_limit → Reached (rest at (counts words 0 0))
unfolding part_taken begun
none_no words at l h =
    at_same 0 (omega arith) (omega arith) refl
    (spaces 0 (at - (0 + 2 * words)) (0 + 2 * words) (0 + words) 0 (omega arith) (yeses 0 words 0 0 0 (omega arith) ([], refl)))

-- with some: j words, then spaces up to the first one's place; those judged no, the other words, and spaces
some_no : (j noes first words at : ℕ) → 2 * j ≤ first → suc noes + j ≤ words → first + 2 * words ≤ at + 2 * j → at ≤ line_limit
    → Reached (rest at (counts words (suc noes) first))
some_no j noes first words at a b d h =
    at_same first (omega arith) (omega arith) (omega arith)
    (spaces first (at - (past + 2 * k)) (past + 2 * k) (suc j + noes + k) (1 + noes) (omega arith)
    (yeses first k past (suc j + noes) (1 + noes) (omega arith)
    (noes_more first noes (suc (suc first)) (suc j) 0 (omega arith)
    (one 0x7a false first (counts j 0 0) z_in z_no (omega arith) (none_no j first a (omega arith))))))
  where
    past : ℕ
    past = suc (suc first) + 2 * noes

    k : ℕ
    k = words - (suc noes + j)

-- before the first one's place as many words as fit there, or all that are not judged no
gap_line : (at words noes first : ℕ) → (noes ≡ 0 → first ≡ 0) → noes ≤ words → first + 2 * noes ≤ at → 2 * words + first % 2 ≤ at
    → at ≤ line_limit → Reached (rest at (counts words noes first))
gap_line at words zero first z m a b l = rw (z refl) (none_no words at (omega arith) l)
gap_line at words (suc noes) first z m a b l =
    ⊎_elim
    (λ (h : words - suc noes < first / 2). some_no (words - suc noes) noes first words at (omega arith) (omega arith) (omega arith) l)
    (λ (h : first / 2 ≤ words - suc noes). some_no (first / 2) noes first words at (omega arith) (omega arith) (omega arith) l)
    (below_or_not (words - suc noes) (first / 2))

-- ---- an open word more
-- the kept letters of a word without its last letter, and of one whose last is not kept
last_kept : (run : ℕ) (kept : List ℕ) → letters_fit (suc run) kept ≡ true → run < length kept
    → (in_word (get_or kept run 0) ≡ true) × (letters_fit run (set kept run 0) ≡ true)
unfolding letters_fit
last_kept run [] e h = absurd (omega arith)
last_kept zero (x ∷ kept) e h = both_are (in_word x) (letters_fit 0 kept) e
last_kept (suc run) (x ∷ kept) e h =
    let q = both_are (in_word x) (letters_fit (suc run) kept) e in
    let p = last_kept run kept q.1 (omega arith) in
    (p.0, are_both (in_word x) (letters_fit run (set kept run 0)) q.0 p.1)

last_lost : (run : ℕ) (kept : List ℕ) → letters_fit (suc run) kept ≡ true → length kept ≤ run → letters_fit run kept ≡ true
unfolding letters_fit
last_lost run [] e h = refl
last_lost zero (x ∷ kept) e h = absurd (omega arith)
last_lost (suc run) (x ∷ kept) e h =
    let q = both_are (in_word x) (letters_fit (suc run) kept) e in
    are_both (in_word x) (letters_fit run kept) q.0 (last_lost run kept q.1 (omega arith))

-- a letter more of it
letter_on : (at : ℕ) (c : Report) (run : ℕ) (old kept : List ℕ) (x : ℕ) → at + suc run ≤ line_limit → suc run ≤ letter_limit
    → in_word x ≡ true → pick (ltb run longest_length) (set old run x) old ≡ kept → Reached (line (at + run) run old c)
    → Reached (line (at + suc run) (suc run) kept c)
unfolding letter_taken
letter_on at c run old kept x l h w e r =
    rw (← e, add-suc at run) (letter_reached (line (at + run) run old c) refl r x w (omega arith) (omega arith))

-- all of it, of a line that was at a gap: past the letters that are kept any will do
word_open : (at : ℕ) (c : Report) (run : ℕ) (kept : List ℕ) → Reached (rest at c) → at + run ≤ line_limit → run ≤ letter_limit
    → letters_fit run kept ≡ true → length kept ≡ longest_length → Reached (line (at + run) run kept c)
word_open at c zero kept r l h e k = rw (add-zero at, blank_kept kept e, k) r
word_open at c (suc run) kept r l h e k =
    ⊎_elim
    (λ (b : run < longest_length).
    let p = last_kept run kept e (omega arith) in
    letter_on at c run (set kept run 0) kept (get_or kept run 0) l h p.0
    (rw (lt-ltb run longest_length b, set-set kept run 0 (get_or kept run 0)) (set-get_or kept run 0))
    (word_open at c run (set kept run 0) r (omega arith) (omega arith) p.1 (length-set kept run 0 ∙ k)))
    (λ (b : longest_length ≤ run).
    letter_on at c run kept kept 0x61 l h a_in (rw (le-ltb run longest_length b))
    (word_open at c run kept r (omega arith) (omega arith) (last_lost run kept e (omega arith)) k))
    (below_or_not run longest_length)

-- ---- soundness says exactly that a state is reached: it says no more ..
pub reached_sound : (s : Line) → Reached s → (line_sound s ≡ true) × (length s.letters ≡ longest_length)
unfolding begun
reached_sound s r =
    (rw r.1 (part_sound begun r.0 begun_sound refl), ap (λ (t : Line). length t.letters) r.1 ∙ part_kept begun r.0 refl)

-- .. and no less
pub reached : (s : Line) → length s.letters ≡ longest_length → line_sound s ≡ true → Reached s
unfolding ended
reached s k h =
    end_cases (λ (t : Standing). Reached (ended s t)) s.standing s.length s.run going (foreign_reached (ended s (Ok tt)) refl going)
    (λ e. long_reached (ended s (Ok tt)) refl going e) (sound_facts s h).end
  where
    going : Reached (ended s (Ok tt))
    going =
        let f = sound_facts s h in
        let c = f.counts in
        let n : s.length - s.run + s.run ≡ s.length = omega arith in
        rw (← n)
        (word_open (s.length - s.run) (before s) s.run s.letters
        (gap_line (s.length - s.run) s.words s.noes s.first c.none c.some (omega arith) (omega arith) (omega arith))
        (omega arith) f.word f.letters k)
