-- What soundness tells of a state, and that it is kept: every state that a part leaves of a sound one is sound.
use Rattle.std.specs.Prelude.{Err, Ok, Result}
use Prim.Native.Nat.{ℕ, zero, suc, ◌+◌, ◌*◌, ◌-◌, ◌%◌, ◌<◌, ◌≤◌}
use mathlib.Core.Path.{◌≡◌, refl, ◌∙◌}
use mathlib.Core.Bool.{Bool, true, false}
use mathlib.Core.List.{List, [], ◌∷◌}
use mathlib.Core.Logic.{◌⊎◌, inl, inr}
use native.Mathlib.Omega.{arith}
use lib.Dec.{eqb, ltb}
use lib.ListN.{length, set, length-set}
use borrow.Author.Tests.{ltb-false, leb-true, eqb-true, eqb-false, le-leb, eq-eqb}
use Rattle.p0_choice.proofs.Choices.{pick_both}
use Rattle.p0_choice.proofs.Tests.{both_are, are_both, is_either}
use Rattle.p0_refusals.specs.Limits.{letter_limit}
use Rattle.p0_refusals.specs.declared.Refusal.{Refusal}
use Rattle.p0_refusals.specs.declared.Refusal.TheVariants as Refusals
use Rattle.p0_refusals.specs.declared.Refusal.TheVariants.{Foreign, Long}
use Rattle.p4_spelling.specs.Verdict.{longest_length}
use Rattle.p4_note_line.specs.Line.{line_limit, taking, whether}
use Rattle.p4_note_line.specs.declared.Report.{Report}
use Rattle.p4_note_line.specs.declared.Taken.{Taken}
use Rattle.p4_note_parts.specs.declared.Line.{Line}
use Rattle.p4_note_parts.specs.State.{Standing, blank_letters, begun, in_word, letters_fit, counts_fit, end_fits, line_sound}
use Rattle.p4_note_parts.specs.Parts.{open_accepted, word_more, counted_all, gap_taken, letter_taken, ended, while_going, taken, part_taken}
use Rattle.p4_note_parts.proofs.Taking.{taking_cases}

-- ---- the kept letters
blank_fits : (n : ℕ) → letters_fit 0 (blank_letters n) ≡ true
unfolding letters_fit
blank_fits zero = refl
blank_fits (suc n) = blank_fits n

-- with no open word the room is blank
pub blank_kept : (kept : List ℕ) → letters_fit 0 kept ≡ true → kept ≡ blank_letters (length kept)
unfolding letters_fit
blank_kept [] e = refl
blank_kept (x ∷ kept) e =
    let q = both_are (eqb x 0) (letters_fit 0 kept) e in rw (eqb-true x 0 q.0, ← blank_kept kept q.1)

-- one more is kept, or the room is full
letters_more : (run : ℕ) (kept : List ℕ) (x : ℕ) → letters_fit run kept ≡ true → in_word x ≡ true
    → letters_fit (suc run) (set kept run x) ≡ true
unfolding letters_fit
letters_more zero [] x e h = refl
letters_more (suc run) [] x e h = refl
letters_more zero (y ∷ ys) x e h = are_both (in_word x) (letters_fit 0 ys) h (both_are (eqb y 0) (letters_fit 0 ys) e).1
letters_more (suc run) (y ∷ ys) x e h =
    let q = both_are (in_word y) (letters_fit run ys) e in
    are_both (in_word y) (letters_fit (suc run) (set ys run x)) q.0 (letters_more run ys x q.1 h)

letters_full : (run : ℕ) (kept : List ℕ) → letters_fit run kept ≡ true → length kept ≤ run → letters_fit (suc run) kept ≡ true
unfolding letters_fit
letters_full run [] e l = refl
letters_full zero (y ∷ ys) e l = absurd (omega arith)
letters_full (suc run) (y ∷ ys) e l =
    let q = both_are (in_word y) (letters_fit run ys) e in
    are_both (in_word y) (letters_fit (suc run) ys) q.0 (letters_full run ys q.1 (omega arith))

-- ---- the counts, of so many letters, the last `run` of them an open word's
pub record Counting (length run : ℕ) (n : Report) : Type 0 where
  pub none : n.noes ≡ 0 → n.first ≡ 0
  pub some : n.noes ≤ n.words
  pub room : n.first + 2 * n.noes + run ≤ length
  pub pairs : 2 * n.words + run + n.first % 2 ≤ length

-- those of the words that have ended
abbrev pub before : Line → Report
before s = record { words = s.words; noes = s.noes; first = s.first }

module _ (s : Line) where
  -- the test of the counts tells that, and no more
  pub counts_told : counts_fit s ≡ true → Counting s.length s.run (before s)
  unfolding counts_fit
  counts_told h =
      pick_both (λ (b : Bool). b ≡ true → Counting s.length s.run (before s)) (eqb s.noes 0) _ _
      (λ e t.
      let q = both_are _ _ t in
      let n : s.noes ≡ 0 = eqb-true _ _ e in
      let f : s.first ≡ 0 = eqb-true _ _ q.0 in
      let l : 2 * s.words + s.run ≤ s.length = leb-true _ _ q.1 in
      record { none = λ z. f; some = omega arith; room = omega arith; pairs = omega arith })
      (λ e t.
      let q = both_are _ _ t in
      let p = both_are _ _ q.1 in
      record {
        none = λ z. absurd (eqb-false _ _ e z);
        some = leb-true _ _ q.0;
        room = leb-true _ _ p.0;
        pairs = leb-true _ _ p.1;
      }) h

  counts_fit_lem : Counting s.length s.run (before s) → counts_fit s ≡ true
  unfolding counts_fit
  counts_fit_lem c =
      pick_both (λ (b : Bool). b ≡ true) (eqb s.noes 0) _ _
      (λ e. are_both _ _ (eq-eqb _ _ (c.none (eqb-true _ _ e))) (le-leb (2 * s.words + s.run) s.length (omega arith)))
      (λ e. are_both _ _ (le-leb _ _ c.some) (are_both _ _ (le-leb _ _ c.room) (le-leb _ _ c.pairs)))

-- ---- the end: what a line can stand at
pub end_cases : (P : Standing → Type 0) (t : Standing) (length run : ℕ) → P (Ok tt) → P (Err Foreign)
    → (end_fits (Err Long) length run ≡ true → P (Err Long)) → end_fits t length run ≡ true → P t
end_cases P (Ok u) length run going foreign long e = going
end_cases P (Err Foreign) length run going foreign long e = foreign
end_cases P (Err Long) length run going foreign long e = long e
end_cases P (Err Refusals.Full) length run going foreign long e = cc
end_cases P (Err Refusals.Short) length run going foreign long e = cc
end_cases P (Err Refusals.Empty) length run going foreign long e = cc
end_cases P (Err Refusals.NoUndo) length run going foreign long e = cc
end_cases P (Err Refusals.NoWord) length run going foreign long e = cc
end_cases P (Err Refusals.Malformed) length run going foreign long e = cc
end_cases P (Err Refusals.NoMethod) length run going foreign long e = cc
end_cases P (Err Refusals.Unsound) length run going foreign long e = cc
end_cases P (Err Refusals.NoDraft) length run going foreign long e = cc

-- ---- soundness, as facts
pub record Facts (s : Line) : Type 0 where
  pub line : s.length ≤ line_limit
  pub word : s.run ≤ letter_limit
  pub counts : Counting s.length s.run (before s)
  pub end : end_fits s.standing s.length s.run ≡ true
  pub letters : letters_fit s.run s.letters ≡ true

module _ (s : Line) where
  -- a sound state has the facts, and a state that has them is sound
  pub sound_facts : line_sound s ≡ true → Facts s
  unfolding line_sound
  sound_facts h =
      let a = both_are _ _ h in
      let b = both_are _ _ a.1 in
      let c = both_are _ _ b.1 in
      let d = both_are _ _ c.1 in
      record {
        line = leb-true _ _ a.0;
        word = leb-true _ _ b.0;
        counts = counts_told s c.0;
        end = d.0;
        letters = d.1;
      }

  pub facts_sound : Facts s → line_sound s ≡ true
  unfolding line_sound
  facts_sound f =
      are_both _ _ (le-leb _ _ f.line)
      (are_both _ _ (le-leb _ _ f.word) (are_both _ _ (counts_fit_lem s f.counts) (are_both _ _ f.end f.letters)))

-- a new line is sound
pub begun_sound : line_sound begun ≡ true
unfolding line_sound begun counts_fit letters_fit
begun_sound = refl

-- ---- a letter more. A gap: the open word is counted with the others
module _ (s : Line) (h : line_sound s ≡ true) where
  word_counted : (b : Bool) → 0 < s.run
      → Counting (suc s.length) 0 (word_more s.words s.noes s.first (s.length - s.run) b)
  word_counted true l =
      let c = (sound_facts s h).counts in record { none = c.none; some = omega arith; room = omega arith; pairs = omega arith }
  word_counted false l =
      let c = (sound_facts s h).counts in
      pick_both (λ (f : ℕ). Counting (suc s.length) 0 (record { words = suc s.words; noes = suc s.noes; first = f }))
      (eqb s.noes 0) (s.length - s.run) s.first
      (λ e.
      let z : s.noes ≡ 0 = eqb-true _ _ e in
      record { none = λ q. absurd (omega arith); some = omega arith; room = omega arith; pairs = omega arith })
      (λ e. record { none = λ q. absurd (omega arith); some = omega arith; room = omega arith; pairs = omega arith })

  gap_counted : Counting (suc s.length) 0 (counted_all s)
  unfolding counted_all
  gap_counted =
      let c = (sound_facts s h).counts in
      pick_both (λ (n : Report). Counting (suc s.length) 0 n) (eqb s.run 0) _ _
      (λ e. record { none = c.none; some = c.some; room = omega arith; pairs = omega arith })
      (λ e.
      let d : (s.run ≡ 0 → ⊥) = eqb-false _ _ e in word_counted (open_accepted s.run s.letters) (omega arith))

  pub gap_sound : s.length < line_limit → line_sound (gap_taken s) ≡ true
  unfolding gap_taken
  gap_sound l =
      facts_sound (gap_taken s)
      (record { line = omega arith; word = omega arith; counts = gap_counted; end = refl; letters = blank_fits longest_length })

  pub letter_sound : (x : ℕ) → s.length < line_limit → s.run < letter_limit → in_word x ≡ true → length s.letters ≡ longest_length
      → line_sound (letter_taken s x) ≡ true
  unfolding letter_taken
  letter_sound x l r w k =
      let f = sound_facts s h in
      let c = f.counts in
      facts_sound (letter_taken s x)
      (record {
        line = omega arith;
        word = omega arith;
        counts = record { none = c.none; some = c.some; room = omega arith; pairs = omega arith };
        end = refl;
        letters =
            pick_both (λ (kept : List ℕ). letters_fit (suc s.run) kept ≡ true) (ltb s.run longest_length) _ _
            (λ e. letters_more s.run s.letters x f.letters w)
            (λ e. letters_full s.run s.letters f.letters (omega (arith, ltb-false s.run longest_length e)));
      })

  ended_sound : (why : Standing) → end_fits why s.length s.run ≡ true → line_sound (ended s why) ≡ true
  unfolding ended
  ended_sound why e =
      let f = sound_facts s h in
      facts_sound (ended s why) (record { line = f.line; word = f.word; counts = f.counts; end = e; letters = f.letters })

  pub foreign_sound : line_sound (ended s (Err Foreign)) ≡ true
  foreign_sound = ended_sound (Err Foreign) refl

  pub long_sound : (line_limit ≤ s.length) ⊎ (letter_limit ≤ s.run) → line_sound (ended s (Err Long)) ≡ true
  long_sound (inl l) =
      ended_sound (Err Long)
      (is_either (eqb s.run letter_limit) _ (eq-eqb s.length line_limit (omega (arith, (sound_facts s h).line))))
  long_sound (inr l) = ended_sound (Err Long) (rw (eq-eqb s.run letter_limit (omega (arith, (sound_facts s h).word))) refl)

-- a fact of a state that each kind of letter keeps is one of what is taken
taken_keeps : (P : Line → Type 0) (s : Line) (x : ℕ)
    → P s
    → (s.length < line_limit → P (gap_taken s))
    → (s.length < line_limit → s.run < letter_limit → in_word x ≡ true → P (letter_taken s x))
    → P (ended s (Err Foreign))
    → ((line_limit ≤ s.length) ⊎ (letter_limit ≤ s.run) → P (ended s (Err Long)))
    → P (taken s x)
unfolding taken
taken_keeps P s x old gap letter foreign long = go s.standing
  where
    go : (w : Standing)
        → P (while_going w (whether (taking s.length s.run x) (gap_taken s) (letter_taken s x) (λ r. ended s (Err r))) s)
    go (Ok u) =
        taking_cases (λ (t : Result Taken Refusal). P (whether t (gap_taken s) (letter_taken s x) (λ r. ended s (Err r))))
        s.length s.run x (λ l g. gap l) (λ l r w g. letter l r w) foreign long
    go (Err r) = old

-- ---- what is kept
-- the room for the letters of the open word
pub letters_kept : (s : Line) (x : ℕ) → length s.letters ≡ longest_length → length (taken s x).letters ≡ longest_length
unfolding gap_taken letter_taken ended
letters_kept s x k =
    taken_keeps (λ (t : Line). length t.letters ≡ longest_length) s x k (λ l. refl)
    (λ l r w. pick_both (λ (kept : List ℕ). length kept ≡ longest_length) (ltb s.run longest_length) _ _
    (λ e. length-set s.letters s.run x ∙ k) (λ e. k)) k (λ l. k)

pub part_kept : (s : Line) (xs : List ℕ) → length s.letters ≡ longest_length → length (part_taken s xs).letters ≡ longest_length
unfolding part_taken
part_kept s [] k = k
part_kept s (x ∷ xs) k = part_kept (taken s x) xs (letters_kept s x k)

-- soundness
pub taken_sound : (s : Line) (x : ℕ) → line_sound s ≡ true → length s.letters ≡ longest_length → line_sound (taken s x) ≡ true
taken_sound s x h k =
    taken_keeps (λ (t : Line). line_sound t ≡ true) s x h (gap_sound s h) (λ l r w. letter_sound s h x l r w k) (foreign_sound s h)
    (long_sound s h)

-- every state that is handed out is sound
pub part_sound : (s : Line) (xs : List ℕ) → line_sound s ≡ true → length s.letters ≡ longest_length → line_sound (part_taken s xs) ≡ true
unfolding part_taken
part_sound s [] h k = h
part_sound s (x ∷ xs) h k = part_sound (taken s x) xs (taken_sound s x h k) (letters_kept s x k)
