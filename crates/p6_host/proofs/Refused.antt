-- After a refusal, whose number is not 0, what a definition gives is what stood in the lent place.
use Rattle.std.specs.Prelude.{Err, Ok, Result}
use Rattle.p0_refusals.specs.declared.Refusal.{Refusal}
use Prim.Native.Nat.{ℕ}
use mathlib.Core.Path.{◌≡◌, refl}
use mathlib.Core.Bool.{Bool, true, false}
use mathlib.Core.List.{List}
use native.Mathlib.Omega.{arith}
use lib.Dec.{eqb, leb}
use lib.ListN.{length}
use Rattle.p0_choice.specs.Choice.{pick}
use Rattle.p0_refusals.specs.Refusals.{number_of}
use Rattle.p0_refusals.specs.Answers.{Outcome, refusal_of, content, answer, unless, onto, output}
use Rattle.p0_refusals.specs.declared.Refusal.TheVariants.{Foreign, Unsound}
use Rattle.p1_letters.specs.Alphabet.{in_alphabet}
use Rattle.p3_calls.specs.Output.{text_outcome, removal_outcome, removed}
use Rattle.p3_cells.specs.Leaving.{leaving}
use Rattle.p3_cells.specs.declared.After.{After}
use Rattle.p3_key.specs.Process.{key_outcome, keyed}
use Rattle.p4_note_line.specs.Line.{checked_number}
use Rattle.p4_note_line.specs.declared.Report.{Report}
use Rattle.p4_note_parts.specs.Parts.{part_taken, part_after, standing_answer}
use Rattle.p4_note_parts.specs.State.{Standing, begun, line_sound}
use Rattle.p4_note_parts.specs.declared.Line.{Line}
use Rattle.p4_note_parts.proofs.Soundness.{end_cases, sound_facts, part_sound}
use Rattle.p4_note_parts.proofs.Cutting.{sound_answer}
use Rattle.p4_spelling.specs.Answers.{cut_number, verdict_number}
use Rattle.p4_spelling.specs.declared.CutPlaces.{CutPlaces}
use Rattle.p6_bytes.specs.Bytes.{bytes_of, bytes_sound, composition_of}
use Rattle.p6_composition.specs.Calls.{answer_on, bytes_on, out_on, key_on, removal_on, text_on, new_on, new_bytes}
use Rattle.p6_draft.specs.Draft.{Reading}
use Rattle.p6_draft_calls.specs.Calls.{read_on, read_bytes}
use Rattle.p4_spelling.specs.Verdict.{longest_length}
use Rattle.p6_note_bytes.proofs.Reading.{kept_length}
use Rattle.p6_note_bytes.specs.Bytes.{kept_start, line_size, line_bytes, line_of, line_bytes_sound}
use Rattle.p6_note_bytes.specs.Calls.{line_begin_on, line_begin_bytes, line_part_on, line_part_bytes}
use Rattle.p6_note_bytes.proofs.Kept.{bytes_line}
use Rattle.p6_host.specs.CompositionCalls.{sound_code, sound_out}
use Rattle.p6_host.specs.Counts.{count_out, behaviour_out}
use Rattle.p6_host.specs.LineCalls.{words_out, no_out, first_out}
use Rattle.p6_host.specs.LetterCalls.{letter_code, letter_out, tone_code, tone_out}
use Rattle.p6_host.specs.MethodCalls.{key_code, key_out, mark_code, mark_out}
use Rattle.p6_host.specs.SpellerCalls.{onset_out, vowels_out, verdict_out}

-- ---- an answer about letters: one test after another, each with its refusal
test_kept : (v : Bool) (m k new old : ℕ) → ((m ≡ 0 → ⊥) → new ≡ old) → (pick v m k ≡ 0 → ⊥) → pick v new old ≡ old
test_kept true m k new old f h = f h
test_kept false m k new old f h = refl

module _ (a old : ℕ) where
  pub letter_kept : (x : ℕ) → (letter_code x ≡ 0 → ⊥) → letter_out x a old ≡ old
  unfolding letter_code letter_out
  letter_kept x h = test_kept (in_alphabet x) 0 (number_of Foreign) a old (λ f. absurd (f refl)) h

  pub tone_kept : (x t : ℕ) → (tone_code x t ≡ 0 → ⊥) → tone_out x t a old ≡ old
  unfolding tone_code tone_out
  tone_kept x t h = test_kept (in_alphabet x) (letter_code t) (number_of Foreign) (letter_out t a old) old (letter_kept t) h

  pub method_key_kept : (m key : ℕ) → (key_code m key ≡ 0 → ⊥) → key_out m key a old ≡ old
  unfolding key_code key_out
  method_key_kept m key h = test_kept (leb m 1) (letter_code key) (number_of Unsound) (letter_out key a old) old (letter_kept key) h

  pub mark_kept : (m base key : ℕ) → (mark_code m base key ≡ 0 → ⊥) → mark_out m base key a old ≡ old
  unfolding mark_code mark_out
  mark_kept m base key h = test_kept (leb m 1) (tone_code base key) (number_of Unsound) (tone_out base key a old) old (tone_kept base key) h

  pub sound_kept : (b : List ℕ) → (sound_code b ≡ 0 → ⊥) → sound_out b a old ≡ old
  unfolding sound_code sound_out
  sound_kept b h = test_kept (bytes_sound b) 0 (number_of Unsound) a old (λ f. absurd (f refl)) h

-- ---- a cut, and a verdict
pub onset_kept : (g : Result CutPlaces Refusal) (old : ℕ) → (cut_number g ≡ 0 → ⊥) → onset_out g old ≡ old
onset_kept (Ok p) old h = absurd (h refl)
onset_kept (Err r) old h = refl

pub vowels_kept : (g : Result CutPlaces Refusal) (old : ℕ) → (cut_number g ≡ 0 → ⊥) → vowels_out g old ≡ old
vowels_kept (Ok p) old h = absurd (h refl)
vowels_kept (Err r) old h = refl

pub verdict_kept : (g : Result Bool Refusal) (old : ℕ) → (verdict_number g ≡ 0 → ⊥) → verdict_out g old ≡ old
verdict_kept (Ok b) old h = absurd (h refl)
verdict_kept (Err r) old h = refl

-- ---- a line, and its state's bytes
pub begin_kept : (b : List ℕ) → (refusal_of (line_begin_on b) ≡ 0 → ⊥) → line_begin_bytes b ≡ b
unfolding line_begin_on line_begin_bytes
begin_kept b h = go (eqb (length b) line_size) h
  where
    go : (t : Bool) → (refusal_of (pick t (Ok 0) (Err Unsound)) ≡ 0 → ⊥) → pick t (line_bytes begun) b ≡ b
    go true k = absurd (k refl)
    go false k = refl

taken_sound : (b xs : List ℕ) → line_bytes_sound b ≡ true → line_sound (part_taken (line_of b) xs) ≡ true
unfolding line_of
taken_sound b xs e = part_sound (line_of b) xs (bytes_line b e) (kept_length longest_length b kept_start)

-- "refusal 10 leaves the state too as it was", and is given for a state that is not sound alone
pub part_kept : (b xs : List ℕ) → refusal_of (line_part_on b xs) ≡ number_of Unsound → (line_bytes_sound b ≡ false) × (line_part_bytes b xs ≡ b)
unfolding line_part_on line_part_bytes
part_kept b xs h = go (line_bytes_sound b) refl h
  where
    never : (s : Line) → line_sound s ≡ true → refusal_of (standing_answer s.standing) ≡ number_of Unsound → ⊥
    never s h =
        end_cases (λ (t : Standing). refusal_of (standing_answer t) ≡ number_of Unsound → ⊥) s.standing s.length s.run
        (λ k. omega (arith, k)) (λ k. omega (arith, k)) (λ e k. omega (arith, k)) (sound_facts s h).end

    go : (t : Bool) → line_bytes_sound b ≡ t → refusal_of (pick t (part_after (line_of b) xs).answer (Err Unsound)) ≡ number_of Unsound
        → (t ≡ false) × (pick t (line_bytes (part_after (line_of b) xs).line) b ≡ b)
    go true e k = absurd (never (part_taken (line_of b) xs) (taken_sound b xs e) (rw (sound_answer (line_of b) (bytes_line b e) xs) at k))
    go false e k = (refl, refl)

module _ (old : ℕ) where
  pub words_kept : (g : Result Report Refusal) → (checked_number g ≡ 0 → ⊥) → words_out g old ≡ old
  words_kept (Ok n) h = absurd (h refl)
  words_kept (Err r) h = refl

  pub no_kept : (g : Result Report Refusal) → (checked_number g ≡ 0 → ⊥) → no_out g old ≡ old
  no_kept (Ok n) h = absurd (h refl)
  no_kept (Err r) h = refl

  pub first_kept : (g : Result Report Refusal) → (checked_number g ≡ 0 → ⊥) → first_out g old ≡ old
  first_kept (Ok n) h = absurd (h refl)
  first_kept (Err r) h = refl

-- ---- what every other call answers
unless_kept : {A : Type 0} (g : Result ℕ Refusal) (old new : A) → (refusal_of g ≡ 0 → ⊥) → unless g old new ≡ old
unless_kept (Ok n) old new h = absurd (h refl)
unless_kept (Err r) old new h = refl

pub count_kept : (g : Result ℕ Refusal) (old : ℕ) → (refusal_of g ≡ 0 → ⊥) → count_out g old ≡ old
count_kept (Ok n) old h = absurd (h refl)
count_kept (Err r) old h = refl

pub behaviour_kept : (g : Result ℕ Refusal) (old : ℕ) → (refusal_of g ≡ 0 → ⊥) → behaviour_out g old ≡ old
behaviour_kept (Ok n) old h = absurd (h refl)
behaviour_kept (Err r) old h = refl

pub output_kept : (u : Outcome) (o : List ℕ) → (refusal_of (answer u (length o)) ≡ 0 → ⊥) → output u o ≡ o
unfolding output
output_kept u o h = unless_kept (answer u (length o)) o (onto (content u) o) h

-- ---- a composition's bytes, and an output beside them
pub bytes_kept : (b : List ℕ) (k : After) → (refusal_of (answer_on b k) ≡ 0 → ⊥) → bytes_on b k ≡ b
unfolding bytes_on
bytes_kept b k h = unless_kept (answer_on b k) b (bytes_of k.comp) h

pub new_kept : (b : List ℕ) (m : ℕ) → (refusal_of (new_on b m) ≡ 0 → ⊥) → new_bytes b m ≡ b
unfolding new_bytes
new_kept b m h = unless_kept (new_on b m) b _ h

out_kept : (v : Bool) (u : Outcome) (o : List ℕ) → (refusal_of (pick v (answer u (length o)) (Err Unsound)) ≡ 0 → ⊥)
    → pick v (output u o) o ≡ o
out_kept true u o h = output_kept u o h
out_kept false u o h = refl

module _ (b o : List ℕ) where
  pub text_out_kept : (refusal_of (text_on b (length o)) ≡ 0 → ⊥) → out_on b (text_outcome (composition_of b)) o ≡ o
  unfolding text_on out_on
  text_out_kept h = out_kept (bytes_sound b) (text_outcome (composition_of b)) o h

  pub removal_out_kept : (refusal_of (answer_on b (removal_on b o)) ≡ 0 → ⊥) → out_on b (removal_outcome (composition_of b)) o ≡ o
  unfolding answer_on out_on removal_on removed leaving
  removal_out_kept h = out_kept (bytes_sound b) (removal_outcome (composition_of b)) o h

  pub key_out_kept : (key : ℕ) → (refusal_of (answer_on b (key_on b key o)) ≡ 0 → ⊥) → out_on b (key_outcome (composition_of b) key) o ≡ o
  unfolding answer_on out_on key_on keyed leaving
  key_out_kept key h = out_kept (bytes_sound b) (key_outcome (composition_of b) key) o h

-- ---- a draft that is read
pub reading_kept : (u : Reading) (b : List ℕ) → (refusal_of (read_on u b) ≡ 0 → ⊥) → read_bytes u b ≡ b
unfolding read_bytes
reading_kept u b h = unless_kept (read_on u b) b _ h
