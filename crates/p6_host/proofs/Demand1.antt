-- Demand 1, "A refusal alters neither the composition nor any lent buffer": said of each call's own contract, as Rattle reads
-- it out of src/. Wherever the number returned is not 0, every lent place ends as it began, count and yes places too.
-- `pasdrongel_composition_bytes` alone has no law here: it is lent nothing, and returns no refusal. `pasdrongel_line_part` is "the one
-- exception to demand 1": its state records refusals 1 and 6, and its law is of refusal 10.
use Rattle.std.specs.Prelude.{Result}
use Rattle.p0_refusals.specs.declared.Refusal.{Refusal}
use Prim.Native.Nat.{ℕ}
use mathlib.Core.Path.{◌≡◌, refl, sym, ◌∙◌}
use mathlib.Core.List.{List}
use native.Mathlib.Omega.{arith}
use lib.ListN.{length}
use mir.Syntax.{w32}
use contract.Lifetimes.{Lfts}
use denote.Ref.{MutBor, at_last}
use denote.Triple.Clauses.{Lasts, AtExit, at_exit}
use borrow.Fn.Kinds.{ParamKind, Out, Dens, ended_of, r_num}
use Rattle.p0_refusals.specs.Answers.{Outcome, refusal_of, answer, output}
use Rattle.p0_refusals.specs.Refusals.{number_of}
use Rattle.p0_refusals.specs.declared.Refusal.TheVariants.{Unsound}
use Rattle.p3_cells.specs.declared.After.{After}
use Rattle.p4_note_line.specs.Line.{line_answer, checked_number}
use Rattle.p4_note_line.specs.declared.Report.{Report}
use Rattle.p4_spelling.specs.Answers.{cut_answer, verdict_answer}
use Rattle.p5_utf8_text.specs.Read.{reading}
use Rattle.p5_utf8_text.specs.Write.{writing}
use Rattle.p6_composition.specs.Calls.{answer_on, bytes_on, key_on, reset_on, literal_on, removal_on, undo_on, method_on, mode_on, capitals_on}
use Rattle.p6_composition.specs.Calls.{text_on}
use Rattle.p6_draft_calls.specs.Calls.{bytes_outcome}
use Rattle.p6_note_bytes.specs.Calls.{line_answer_on}
use Rattle.p6_host.specs.Counts.{count_out}
use Rattle.p6_host.specs.LineCalls.{words_out, no_out, first_out}
use Rattle.p6_host.proofs.Refused.{letter_kept, tone_kept, method_key_kept, mark_kept, sound_kept, onset_kept, vowels_kept}
use Rattle.p6_host.proofs.Refused.{verdict_kept, count_kept, behaviour_kept, output_kept, bytes_kept, new_kept, text_out_kept}
use Rattle.p6_host.proofs.Refused.{removal_out_kept, key_out_kept, reading_kept, begin_kept, part_kept, words_kept, no_kept}
use Rattle.p6_host.proofs.Refused.{first_kept}
use Rattle.p6_host.proofs.composition as composition
use Rattle.p6_host.proofs.drafts as drafts
use Rattle.p6_host.proofs.input_method as method
use Rattle.p6_host.proofs.letters as letters
use Rattle.p6_host.proofs.lines as lines
use Rattle.p6_host.proofs.lister as lister
use Rattle.p6_host.proofs.speller as speller
use Rattle.p6_host.proofs.utf8 as utf8

-- z is the number returned and w the last contents, of which the `ensures` tells: if z is not 0, what the caller sees at the
-- end of all that it handed in is what it handed in, each lent place with its content. `asLent` is (λ κs a. a) in each law; it
-- has its type where a caller can see the contents of every lent place at the end, and not else.
module _ {n : ℕ} (ps : List (ParamKind n)) (Learnt : Out n ps (r_num w32))
    (asLent : (κs : Lfts n) → Dens κs ps → AtExit (ended_of n ps (r_num w32)) κs) where
  abbrev pub Keeps : Type 0
  Keeps =
      (κs : Lfts n) (a : Dens κs ps) (z : ℕ) (w : Lasts (ended_of n ps (r_num w32)) κs a)
      → Learnt κs a z (at_exit (ended_of n ps (r_num w32)) κs a w) → (z ≡ 0 → ⊥)
      → at_exit (ended_of n ps (r_num w32)) κs a w ≡ asLent κs a

  -- the same of a refusal's number alone
  abbrev pub KeepsAt : ℕ → Type 0
  KeepsAt m =
      (κs : Lfts n) (a : Dens κs ps) (z : ℕ) (w : Lasts (ended_of n ps (r_num w32)) κs a)
      → Learnt κs a z (at_exit (ended_of n ps (r_num w32)) κs a w) → z ≡ m → at_exit (ended_of n ps (r_num w32)) κs a w ≡ asLent κs a

-- ---- the arguments one after another, where the number is m: x is not written, the place p ends as u
beside : {A B : Type 0} (x : A) {y y' : B} → y ≡ y' → ◌≡◌ {A = A × B} (x, y) (x, y')
beside x e i = (x, e i)

module _ {A X : Type 0} (p : MutBor X) {z m : ℕ} {w u : X} {y y' : A} (k : (m ≡ 0 → ⊥) → u ≡ p.now) where
  lent : (z ≡ m) × (w ≡ u) → (z ≡ 0 → ⊥) → y ≡ y' → ◌≡◌ {A = MutBor X × A} (at_last p w, y) (p, y')
  lent q h e i = (record { ref_ptr = p.ref_ptr; ghost_name = p.ghost_name; now = (q.1 ∙ k (λ d. h (q.0 ∙ d))) i }, e i)

-- ---- no place is lent to be written
pub check_letter_keeps : Keeps letters.pasdrongel_check_letter.Kinds.ps letters.pasdrongel_check_letter.Reads.Learnt (λ κs a. a)
check_letter_keeps κs a z w q h = refl

pub check_composition_keeps :
    Keeps composition.pasdrongel_check_composition.Kinds.ps composition.pasdrongel_check_composition.Reads.Learnt (λ κs a. a)
check_composition_keeps κs a z w q h = refl

-- ---- one number, after one argument
module _ {A : Type 0} (x : A) (p : MutBor ℕ) {z m w u : ℕ} (k : (m ≡ 0 → ⊥) → u ≡ p.now) (q : (z ≡ m) × (w ≡ u)) (h : z ≡ 0 → ⊥) where
  lent_number : ◌≡◌ {A = A × (MutBor ℕ × Unit {0})} (x, (at_last p w, tt)) (x, (p, tt))
  lent_number = beside x (lent p k q h refl)

pub lower_keeps : Keeps letters.pasdrongel_lower.Kinds.ps letters.pasdrongel_lower.Reads.Learnt (λ κs a. a)
lower_keeps κs a z w q h = lent_number a.0 a.1.0 (letter_kept _ _ a.0) q h

pub upper_keeps : Keeps letters.pasdrongel_upper.Kinds.ps letters.pasdrongel_upper.Reads.Learnt (λ κs a. a)
upper_keeps κs a z w q h = lent_number a.0 a.1.0 (letter_kept _ _ a.0) q h

pub is_capital_keeps : Keeps letters.pasdrongel_is_capital.Kinds.ps letters.pasdrongel_is_capital.Reads.Learnt (λ κs a. a)
is_capital_keeps κs a z w q h = lent_number a.0 a.1.0 (letter_kept _ _ a.0) q h

pub is_white_space_keeps : Keeps letters.pasdrongel_is_white_space.Kinds.ps letters.pasdrongel_is_white_space.Reads.Learnt (λ κs a. a)
is_white_space_keeps κs a z w q h = lent_number a.0 a.1.0 (letter_kept _ _ a.0) q h

pub is_separator_keeps : Keeps letters.pasdrongel_is_separator.Kinds.ps letters.pasdrongel_is_separator.Reads.Learnt (λ κs a. a)
is_separator_keeps κs a z w q h = lent_number a.0 a.1.0 (letter_kept _ _ a.0) q h

pub tone_off_keeps : Keeps letters.pasdrongel_tone_off.Kinds.ps letters.pasdrongel_tone_off.Reads.Learnt (λ κs a. a)
tone_off_keeps κs a z w q h = lent_number a.0 a.1.0 (letter_kept _ _ a.0) q h

pub is_composer_vowel_keeps :
    Keeps letters.pasdrongel_is_composer_vowel.Kinds.ps letters.pasdrongel_is_composer_vowel.Reads.Learnt (λ κs a. a)
is_composer_vowel_keeps κs a z w q h = lent_number a.0 a.1.0 (letter_kept _ _ a.0) q h

pub is_speller_vowel_keeps : Keeps letters.pasdrongel_is_speller_vowel.Kinds.ps letters.pasdrongel_is_speller_vowel.Reads.Learnt (λ κs a. a)
is_speller_vowel_keeps κs a z w q h = lent_number a.0 a.1.0 (letter_kept _ _ a.0) q h

pub tone_on_keeps : Keeps letters.pasdrongel_tone_on.Kinds.ps letters.pasdrongel_tone_on.Reads.Learnt (λ κs a. a)
tone_on_keeps κs a z w q h = beside a.0 (lent_number a.1.0 a.1.1.0 (tone_kept _ _ a.0 a.1.0) q h)

pub is_tone_key_keeps : Keeps method.pasdrongel_is_tone_key.Kinds.ps method.pasdrongel_is_tone_key.Reads.Learnt (λ κs a. a)
is_tone_key_keeps κs a z w q h = beside a.0 (lent_number a.1.0 a.1.1.0 (method_key_kept _ _ a.0 a.1.0) q h)

pub is_horn_key_keeps : Keeps method.pasdrongel_is_horn_key.Kinds.ps method.pasdrongel_is_horn_key.Reads.Learnt (λ κs a. a)
is_horn_key_keeps κs a z w q h = beside a.0 (lent_number a.1.0 a.1.1.0 (method_key_kept _ _ a.0 a.1.0) q h)

pub mark_for_keeps : Keeps method.pasdrongel_mark_for.Kinds.ps method.pasdrongel_mark_for.Reads.Learnt (λ κs a. a)
mark_for_keeps κs a z w q h =
    beside a.0 (beside a.1.0 (lent_number a.1.1.0 a.1.1.1.0 (mark_kept _ _ a.0 a.1.0 a.1.1.0) q h))

pub method_keeps : Keeps composition.pasdrongel_method.Kinds.ps composition.pasdrongel_method.Reads.Learnt (λ κs a. a)
method_keeps κs a z w q h = lent_number a.0 a.1.0 (sound_kept _ _ a.0.now) q h

pub mode_keeps : Keeps composition.pasdrongel_mode.Kinds.ps composition.pasdrongel_mode.Reads.Learnt (λ κs a. a)
mode_keeps κs a z w q h = lent_number a.0 a.1.0 (sound_kept _ _ a.0.now) q h

pub capitals_keeps : Keeps composition.pasdrongel_capitals.Kinds.ps composition.pasdrongel_capitals.Reads.Learnt (λ κs a. a)
capitals_keeps κs a z w q h = lent_number a.0 a.1.0 (sound_kept _ _ a.0.now) q h

pub count_keeps : Keeps composition.pasdrongel_count.Kinds.ps composition.pasdrongel_count.Reads.Learnt (λ κs a. a)
count_keeps κs a z w q h = lent_number a.0 a.1.0 (sound_kept _ _ a.0.now) q h

pub verdict_keeps : Keeps speller.pasdrongel_verdict.Kinds.ps speller.pasdrongel_verdict.Reads.Learnt (λ κs a. a)
verdict_keeps κs a z w q h = lent_number a.0 a.1.0 (verdict_kept (verdict_answer a.0.now) _) q h

pub total_keeps : Keeps lister.pasdrongel_total.Kinds.ps lister.pasdrongel_total.Reads.Learnt (λ κs a. a)
total_keeps κs a z w q h = absurd (h q.0)

-- ---- two numbers
pub cut_keeps : Keeps speller.pasdrongel_cut.Kinds.ps speller.pasdrongel_cut.Reads.Learnt (λ κs a. a)
cut_keeps κs a z w q h =
    let g = cut_answer a.0.now in
    let vowels = lent a.1.1.0 (vowels_kept g _) (q.0, q.1.1) h refl in
    beside a.0 (lent a.1.0 (onset_kept g _) (q.0, q.1.0) h vowels)

-- ---- three: what is told of a line
module _ {A : Type 0} (x : A) (n m f : MutBor ℕ) (g : Result Report Refusal) {z u v w : ℕ}
    (q : (z ≡ checked_number g) × ((u ≡ words_out g n.now) × ((v ≡ no_out g m.now) × (w ≡ first_out g f.now)))) (h : z ≡ 0 → ⊥) where
  lent_counts : ◌≡◌ {A = A × (MutBor ℕ × (MutBor ℕ × (MutBor ℕ × Unit {0})))} (x, (at_last n u, (at_last m v, (at_last f w, tt))))
      (x, (n, (m, (f, tt))))
  lent_counts =
      let first = lent f (first_kept f.now g) (q.0, q.1.1.1) h refl in
      let no = lent m (no_kept m.now g) (q.0, q.1.1.0) h first in
      beside x (lent n (words_kept n.now g) (q.0, q.1.0) h no)

pub line_check_keeps : Keeps lines.pasdrongel_line_check.Kinds.ps lines.pasdrongel_line_check.Reads.Learnt (λ κs a. a)
line_check_keeps κs a z w q h = lent_counts a.0 a.1.0 a.1.1.0 a.1.1.1.0 (line_answer a.0.now) q h

pub line_answer_keeps : Keeps lines.pasdrongel_line_answer.Kinds.ps lines.pasdrongel_line_answer.Reads.Learnt (λ κs a. a)
line_answer_keeps κs a z w q h = lent_counts a.0 a.1.0 a.1.1.0 a.1.1.1.0 (line_answer_on a.0.now) q h

-- ---- an output and a count: g is the answer, and the output ends as u
module _ (o : MutBor (List ℕ)) (c : MutBor ℕ) (g : Result ℕ Refusal) {z v : ℕ} {w u : List ℕ} (k : (refusal_of g ≡ 0 → ⊥) → u ≡ o.now)
    (q : (z ≡ refusal_of g) × ((w ≡ u) × (v ≡ count_out g c.now))) (h : z ≡ 0 → ⊥) where
  output_and_count : ◌≡◌ {A = MutBor (List ℕ) × (MutBor ℕ × Unit {0})} (at_last o w, (at_last c v, tt)) (o, (c, tt))
  output_and_count = lent o k (q.0, q.1.0) h (lent c (count_kept g c.now) (q.0, q.1.1) h refl)

-- after one argument, where u is to be written
module _ {A : Type 0} (x : A) (o : MutBor (List ℕ)) (c : MutBor ℕ) (u : Outcome) {z v : ℕ} {w : List ℕ}
    (q : (z ≡ refusal_of (answer u (length o.now))) × ((w ≡ output u o.now) × (v ≡ count_out (answer u (length o.now)) c.now)))
    (h : z ≡ 0 → ⊥) where
  lent_output : ◌≡◌ {A = A × (MutBor (List ℕ) × (MutBor ℕ × Unit {0}))} (x, (at_last o w, (at_last c v, tt))) (x, (o, (c, tt)))
  lent_output = beside x (output_and_count o c (answer u (length o.now)) (output_kept u o.now) q h)

pub read_utf8_keeps : Keeps utf8.pasdrongel_read_utf8.Kinds.ps utf8.pasdrongel_read_utf8.Reads.Learnt (λ κs a. a)
read_utf8_keeps κs a z w q h = lent_output a.0 a.1.0 a.1.1.0 (reading a.0.now) q h

pub write_utf8_keeps : Keeps utf8.pasdrongel_write_utf8.Kinds.ps utf8.pasdrongel_write_utf8.Reads.Learnt (λ κs a. a)
write_utf8_keeps κs a z w q h = lent_output a.0 a.1.0 a.1.1.0 (writing a.0.now) q h

pub word_keeps : Keeps lister.pasdrongel_word.Kinds.ps lister.pasdrongel_word.Reads.Learnt (λ κs a. a)
word_keeps κs a z w q h = lent_output a.0 a.1.0 a.1.1.0 q.0 (q.2, (q.3, q.4)) h

pub next_word_keeps : Keeps lister.pasdrongel_next_word.Kinds.ps lister.pasdrongel_next_word.Reads.Learnt (λ κs a. a)
next_word_keeps κs a z w q h = lent_output a.0 a.1.0 a.1.1.0 q.0 (q.2, (q.3, q.4)) h

pub write_draft_keeps : Keeps drafts.pasdrongel_write_draft.Kinds.ps drafts.pasdrongel_write_draft.Reads.Learnt (λ κs a. a)
write_draft_keeps κs a z w q h = lent_output a.0 a.1.0 a.1.1.0 (bytes_outcome a.0.now) q h

pub text_keeps : Keeps composition.pasdrongel_text.Kinds.ps composition.pasdrongel_text.Reads.Learnt (λ κs a. a)
text_keeps κs a z w q h =
    let g = text_on a.0.now (length a.1.0.now) in
    beside a.0 (output_and_count a.1.0 a.1.1.0 g (text_out_kept a.0.now a.1.0.now) q h)

-- ---- a composition's bytes: k is what the call leaves of it, and x stands after them
module _ {A : Type 0} (p : MutBor (List ℕ)) (x : A) (k : After) {z : ℕ} {w : List ℕ}
    (q : (z ≡ refusal_of (answer_on p.now k)) × (w ≡ bytes_on p.now k)) (h : z ≡ 0 → ⊥) where
  lent_bytes : ◌≡◌ {A = MutBor (List ℕ) × A} (at_last p w, x) (p, x)
  lent_bytes = lent p (bytes_kept p.now k) q h refl

pub new_keeps : Keeps composition.pasdrongel_new.Kinds.ps composition.pasdrongel_new.Reads.Learnt (λ κs a. a)
new_keeps κs a z w q h = lent a.0 (new_kept a.0.now a.1.0) q h refl

pub line_begin_keeps : Keeps lines.pasdrongel_line_begin.Kinds.ps lines.pasdrongel_line_begin.Reads.Learnt (λ κs a. a)
line_begin_keeps κs a z w q h = lent a.0 (begin_kept a.0.now) q h refl

pub line_part_keeps : KeepsAt lines.pasdrongel_line_part.Kinds.ps lines.pasdrongel_line_part.Reads.Learnt (λ κs a. a) (number_of Unsound)
line_part_keeps κs a z w q h =
    let kept = (part_kept a.0.now a.1.0.now (sym q.0 ∙ h)).1 in
    lent a.0 {m = z} (λ _. kept) (refl, q.1) (λ e. absurd (omega (arith, h, e))) refl

pub read_draft_keeps : Keeps drafts.pasdrongel_read_draft.Kinds.ps drafts.pasdrongel_read_draft.Reads.Learnt (λ κs a. a)
read_draft_keeps κs a z w q h = beside a.0 (lent a.1.0 (reading_kept q.0 a.1.0.now) (q.2, q.3) h refl)

pub literal_keeps : Keeps composition.pasdrongel_literal.Kinds.ps composition.pasdrongel_literal.Reads.Learnt (λ κs a. a)
literal_keeps κs a z w q h = lent_bytes a.0 a.1 (literal_on a.0.now a.1.0) q h

pub reset_keeps : Keeps composition.pasdrongel_reset.Kinds.ps composition.pasdrongel_reset.Reads.Learnt (λ κs a. a)
reset_keeps κs a z w q h = lent_bytes a.0 a.1 (reset_on a.0.now) q h

pub set_method_keeps : Keeps composition.pasdrongel_set_method.Kinds.ps composition.pasdrongel_set_method.Reads.Learnt (λ κs a. a)
set_method_keeps κs a z w q h = lent_bytes a.0 a.1 (method_on a.0.now a.1.0) q h

pub set_mode_keeps : Keeps composition.pasdrongel_set_mode.Kinds.ps composition.pasdrongel_set_mode.Reads.Learnt (λ κs a. a)
set_mode_keeps κs a z w q h = lent_bytes a.0 a.1 (mode_on a.0.now a.1.0) q h

pub set_capitals_keeps : Keeps composition.pasdrongel_set_capitals.Kinds.ps composition.pasdrongel_set_capitals.Reads.Learnt (λ κs a. a)
set_capitals_keeps κs a z w q h = lent_bytes a.0 a.1 (capitals_on a.0.now a.1.0) q h

-- ---- bytes and a number
pub undo_keeps : Keeps composition.pasdrongel_undo.Kinds.ps composition.pasdrongel_undo.Reads.Learnt (λ κs a. a)
undo_keeps κs a z w q h =
    let k = undo_on a.0.now a.1.0 a.1.1.0.now in
    let number = lent_number a.1.1.0 a.1.1.1.0 (behaviour_kept (answer_on a.0.now k) _) (q.0, q.1.1) h in
    lent a.0 (bytes_kept a.0.now k) (q.0, q.1.0) h (beside a.1.0 number)

-- ---- bytes, an output and a count
pub remove_last_keeps : Keeps composition.pasdrongel_remove_last.Kinds.ps composition.pasdrongel_remove_last.Reads.Learnt (λ κs a. a)
remove_last_keeps κs a z w q h =
    let k = removal_on a.0.now a.1.0.now in
    let out = removal_out_kept a.0.now a.1.0.now in
    let rest = output_and_count a.1.0 a.1.1.0 (answer_on a.0.now k) out (q.0, q.1.1) h in
    lent a.0 (bytes_kept a.0.now k) (q.0, q.1.0) h rest

pub key_keeps : Keeps composition.pasdrongel_key.Kinds.ps composition.pasdrongel_key.Reads.Learnt (λ κs a. a)
key_keeps κs a z w q h =
    let k = key_on a.0.now a.1.0 a.1.1.0.now in
    let out = key_out_kept a.0.now a.1.1.0.now a.1.0 in
    let rest = output_and_count a.1.1.0 a.1.1.1.0 (answer_on a.0.now k) out (q.0, q.1.1) h in
    lent a.0 (bytes_kept a.0.now k) (q.0, q.1.0) h (beside a.1.0 rest)
