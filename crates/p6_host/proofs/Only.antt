-- No second answer, and no second content of a lent place, fits the contract of any call.
use Prim.Native.Nat.{ℕ}
use mathlib.Core.Path.{◌≡◌, refl, sym, ap, ◌∙◌}
use mathlib.Core.List.{List}
use lib.ListN.{length}
use Rattle.p0_refusals.specs.Answers.{Outcome, refusal_of, answer, output}
use Rattle.p0_choice.proofs.Only.{OneAnswer}
use Rattle.p5_lister.proofs.Meaning.{one_number_outcome, one_next_outcome}
use Rattle.p6_draft.specs.Draft.{Reading, Means}
use Rattle.p6_draft.proofs.Exact.{one_reading}
use Rattle.p6_draft_calls.specs.Calls.{read_on, read_bytes}
use Rattle.p6_host.specs.Counts.{count_out}
use Rattle.p6_host.proofs.composition.pasdrongel_composition_bytes as composition-bytes
use Rattle.p6_host.proofs.composition.pasdrongel_new as new
use Rattle.p6_host.proofs.composition.pasdrongel_check_composition as check-composition
use Rattle.p6_host.proofs.composition.pasdrongel_method as method
use Rattle.p6_host.proofs.composition.pasdrongel_mode as mode
use Rattle.p6_host.proofs.composition.pasdrongel_capitals as capitals
use Rattle.p6_host.proofs.composition.pasdrongel_count as count
use Rattle.p6_host.proofs.composition.pasdrongel_key as key
use Rattle.p6_host.proofs.composition.pasdrongel_text as text
use Rattle.p6_host.proofs.composition.pasdrongel_literal as literal
use Rattle.p6_host.proofs.composition.pasdrongel_remove_last as remove-last
use Rattle.p6_host.proofs.composition.pasdrongel_undo as undo
use Rattle.p6_host.proofs.composition.pasdrongel_reset as reset
use Rattle.p6_host.proofs.composition.pasdrongel_set_method as set-method
use Rattle.p6_host.proofs.composition.pasdrongel_set_mode as set-mode
use Rattle.p6_host.proofs.composition.pasdrongel_set_capitals as set-capitals
use Rattle.p6_host.proofs.drafts.pasdrongel_write_draft as write-draft
use Rattle.p6_host.proofs.drafts.pasdrongel_read_draft as read-draft
use Rattle.p6_host.proofs.input_method.pasdrongel_is_tone_key as is-tone-key
use Rattle.p6_host.proofs.input_method.pasdrongel_is_horn_key as is-horn-key
use Rattle.p6_host.proofs.input_method.pasdrongel_mark_for as mark-for
use Rattle.p6_host.proofs.letters.pasdrongel_check_letter as check-letter
use Rattle.p6_host.proofs.letters.pasdrongel_lower as lower
use Rattle.p6_host.proofs.letters.pasdrongel_upper as upper
use Rattle.p6_host.proofs.letters.pasdrongel_is_capital as is-capital
use Rattle.p6_host.proofs.letters.pasdrongel_is_white_space as is-white-space
use Rattle.p6_host.proofs.letters.pasdrongel_is_separator as is-separator
use Rattle.p6_host.proofs.letters.pasdrongel_tone_on as tone-on
use Rattle.p6_host.proofs.letters.pasdrongel_tone_off as tone_off_lem
use Rattle.p6_host.proofs.letters.pasdrongel_is_composer_vowel as is-composer-vowel
use Rattle.p6_host.proofs.letters.pasdrongel_is_speller_vowel as is-speller-vowel
use Rattle.p6_host.proofs.lines.pasdrongel_line_check as line-check
use Rattle.p6_host.proofs.lines.pasdrongel_line_begin as line-begin
use Rattle.p6_host.proofs.lines.pasdrongel_line_part as line-part
use Rattle.p6_host.proofs.lines.pasdrongel_line_answer as line_answer_lem
use Rattle.p6_host.proofs.lister.pasdrongel_total as total
use Rattle.p6_host.proofs.lister.pasdrongel_word as word
use Rattle.p6_host.proofs.lister.pasdrongel_next_word as next_word
use Rattle.p6_host.proofs.speller.pasdrongel_cut as cut
use Rattle.p6_host.proofs.speller.pasdrongel_verdict as verdict
use Rattle.p6_host.proofs.utf8.pasdrongel_read_utf8 as read-utf8
use Rattle.p6_host.proofs.utf8.pasdrongel_write_utf8 as write-utf8

-- two that are both v
agree : {A : Type 0} {x y v : A} → x ≡ v → y ≡ v → x ≡ y
agree e f = e ∙ sym f

-- what stands before the rest
and_first : {A B : Type 0} {z z' : ℕ} {w w' : A × B} → (z ≡ z') × (w.1 ≡ w'.1) → w.0 ≡ w'.0 → (z ≡ z') × (w ≡ w')
and_first t e = (t.0, λ i. (e i, t.1 i))

-- ---- no place is lent to be written
none_lent : {m : ℕ} (z z' : ℕ) (w w' : Unit {0} × Unit {0}) → z ≡ m → z' ≡ m → (z ≡ z') × (w ≡ w')
none_lent z z' w w' e f = (agree e f, refl)

pub composition_bytes_only :
    OneAnswer composition-bytes.Kinds.ps composition-bytes.Kinds.r composition-bytes.Reads.Asked composition-bytes.Reads.Learnt
composition_bytes_only κs a = (tt, λ z z' w w' e f. (agree e f, refl))

pub check_letter_only : OneAnswer check-letter.Kinds.ps check-letter.Kinds.r check-letter.Reads.Asked check-letter.Reads.Learnt
check_letter_only κs a = (tt, none_lent)

pub check_composition_only :
    OneAnswer check-composition.Kinds.ps check-composition.Kinds.r check-composition.Reads.Asked check-composition.Reads.Learnt
check_composition_only κs a = (tt, none_lent)

-- ---- one place, after one argument
module _ {A : Type 0} {m : ℕ} {u : A} (z z' : ℕ) (w w' : Unit {0} × (A × Unit {0})) where
  one_lent : (z ≡ m) × (w.1.0 ≡ u) → (z' ≡ m) × (w'.1.0 ≡ u) → (z ≡ z') × (w ≡ w')
  one_lent q q' = (agree q.0 q'.0, λ i. (tt, (agree q.1 q'.1 i, tt)))

pub lower_only : OneAnswer lower.Kinds.ps lower.Kinds.r lower.Reads.Asked lower.Reads.Learnt
lower_only κs a = (tt, one_lent)

pub upper_only : OneAnswer upper.Kinds.ps upper.Kinds.r upper.Reads.Asked upper.Reads.Learnt
upper_only κs a = (tt, one_lent)

pub is_capital_only : OneAnswer is-capital.Kinds.ps is-capital.Kinds.r is-capital.Reads.Asked is-capital.Reads.Learnt
is_capital_only κs a = (tt, one_lent)

pub is_white_space_only : OneAnswer is-white-space.Kinds.ps is-white-space.Kinds.r is-white-space.Reads.Asked is-white-space.Reads.Learnt
is_white_space_only κs a = (tt, one_lent)

pub is_separator_only : OneAnswer is-separator.Kinds.ps is-separator.Kinds.r is-separator.Reads.Asked is-separator.Reads.Learnt
is_separator_only κs a = (tt, one_lent)

pub tone_off_only : OneAnswer tone_off_lem.Kinds.ps tone_off_lem.Kinds.r tone_off_lem.Reads.Asked tone_off_lem.Reads.Learnt
tone_off_only κs a = (tt, one_lent)

pub is_composer_vowel_only :
    OneAnswer is-composer-vowel.Kinds.ps is-composer-vowel.Kinds.r is-composer-vowel.Reads.Asked is-composer-vowel.Reads.Learnt
is_composer_vowel_only κs a = (tt, one_lent)

pub is_speller_vowel_only :
    OneAnswer is-speller-vowel.Kinds.ps is-speller-vowel.Kinds.r is-speller-vowel.Reads.Asked is-speller-vowel.Reads.Learnt
is_speller_vowel_only κs a = (tt, one_lent)

pub method_only : OneAnswer method.Kinds.ps method.Kinds.r method.Reads.Asked method.Reads.Learnt
method_only κs a = (tt, one_lent)

pub mode_only : OneAnswer mode.Kinds.ps mode.Kinds.r mode.Reads.Asked mode.Reads.Learnt
mode_only κs a = (tt, one_lent)

pub capitals_only : OneAnswer capitals.Kinds.ps capitals.Kinds.r capitals.Reads.Asked capitals.Reads.Learnt
capitals_only κs a = (tt, one_lent)

pub count_only : OneAnswer count.Kinds.ps count.Kinds.r count.Reads.Asked count.Reads.Learnt
count_only κs a = (tt, one_lent)

pub verdict_only : OneAnswer verdict.Kinds.ps verdict.Kinds.r verdict.Reads.Asked verdict.Reads.Learnt
verdict_only κs a = (tt, one_lent)

pub tone_on_only : OneAnswer tone-on.Kinds.ps tone-on.Kinds.r tone-on.Reads.Asked tone-on.Reads.Learnt
tone_on_only κs a = (tt, λ z z' w w' q q'. and_first (one_lent z z' w.1 w'.1 q q') refl)

pub is_tone_key_only : OneAnswer is-tone-key.Kinds.ps is-tone-key.Kinds.r is-tone-key.Reads.Asked is-tone-key.Reads.Learnt
is_tone_key_only κs a = (tt, λ z z' w w' q q'. and_first (one_lent z z' w.1 w'.1 q q') refl)

pub is_horn_key_only : OneAnswer is-horn-key.Kinds.ps is-horn-key.Kinds.r is-horn-key.Reads.Asked is-horn-key.Reads.Learnt
is_horn_key_only κs a = (tt, λ z z' w w' q q'. and_first (one_lent z z' w.1 w'.1 q q') refl)

pub mark_for_only : OneAnswer mark-for.Kinds.ps mark-for.Kinds.r mark-for.Reads.Asked mark-for.Reads.Learnt
mark_for_only κs a = (tt, λ z z' w w' q q'. and_first (and_first (one_lent z z' w.1.1 w'.1.1 q q') refl) refl)

pub total_only : OneAnswer total.Kinds.ps total.Kinds.r total.Reads.Asked total.Reads.Learnt
total_only κs a = (tt, λ z z' w w' q q'. (agree q.0 q'.0, λ i. (agree q.1 q'.1 i, tt)))

-- ---- two places, after one argument
module _ {A B : Type 0} {m : ℕ} {u : A} {v : B} (z z' : ℕ) (w w' : Unit {0} × (A × (B × Unit {0}))) where
  two_lent : (z ≡ m) × ((w.1.0 ≡ u) × (w.1.1.0 ≡ v)) → (z' ≡ m) × ((w'.1.0 ≡ u) × (w'.1.1.0 ≡ v)) → (z ≡ z') × (w ≡ w')
  two_lent q q' = (agree q.0 q'.0, λ i. (tt, (agree q.1.0 q'.1.0 i, (agree q.1.1 q'.1.1 i, tt))))

pub cut_only : OneAnswer cut.Kinds.ps cut.Kinds.r cut.Reads.Asked cut.Reads.Learnt
cut_only κs a = (tt, two_lent)

pub text_only : OneAnswer text.Kinds.ps text.Kinds.r text.Reads.Asked text.Reads.Learnt
text_only κs a = (tt, two_lent)

pub read_utf8_only : OneAnswer read-utf8.Kinds.ps read-utf8.Kinds.r read-utf8.Reads.Asked read-utf8.Reads.Learnt
read_utf8_only κs a = (tt, two_lent)

pub write_utf8_only : OneAnswer write-utf8.Kinds.ps write-utf8.Kinds.r write-utf8.Reads.Asked write-utf8.Reads.Learnt
write_utf8_only κs a = (tt, two_lent)

pub write_draft_only : OneAnswer write-draft.Kinds.ps write-draft.Kinds.r write-draft.Reads.Asked write-draft.Reads.Learnt
write_draft_only κs a = (tt, two_lent)

-- ---- three places
module _ {m t u v : ℕ} (z z' : ℕ) (w w' : Unit {0} × (ℕ × (ℕ × (ℕ × Unit {0})))) where
  three_lent : (z ≡ m) × ((w.1.0 ≡ t) × ((w.1.1.0 ≡ u) × (w.1.1.1.0 ≡ v)))
      → (z' ≡ m) × ((w'.1.0 ≡ t) × ((w'.1.1.0 ≡ u) × (w'.1.1.1.0 ≡ v))) → (z ≡ z') × (w ≡ w')
  three_lent q q' =
      let first = agree q.1.1.1 q'.1.1.1 in
      (agree q.0 q'.0, λ i. (tt, (agree q.1.0 q'.1.0 i, (agree q.1.1.0 q'.1.1.0 i, (first i, tt)))))

pub line_check_only : OneAnswer line-check.Kinds.ps line-check.Kinds.r line-check.Reads.Asked line-check.Reads.Learnt
line_check_only κs a = (tt, three_lent)

pub line_answer_only : OneAnswer line_answer_lem.Kinds.ps line_answer_lem.Kinds.r line_answer_lem.Reads.Asked line_answer_lem.Reads.Learnt
line_answer_only κs a = (tt, three_lent)

-- a draft that is read: what its bytes are a draft of is one thing
module _ (b s : List ℕ) where
  abbrev ToldDraft : ℕ → Unit {0} × (List ℕ × Unit {0}) → Type 0
  ToldDraft z w = (u : Reading) × Means b u × (z ≡ refusal_of (read_on u s)) × (w.1.0 ≡ read_bytes u s)

  one_draft_read : (z z' : ℕ) (w w' : Unit {0} × (List ℕ × Unit {0})) → ToldDraft z w → ToldDraft z' w' → (z ≡ z') × (w ≡ w')
  one_draft_read z z' w w' q q' =
      let e : q.0 ≡ q'.0 = one_reading b q.0 q'.0 q.1 q'.1 in
      let number = q.2 ∙ ap (λ u. refusal_of (read_on u s)) e ∙ sym q'.2 in
      let state = q.3 ∙ ap (λ u. read_bytes u s) e ∙ sym q'.3 in
      (number, λ i. (tt, (state i, tt)))

pub read_draft_only : OneAnswer read-draft.Kinds.ps read-draft.Kinds.r read-draft.Reads.Asked read-draft.Reads.Learnt
read_draft_only κs a = (tt, one_draft_read a.0.now a.1.0.now)

-- a listed word: what there is to write is one thing
module _ (Means : Outcome → Type 0) (one : (u v : Outcome) → Means u → Means v → u ≡ v) (o : List ℕ) (old : ℕ) where
  abbrev ToldWord : ℕ → Unit {0} × (List ℕ × (ℕ × Unit {0})) → Type 0
  ToldWord z w = (u : Outcome) × Means u × (z ≡ refusal_of (answer u (length o))) × (w.1.0 ≡ output u o)
      × (w.1.1.0 ≡ count_out (answer u (length o)) old)

  one_word : (z z' : ℕ) (w w' : Unit {0} × (List ℕ × (ℕ × Unit {0}))) → ToldWord z w → ToldWord z' w' → (z ≡ z') × (w ≡ w')
  one_word z z' w w' q q' =
      let e : q.0 ≡ q'.0 = one q.0 q'.0 q.1 q'.1 in
      let number = q.2 ∙ ap (λ u. refusal_of (answer u (length o))) e ∙ sym q'.2 in
      let out = q.3 ∙ ap (λ u. output u o) e ∙ sym q'.3 in
      let count = q.4 ∙ ap (λ u. count_out (answer u (length o)) old) e ∙ sym q'.4 in
      (number, λ i. (tt, (out i, (count i, tt))))

pub word_only : OneAnswer word.Kinds.ps word.Kinds.r word.Reads.Asked word.Reads.Learnt
word_only κs a = (tt, one_word _ (one_number_outcome a.0) a.1.0.now a.1.1.0.now)

pub next_word_only : OneAnswer next_word.Kinds.ps next_word.Kinds.r next_word.Reads.Asked next_word.Reads.Learnt
next_word_only κs a = (tt, one_word _ (one_next_outcome a.0.now) a.1.0.now a.1.1.0.now)

-- ---- a composition's bytes
module _ {m : ℕ} {b : List ℕ} (z z' : ℕ) (w w' : List ℕ × (Unit {0} × Unit {0})) where
  bytes_lent : (z ≡ m) × (w.0 ≡ b) → (z' ≡ m) × (w'.0 ≡ b) → (z ≡ z') × (w ≡ w')
  bytes_lent q q' = (agree q.0 q'.0, λ i. (agree q.1 q'.1 i, (tt, tt)))

pub new_only : OneAnswer new.Kinds.ps new.Kinds.r new.Reads.Asked new.Reads.Learnt
new_only κs a = (tt, bytes_lent)

pub literal_only : OneAnswer literal.Kinds.ps literal.Kinds.r literal.Reads.Asked literal.Reads.Learnt
literal_only κs a = (tt, bytes_lent)

pub set_method_only : OneAnswer set-method.Kinds.ps set-method.Kinds.r set-method.Reads.Asked set-method.Reads.Learnt
set_method_only κs a = (tt, bytes_lent)

pub set_mode_only : OneAnswer set-mode.Kinds.ps set-mode.Kinds.r set-mode.Reads.Asked set-mode.Reads.Learnt
set_mode_only κs a = (tt, bytes_lent)

pub set_capitals_only : OneAnswer set-capitals.Kinds.ps set-capitals.Kinds.r set-capitals.Reads.Asked set-capitals.Reads.Learnt
set_capitals_only κs a = (tt, bytes_lent)

module _ {m : ℕ} {b : List ℕ} (z z' : ℕ) (w w' : List ℕ × Unit {0}) where
  bytes_alone : (z ≡ m) × (w.0 ≡ b) → (z' ≡ m) × (w'.0 ≡ b) → (z ≡ z') × (w ≡ w')
  bytes_alone q q' = (agree q.0 q'.0, λ i. (agree q.1 q'.1 i, tt))

pub reset_only : OneAnswer reset.Kinds.ps reset.Kinds.r reset.Reads.Asked reset.Reads.Learnt
reset_only κs a = (tt, bytes_alone)

pub line_begin_only : OneAnswer line-begin.Kinds.ps line-begin.Kinds.r line-begin.Reads.Asked line-begin.Reads.Learnt
line_begin_only κs a = (tt, bytes_alone)

pub line_part_only : OneAnswer line-part.Kinds.ps line-part.Kinds.r line-part.Reads.Asked line-part.Reads.Learnt
line_part_only κs a = (tt, bytes_lent)

-- ---- bytes and other places
pub undo_only : OneAnswer undo.Kinds.ps undo.Kinds.r undo.Reads.Asked undo.Reads.Learnt
undo_only κs a = (
  tt,
  λ z z' w w' q q'.
      and_first (and_first (one_lent z z' w.1.1 w'.1.1 (q.0, q.1.1) (q'.0, q'.1.1)) refl) (agree q.1.0 q'.1.0),
)

pub remove_last_only : OneAnswer remove-last.Kinds.ps remove-last.Kinds.r remove-last.Reads.Asked remove-last.Reads.Learnt
remove_last_only κs a = (
  tt,
  λ z z' w w' q q'.
      let out = agree q.1.1.0 q'.1.1.0 in
      let count = agree q.1.1.1 q'.1.1.1 in
      and_first (agree q.0 q'.0, λ i. (out i, (count i, tt))) (agree q.1.0 q'.1.0),
)

pub key_only : OneAnswer key.Kinds.ps key.Kinds.r key.Reads.Asked key.Reads.Learnt
key_only κs a = (
  tt,
  λ z z' w w' q q'.
      and_first (two_lent z z' w.1 w'.1 (q.0, q.1.1) (q'.0, q'.1.1)) (agree q.1.0 q'.1.0),
)
