-- Request 2026-05 over the two calls' own contracts, as Rattle reads them out of src/: "The word limit stays at 64, so the verdict of a
-- longer text is refusal 6".
use Rattle.std.specs.Prelude.{Err, Ok, Result}
use Rattle.p0_refusals.specs.declared.Refusal.{Refusal}
use Prim.Native.Nat.{ℕ, ◌<◌}
use mathlib.Core.Path.{◌≡◌, refl, sym, ap, ◌∙◌}
use mathlib.Core.Bool.{Bool, true, false}
use mathlib.Core.List.{List}
use native.Mathlib.Omega.{arith}
use lib.Dec.{ltb}
use lib.ListN.{length, take, drop}
use lib.Seq.{take-append_seam}
use Rattle.p0_choice.specs.Choice.{pick}
use Rattle.p0_refusals.specs.Answers.{writes, refusal_of, content, answer, output}
use Rattle.p0_refusals.specs.Limits.{letter_limit}
use Rattle.p0_refusals.specs.declared.Refusal.TheVariants.{Short, Unsound}
use Rattle.p3_calls.specs.Output.{text_outcome}
use Rattle.p3_cells.specs.Cells.{used}
use Rattle.p3_cells.specs.Text.{text_of}
use Rattle.p3_cells.proofs.Holding.{used_length}
use Rattle.p3_cells.proofs.Text.{text_length}
use Rattle.p4_spelling.proofs.Answers.{verdict_long}
use Rattle.p6_bytes.specs.Bytes.{composition_of, bytes_sound}
use Rattle.p6_bytes.proofs.Sound.{sound_composition}
use Rattle.p6_composition.specs.Calls.{text_on, out_on}
use Rattle.p6_host.specs.Counts.{count_out}
use Rattle.p6_host.proofs.Made.{Made}
use Rattle.p6_host.proofs.composition.pasdrongel_text as text
use Rattle.p6_host.proofs.speller.pasdrongel_verdict as verdict

abbrev WasShown : Type 0
WasShown = Made text.Kinds.ps text.Reads.Learnt

abbrev WasJudged : Type 0
WasJudged = Made verdict.Kinds.ps verdict.Reads.Learnt

-- the composition's bytes that were handed in, and the text: so many letters at the start of the output
abbrev bytes_shown : WasShown → List ℕ
bytes_shown t = t.handed.0.now

abbrev text_shown : WasShown → List ℕ
text_shown t = take t.left.1.1.0 t.left.1.0

abbrev word_judged : WasJudged → List ℕ
word_judged v = v.handed.0.now

-- ---- a text that was written has a letter for each cell
module _ (b o out : List ℕ) (z n old : ℕ) (d : z ≡ 0) where
  abbrev whole : List ℕ
  whole = text_of (composition_of b).settings.capitals (used (composition_of b))

  full : (t : Bool) → refusal_of (pick t (Err Short) (Ok (length whole))) ≡ 0
      → (s : Result ℕ Refusal) → s ≡ pick t (Err Short) (Ok (length whole)) → s ≡ Ok (length whole)
  full true h s p = let y : ◌≡◌ {A = ℕ} 3 0 = h in absurd (omega arith)
  full false h s p = p

  shown_is : z ≡ refusal_of (text_on b (length o)) → out ≡ out_on b (text_outcome (composition_of b)) o → n ≡ count_out (text_on b (length o)) old
      → length (take n out) ≡ (composition_of b).count
  unfolding text_on out_on text_outcome answer output content
  shown_is e f g = go (bytes_sound b) refl (sym e ∙ d) f g
    where
      go : (t : Bool) → bytes_sound b ≡ t → refusal_of (pick t (answer (text_outcome (composition_of b)) (length o)) (Err Unsound)) ≡ 0
          → out ≡ pick t (output (text_outcome (composition_of b)) o) o
          → n ≡ count_out (pick t (answer (text_outcome (composition_of b)) (length o)) (Err Unsound)) old
          → length (take n out) ≡ (composition_of b).count
      go true p h x y =
          let c = composition_of b in
          let k = sound_composition b p in
          let s = full (ltb (length o) (length whole)) (rw k at h) (answer (writes whole) (length o)) refl in
          rw (rw (k, s) at x, rw (k, s) at y, take-append_seam whole (drop (length whole) o))
          (text_length c.settings.capitals (used c) ∙ used_length c k)
      go false p h x y = let w : ◌≡◌ {A = ℕ} 10 0 = h in absurd (omega arith)

-- ---- the verdict
-- "Words .. at most 64": of a longer one it is 6
pub long_word_six : (v : WasJudged) → letter_limit < length (word_judged v) → v.number ≡ 6
long_word_six v h = rw (verdict_long (word_judged v) h) at v.told.0

-- "the verdict of a longer text is refusal 6"
pub long_text_six : (t : WasShown) → t.number ≡ 0 → letter_limit < (composition_of (bytes_shown t)).count
    → (v : WasJudged) → word_judged v ≡ text_shown t → v.number ≡ 6
long_text_six t d h v e =
    let n = ap length e ∙ shown_is (bytes_shown t) _ _ _ _ _ d t.told.0 t.told.1.0 t.told.1.1 in
    long_word_six v (omega arith)
