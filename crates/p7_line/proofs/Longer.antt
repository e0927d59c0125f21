-- Request 2026-05, "Longer notes", in what `wordline` prints: a composition may have more cells than a word may have letters.
use Prim.Native.Nat.{ℕ, ◌<◌}
use mathlib.Core.Path.{◌≡◌, refl, ap, ◌∙◌}
use mathlib.Core.Bool.{Bool, true, false}
use mathlib.Core.List.{List, [], ◌∷◌, ◌++◌}
use native.Mathlib.Omega.{arith}
use lib.Dec.{ltb}
use lib.ListN.{length}
use borrow.Author.Tests.{lt-ltb}
use Rattle.p0_choice.specs.Choice.{pick}
use Rattle.p0_choice.specs.Text.{word, line_end}
use Rattle.p0_refusals.specs.Answers.{writes}
use Rattle.p0_refusals.specs.Limits.{letter_limit}
use Rattle.p2_input_method.specs.declared.InputMethod.{InputMethod}
use Rattle.p3_cells.specs.Cells.{limit}
use Rattle.p3_cells.specs.Settings.{at_first}
use Rattle.p3_cells.specs.Text.{text_of}
use Rattle.p3_cells.specs.declared.Cell.{Cell}
use Rattle.p3_cells.specs.declared.Settings.{Settings}
use Rattle.p3_cells.proofs.Text.{text_length}
use Rattle.p3_step.specs.Key.{key_cells}
use Rattle.p5_utf8_text.specs.Read.{reading}
use Rattle.p7_line.specs.Line.{digit, digits, refused_line, KeysMade, made, full, keys_made, made_line, keys_line, line_out}
use Rattle.p7_line.proofs.Texts.{long_line}

-- keys that make cells, and more keys after them
made_first : (z : Settings) (cs ds : List Cell) (first more : List ℕ) → keys_made z cs first ≡ made ds
    → keys_made z cs (first ++ more) ≡ keys_made z ds more
unfolding keys_made
made_first z cs ds [] more e = let k : cs ≡ ds = cc in rw k refl
made_first z cs ds (k ∷ first) more e = go (ltb limit (length (key_cells z cs k))) (made_first z (key_cells z cs k) ds first more) e
  where
    go : (b : Bool) → (keys_made z (key_cells z cs k) first ≡ made ds → keys_made z (key_cells z cs k) (first ++ more) ≡ keys_made z ds more)
        → pick b full (keys_made z (key_cells z cs k) first) ≡ made ds
        → pick b full (keys_made z (key_cells z cs k) (first ++ more)) ≡ keys_made z ds more
    go true rest e = let n : ◌≡◌ {A = ℕ} 0 1 = cc in absurd (omega arith)
    go false rest e = rest e

module _ (m : InputMethod) (line keys : List ℕ) (e : reading line ≡ writes keys) where
  prints : (n : KeysMade) → keys_made (at_first m) [] keys ≡ n → line_out m line ≡ made_line (at_first m) n
  unfolding line_out keys_line
  prints n q = rw (e, q) refl

  -- "a letter must be appended and [all] cells are used", which is now the 97th append: whatever keys follow it
  pub append_refused : (first more : List ℕ) (k : ℕ) (cs : List Cell) → keys ≡ first ++ (k ∷ more)
      → keys_made (at_first m) [] first ≡ made cs → limit < length (key_cells (at_first m) cs k)
      → line_out m line ≡ word "refused 2" ++ (line_end ∷ [])
  unfolding keys_made made_line digit digits refused_line word
  append_refused first more k cs q f h =
      prints full
      (ap (keys_made (at_first m) []) q
      ∙ made_first (at_first m) [] cs first (k ∷ more) f
      ∙ rw (lt-ltb limit (length (key_cells (at_first m) cs k)) h) refl)

  -- "The word limit stays at 64, so the verdict of a longer text is refusal 6."
  pub long_text_refused : (cs : List Cell) → keys_made (at_first m) [] keys ≡ made cs → letter_limit < length cs
      → line_out m line ≡ word "refused 6" ++ (line_end ∷ [])
  unfolding made_line digit digits refused_line word
  long_text_refused cs q h =
      let capitals : Bool = (at_first m).capitals in
      prints (made cs) q ∙ long_line (text_of capitals cs) (omega (arith, text_length capitals cs))
