-- A text with a verdict: `line_room` always suffices for its bytes and the verdict; a longer one is refused.
use Rattle.std.specs.Prelude.{Ok}
use Prim.Native.Nat.{ℕ, ◌<◌, ◌≤◌}
use mathlib.Core.Path.{◌≡◌, refl}
use mathlib.Core.Bool.{Bool, true, false}
use mathlib.Core.List.{List, [], ◌∷◌, ◌++◌}
use native.Mathlib.Omega.{arith}
use lib.ListN.{length}
use borrow.Author.Tests.{le-ltb}
use Rattle.p0_choice.specs.Choice.{pick}
use Rattle.p0_choice.specs.Text.{word, line_end}
use Rattle.p0_refusals.specs.Answers.{writes, content, answer, onto, output}
use Rattle.p0_refusals.specs.declared.Refusal.TheVariants.{Long}
use Rattle.p0_refusals.specs.Limits.{letter_limit}
use Rattle.p1_letters.specs.Alphabet.{all_letters}
use Rattle.p4_spelling.specs.Verdict.{verdict}
use Rattle.p4_spelling.proofs.Answers.{verdict_said, verdict_long}
use Rattle.p5_utf8.specs.Rfc3629.{encode_all}
use Rattle.p5_utf8_text.specs.Write.{write_room, writing}
use Rattle.p5_utf8_text.proofs.Alphabet.{few_bytes}
use Rattle.p7_line.specs.Line.{refused_line, judged_line, text_line, tab}
use Rattle.p7_line.specs.Mirror.{line_room}

module _ (text : List ℕ) (a : all_letters text ≡ true) (h : length text ≤ letter_limit) where
  text_bytes : writing text ≡ writes (encode_all text)
  unfolding writing
  text_bytes = rw (le-ltb letter_limit (length text) h, a) refl

  pub text_small : length (encode_all text) ≤ write_room
  text_small = omega (arith, few_bytes text a)

  module _ (o : List ℕ) (l : line_room ≤ length o) where
    pub text_done : answer (writing text) (length o) ≡ Ok (length (encode_all text))
    unfolding answer
    text_done = rw (text_bytes, le-ltb (length o) (length (encode_all text)) (omega (arith, text_small))) refl

    pub text_out : output (writing text) o ≡ onto (encode_all text) o
    unfolding answer content output
    text_out = rw (text_bytes, le-ltb (length o) (length (encode_all text)) (omega (arith, text_small))) refl

-- its line has the bytes, a tab and the verdict's word
judged_word : (text : List ℕ) (b : Bool)
    → judged_line text (Ok b) ≡ encode_all text ++ (tab ∷ (pick b (word "yes") (word "no") ++ (line_end ∷ [])))
unfolding judged_line
judged_word text true = refl
judged_word text false = refl

pub text_judged : (text : List ℕ) → length text ≤ letter_limit → all_letters text ≡ true → (b : Bool) → b ≡ verdict text
    → text_line text ≡ encode_all text ++ (tab ∷ (pick b (word "yes") (word "no") ++ (line_end ∷ [])))
unfolding text_line
text_judged text h a b e = rw (verdict_said text h a, ← e) (judged_word text b)

-- a longer text is refused by 6
pub long_line : (text : List ℕ) → letter_limit < length text → text_line text ≡ refused_line Long
unfolding text_line judged_line
long_line text h = rw (verdict_long text h) refl
