-- A line in bounded memory: of a line over the limit, one byte more than the limit says all there is to say.
use Prim.Native.Nat.{ℕ, ◌<◌, ◌≤◌}
use mathlib.Core.Path.{◌≡◌, refl, sym, ap, ◌∙◌}
use mathlib.Core.Bool.{Bool, true, false}
use mathlib.Core.List.{List}
use native.Mathlib.Omega.{arith}
use lib.Dec.{ltb}
use lib.ListN.{length, take}
use lib.Seq.{take_all, length-take-le}
use borrow.Author.Tests.{lt-ltb, ltb-true, ltb-false}
use Rattle.p2_input_method.specs.declared.InputMethod.{InputMethod}
use Rattle.p0_refusals.specs.Limits.{byte_limit}
use Rattle.p0_refusals.specs.declared.Refusal.TheVariants.{Long}
use Rattle.p0_refusals.specs.Answers.{refuses}
use Rattle.p5_utf8_text.specs.Read.{reading}
use Rattle.p7_line.specs.Line.{most, line_out}
use Rattle.p7_line.specs.Method.{begun_by}

long : (l : List ℕ) → byte_limit < length l → reading l ≡ refuses Long
unfolding reading
long l h = rw (lt-ltb byte_limit (length l) h) refl

reading_bounded : (l : List ℕ) → reading (take most l) ≡ reading l
reading_bounded l = go (ltb byte_limit (length l)) refl
  where
    go : (b : Bool) → ltb byte_limit (length l) ≡ b → reading (take most l) ≡ reading l
    go true p =
        let h = ltb-true byte_limit (length l) p in
        let k : length (take most l) ≡ most = length-take-le most l (omega arith) in
        let q : byte_limit < length (take most l) = omega arith in
        long (take most l) q ∙ sym (long l h)
    go false p = let h : length l ≤ most = omega (arith, ltb-false byte_limit (length l) p) in ap reading (take_all most l h)

pub method_bounded : (l : List ℕ) → begun_by (take most l) ≡ begun_by l
unfolding begun_by
method_bounded l = rw (reading_bounded l) refl

pub line_bounded : (m : InputMethod) (l : List ℕ) → line_out m (take most l) ≡ line_out m l
unfolding line_out
line_bounded m l = rw (reading_bounded l) refl
