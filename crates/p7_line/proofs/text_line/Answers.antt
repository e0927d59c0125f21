use mathlib.Core.Path.{◌≡◌, refl, sym, ap, ◌∙◌}
use native.Mathlib.Omega.{arith}
use Prim.Native.Nat.{ℕ}
use lib.ListN.{length, length-append}
use Rattle.p0_choice.specs.Text.{word}
use Rattle.p5_utf8.specs.Rfc3629.{encode_all}
use Rattle.p7_line.proofs.Written.{both}
use Rattle.p7_line.proofs.Texts.{text_small, text_done, text_out, text_judged, long_line}
use Rattle.p7_line.proofs.text_line.Goals as goal

pub returns-then-text-gt-LETTERS : goal.returns-then-text-gt-LETTERS
returns-then-text-gt-LETTERS c = rw (long_line c.args.text.now c.if-text-gt-LETTERS.true) c.put_refused.ensures

pub unwrap-next-requires : goal.unwrap-next-requires
unwrap-next-requires c =
    rw (c.write.ensures.value, text_done _ c.requires.0 c.if-text-gt-LETTERS.false _ c.requires.1) refl

pub put-requires : goal.put-requires
put-requires c =
    let n : c.unwrap-next.result ≡ length (encode_all c.args.text.now) = cc (text_done _ c.requires.0 c.if-text-gt-LETTERS.false _ c.requires.1) in
    omega (arith, text_small _ c.requires.0 c.if-text-gt-LETTERS.false)

pub put-requires-2 : goal.put-requires-2
put-requires-2 c =
    let n : c.unwrap-next.result ≡ length (encode_all c.args.text.now) = cc (text_done _ c.requires.0 c.if-text-gt-LETTERS.false _ c.requires.1) in
    omega (arith, text_small _ c.requires.0 c.if-text-gt-LETTERS.false)

pub returns-then-accepts : goal.returns-then-accepts
unfolding word
returns-then-accepts c =
    let h = c.if-text-gt-LETTERS.false in
    let n : c.unwrap-next.result ≡ length (encode_all c.args.text.now) = cc (text_done _ c.requires.0 h _ c.requires.1) in
    let s = text_small _ c.requires.0 h in
    let e = text_judged _ h c.requires.0 _ (sym c.if-accepts.true ∙ c.accepts.ensures) in
    both _ _ _ (encode_all c.args.text.now) _ _ _ _ n c.put.ensures.0 (omega arith) e
    (omega (arith, ap length e, length-append {A = ℕ}))
    (c.write.ensures.out_after ∙ rw n (text_out _ c.requires.0 h _ c.requires.1)) c.put.ensures.1

pub returns : goal.returns
unfolding word
returns c =
    let h = c.if-text-gt-LETTERS.false in
    let n : c.unwrap-next.result ≡ length (encode_all c.args.text.now) = cc (text_done _ c.requires.0 h _ c.requires.1) in
    let s = text_small _ c.requires.0 h in
    let e = text_judged _ h c.requires.0 _ (sym c.if-accepts.false ∙ c.accepts.ensures) in
    both _ _ _ (encode_all c.args.text.now) _ _ _ _ n c.put-2.ensures.0 (omega arith) e
    (omega (arith, ap length e, length-append {A = ℕ}))
    (c.write.ensures.out_after ∙ rw n (text_out _ c.requires.0 h _ c.requires.1)) c.put-2.ensures.1
