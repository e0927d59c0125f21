use Rattle.std.proofs.Common.{◌≡◌, ◌*◌, ◌∙◌, sym, rules, refl, arith}
use Rattle.std.specs.List.{list_all, range_with_len}
use Rattle.std.proofs.lemmas.Iterator.{YieldsList-from_range}
use Rattle.std.proofs.lemmas.Iterator.Search.{all_from_yields_List}
use borrow.Author.Tests.{tests}
use Rattle.p6_zeros.specs.Mirror.{zero_in}
use Rattle.p6_zeros.proofs.Zeros.{blocks_zero}
use Rattle.p6_zeros.proofs.all_zero.Goals as goal

pub returns-then-all : goal.returns-then-all
returns-then-all c =
    let h : c.all.result ≡ list_all (λ i. zero_in c.args.b.now 128 (128 * i)) (range_with_len 0 c.div_ceil.result) =
    all_from_yields_List (λ i. zero_in c.args.b.now 128 (128 * i)) _ _ c.all.result c.all.ensures.ran
    (YieldsList-from_range 0 _ c.div_ceil.result refl (omega arith)) (λ x b q k. search (rules, tests)) in
    let t = blocks_zero c.args.b.now c.div_ceil.result c.in-Some.last (omega (arith, c.div_ceil.ensures)) (omega (arith, c.div_ceil.ensures))
    (omega arith) in
    c.block_zero.ensures ∙ rw (sym h ∙ c.if-all.true) at t

pub returns-else-all : goal.returns-else-all
returns-else-all c =
    let h : c.all.result ≡ list_all (λ i. zero_in c.args.b.now 128 (128 * i)) (range_with_len 0 c.div_ceil.result) =
    all_from_yields_List (λ i. zero_in c.args.b.now 128 (128 * i)) _ _ c.all.result c.all.ensures.ran
    (YieldsList-from_range 0 _ c.div_ceil.result refl (omega arith)) (λ x b q k. search (rules, tests)) in
    let t = blocks_zero c.args.b.now c.div_ceil.result c.in-Some.last (omega (arith, c.div_ceil.ensures)) (omega (arith, c.div_ceil.ensures))
    (omega arith) in
    c.if-all.false ∙ rw (sym h ∙ c.if-all.false) at t
