use Rattle.std.specs.Prelude.{Some, None, Err}
use Rattle.std.proofs.lemmas.Result.{err_from_is_err_and}
use Rattle.p0_refusals.specs.declared.Refusal.TheVariants.{NoWord}
use mathlib.Core.Path.{◌≡◌, sym, ap, ◌∙◌}
use mathlib.Core.List.{List, ◌++◌}
use native.Mathlib.Omega.{arith}
use borrow.Author.Rules.{rules}
use Prim.Native.Nat.{ℕ}
use lib.ListN.{take}
use Rattle.p5_trie.specs.Mirror.{nth, trie_at}
use Rattle.p5_trie.proofs.Turn.{none_after, next_after, some}
use Rattle.p5_listing.specs.Mirror.{nodes}
use Rattle.p5_listing.proofs.Nodes.{root, count_is, sound}
use Rattle.p5_listing.proofs.Numbering.{lists}
use Rattle.p5_lister.specs.Meaning.{Permitted}
use Rattle.p5_lister.proofs.Reading.{root_size, root_depth}
use Rattle.p5_lister.proofs.Answers.{too_long, not_letters, none_follows, follows}
use Rattle.p5_lister.proofs.next_word.Goals as goal

pub returns-then-word-gt-LETTERS : goal.returns-then-word-gt-LETTERS
returns-then-word-gt-LETTERS c = too_long _ _ (search rules) _ _ (search rules) (search rules)

pub returns-then-not-all_letters : goal.returns-then-not-all_letters
returns-then-not-all_letters c = not_letters _ _ c.all_letters.result (search rules) (search rules) (search rules) _ _ (search rules)
    (search rules)

pub turn-requires : goal.turn-requires
turn-requires c = (omega arith, omega (arith, root_size))

pub returns-in_err-parting : goal.returns-in_err-parting
returns-in_err-parting c =
    let q : c.turn.result ≡ None = grind arith in
    let p : Permitted c.args.word.now = (search rules, sym c.all_letters.ensures ∙ c.if-not-all_letters.false) in
    let e = err_from_is_err_and c.from_residual.result c.from_residual.ensures.1 in
    let v : c.ok_or.result ≡ Err NoWord = rw q at c.ok_or.ensures.value in
    let w : c.ok_or.result ≡ Err c.in_err-parting.field-0.0 = c.in_err-parting.was in
    none_follows lists _ _ _ _ p (rw (← root) (none_after (rw q at c.turn.ensures) sound (omega (arith, count_is)))) (cc (e.1, e.2))
    (search rules)

pub keep-kept-requires : goal.keep-kept-requires
keep-kept-requires c =
    let q : c.turn.result ≡ Some c.in_ok-parting.parting = grind arith in
    let t = rw q at c.turn.ensures in
    (omega (arith, t.1.deep, root_depth), t.1.within)

pub spell-next-requires : goal.spell-next-requires
spell-next-requires c =
    let q : c.turn.result ≡ Some c.in_ok-parting.parting = grind arith in
    let t = rw q at c.turn.ensures in
    (omega (arith, t.0), some t.1 sound (rw count_is t.0), omega (arith, t.1.deep, root_depth, c.keep-kept.ensures.0))

pub returns : goal.returns
returns c =
    let q : c.turn.result ≡ Some c.in_ok-parting.parting = grind arith in
    let t = rw q at c.turn.ensures in
    let p : Permitted c.args.word.now = (search rules, sym c.all_letters.ensures ∙ c.if-not-all_letters.false) in
    let k = next_after t.1 sound (rw count_is t.0) in
    follows lists _ _ _ c.args.word.now p (rw (← root) k.0) (take c.spell-next.result.len c.spell-next.result.letters)
    (rw (← root)
    ((rw c.keep-kept.ensures.0 at c.spell-next.ensures.1) ∙ ap (λ (u : List ℕ). u ++ nth (trie_at nodes c.in_ok-parting.parting.node) 0) c.keep-kept.ensures.1 ∙ k.1))
    (search rules) (search rules)
