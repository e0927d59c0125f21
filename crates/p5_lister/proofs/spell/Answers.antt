-- The walk's invariant; each turn is a law of p5_trie's proofs/Spell.
use mathlib.Core.Path.{refl, ◌∙◌}
use native.Mathlib.Omega.{arith}
use borrow.Author.Rules.{rules}
use Rattle.p5_trie.proofs.Spell.{inside, has_room, ended, went_down}
use Rattle.p5_listing.proofs.Nodes.{count_is, sound, letter_is, end_is, down_is}
use Rattle.p5_lister.proofs.Reading.{fewer}
use Rattle.p5_lister.proofs.spell.Goals as goal

pub loop-halt-init : goal.loop-halt-init
loop-halt-init c = record {
  small = rw count_is c.requires.0;
  few = c.requires.1;
  room = c.requires.2;
  long = search rules;
  is = refl;
}

pub scan-requires : goal.scan-requires
scan-requires c = omega (arith, c.loop-halt.invariant.small, count_is)

pub bounds-word-word : goal.bounds-word-word
bounds-word-word c = omega (arith, has_room c.loop-halt.invariant sound c.in-Some.ensures.1)

pub offset_bounds-word-word : goal.offset_bounds-word-word
offset_bounds-word-word c = omega (arith, has_room c.loop-halt.invariant sound c.in-Some.ensures.1)

pub overflow_add-word : goal.overflow_add-word
overflow_add-word c = omega (arith, has_room c.loop-halt.invariant sound c.in-Some.ensures.1)

pub returns-then-halt-ends : goal.returns-then-halt-ends
returns-then-halt-ends c =
    let r = c.in-Some.ensures in (
      omega (arith, has_room c.loop-halt.invariant sound r.1),
      ended c.loop-halt.invariant sound r.1 _ _ (c.letter.ensures ∙ letter_is _ _ r.2) (c.ends-ends.ensures ∙ end_is _ _ r.2)
          c.if-halt-ends.true,
    )

pub loop-halt-smaller : goal.loop-halt-smaller
loop-halt-smaller c = omega (arith, has_room c.loop-halt.invariant sound c.in-Some.ensures.1)

pub loop-halt-preserved : goal.loop-halt-preserved
loop-halt-preserved c =
    let r = c.in-Some.ensures in
    went_down c.loop-halt.invariant sound r.1 _ _ (c.letter.ensures ∙ letter_is _ _ r.2)
    (c.ends-ends.ensures ∙ end_is _ _ r.2) _ (c.down-row.ensures ∙ down_is _ _ r.2) (fewer _ _ r.0 r.3) c.if-halt-ends.false

pub returns : goal.returns
returns c =
    let r = c.in_default.ensures in
    absurd (omega (arith, inside c.loop-halt.invariant sound r.1, count_is))
