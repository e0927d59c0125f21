-- The composition stays sound, and what is left of the keys decides what the line prints.
use borrow.Author.Rules.{rules}
use mathlib.Core.Path.{refl}
use Rattle.std.proofs.lemmas.Result.{err_from_is_err_and}
use Rattle.p7_line.proofs.Typing.{typing_first, typing_on, line_refused, line_typed, typed_letters}
use Rattle.p7_line.proofs.keys_typed.Goals as goal

pub loop-key-init : goal.loop-key-init
loop-key-init c = (search rules, typing_first c.args.m c.args.keys.now c.new-c.result c.new-c.ensures _)

pub process_sound_key-after-requires : goal.process_sound_key-after-requires
process_sound_key-after-requires c = c.loop-key.invariant.1.sound

pub returns-in_err-count : goal.returns-in_err-count
returns-in_err-count c =
    let l = c.loop-key in
    let k = c.process_sound_key-after in
    let p = err_from_is_err_and c.from_residual.result c.from_residual.ensures.1 in
    rw (p.1, p.2)
    (line_refused c.args.m c.args.keys.now c.new-c.result c.new-c.ensures l.c l.text l.count l.key-index l.invariant.1 c.requires
    c.loop-key-test.true l.invariant.0 _ refl k.result _ k.ensures.0 c.in_err-count.was)

pub loop-key-preserved : goal.loop-key-preserved
loop-key-preserved c =
    let l = c.loop-key in
    let k = c.process_sound_key-after in (
      search rules,
      typing_on c.new-c.result.settings c.args.keys.now l.c l.text l.count l.key-index l.invariant.1 c.requires
          c.loop-key-test.true l.invariant.0 _ refl k.result _ _ k.ensures.0 c.in_ok-count.was k.ensures.1,
    )

pub returns : goal.returns
returns c =
    let l = c.loop-key in (
      typed_letters c.args.m c.args.keys.now c.new-c.result c.new-c.ensures l.c l.text l.count l.key-index l.invariant.1,
      line_typed c.args.m c.args.keys.now c.new-c.result c.new-c.ensures l.c l.text l.count l.key-index l.invariant.1
          c.loop-key-test.false,
    )
