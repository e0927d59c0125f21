use borrow.Author.Rules.{rules}
use mathlib.Core.Path.{◌≡◌, refl}
use mathlib.Core.Bool.{Bool, true, false, not}
use Rattle.p6_composition.proofs.Calls.{unsound_answer, unsound_bytes, unsound_out}
use Rattle.p6_composition.proofs.InPlace.{few}
use Rattle.p6_composition.proofs.OneKey.{foreign_key, no_room_in, room_in, pass_short, pass_told, pass_stays, pass_out, full_key, short_key, places}
use Rattle.p6_composition.proofs.OneKey.{done_key}
use Rattle.p6_composition.proofs.process_key.Goals as goal

ruleset answers = (rules, few, unsound_answer, unsound_bytes, unsound_out, foreign_key, no_room_in, room_in, pass_short, pass_told, pass_stays, pass_out, full_key, short_key, places, done_key)

not_false_of : (b : Bool) → b ≡ true → not b ≡ false
not_false_of b h = rw h refl

not_true_of : (b : Bool) → b ≡ false → not b ≡ true
not_true_of b h = rw h refl

pub returns-in_default : goal.returns-in_default
returns-in_default c = search answers

-- no letter of the alphabet
pub returns-then-not-in_alphabet : goal.returns-then-not-in_alphabet
returns-then-not-in_alphabet c =
    rw (← c.in-Some.ensures.cases.0) (foreign_key _ c.in-Some.ensures.cases.1 _ _ _ c.in_alphabet.ensures (not_true_of _ c.if-not-in_alphabet.true))

-- English mode, and no room
pub returns-then-is_empty : goal.returns-then-is_empty
returns-then-is_empty c =
    rw (← c.in-Some.ensures.cases.0)
    (pass_short _ c.in-Some.ensures.cases.1 _ _ _ c.in_alphabet.ensures (not_false_of _ c.if-not-in_alphabet.false) _ c.settings-z.ensures c.in-English.is (no_room_in _ _ c.is_empty.ensures c.if-is_empty.true))

pub returns-in-English : goal.returns-in-English
returns-in-English c =
    let l = room_in _ _ c.is_empty.ensures c.if-is_empty.false in rw (← c.in-Some.ensures.cases.0) (search answers)

pub step_on-s-requires : goal.step_on-s-requires
step_on-s-requires c = search answers

-- all cells are used
pub returns-then-count-gt-LIMIT : goal.returns-then-count-gt-LIMIT
returns-then-count-gt-LIMIT c =
    rw (← c.in-Some.ensures.cases.0)
    (full_key _ c.in-Some.ensures.cases.1 _ _ _ c.in_alphabet.ensures (not_false_of _ c.if-not-in_alphabet.false)
    _ c.settings-z.ensures c.in_default-mode.not-English _ _ c.ascii_lower-k.ensures c.step_on-s.ensures c.if-count-gt-LIMIT.true)

-- no room for the letters
pub returns-then-out-count : goal.returns-then-out-count
returns-then-out-count c =
    rw (← c.in-Some.ensures.cases.0)
    (short_key _ c.in-Some.ensures.cases.1 _ _ _ c.in_alphabet.ensures (not_false_of _ c.if-not-in_alphabet.false)
    _ c.settings-z.ensures c.in_default-mode.not-English _ _ c.ascii_lower-k.ensures c.step_on-s.ensures c.if-count-gt-LIMIT.false c.if-out-count.true)

pub apply-requires : goal.apply-requires
apply-requires c = search answers

-- the step is done
pub returns : goal.returns
returns c =
    rw (← c.in-Some.ensures.cases.0)
    (done_key _ c.in-Some.ensures.cases.1 _ _ _ c.in_alphabet.ensures (not_false_of _ c.if-not-in_alphabet.false)
    _ c.settings-z.ensures c.in_default-mode.not-English _ _ c.ascii_lower-k.ensures c.step_on-s.ensures c.if-count-gt-LIMIT.false c.if-out-count.false _
    (search rules) c.apply.ensures _ c.text.ensures)
