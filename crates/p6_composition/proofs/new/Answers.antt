use borrow.Author.Rules.{rules}
use mathlib.Core.Path.{◌≡◌, ap, ◌∙◌}
use lib.ListN.{length}
use Rattle.p6_bytes.specs.Bytes.{size}
use Rattle.p6_composition.proofs.Calls.{new_size, new_size_bytes, new_method, new_method_bytes, new_done, new_room, new_done_bytes}
use Rattle.p6_composition.proofs.new.Goals as goal

ruleset answers = (rules, new_size, new_size_bytes, new_method, new_method_bytes, new_done, new_room, new_done_bytes)

pub returns-in_default : goal.returns-in_default
returns-in_default c = search answers

pub returns-then-method-gt1 : goal.returns-then-method-gt1
returns-then-method-gt1 c = search answers

pub returns : goal.returns
returns c =
    let e = c.in-Some.ensures.cases.same in
    let l : length c.in-Some.state.now ≡ size = ap length e ∙ c.in-Some.ensures.cases.long in
    rw (← e) (new_done _ _ l c.if-method-gt1.false, new_done_bytes _ _ l _ c.if-method-gt1.false c.put_zeros.ensures)
