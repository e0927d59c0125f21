use Rattle.std.proofs.Common.{◌≡◌, length, take, rules, arith, length-set}
use Rattle.std.proofs.lemmas.List.{length-take-le}
use Rattle.p3_cells.proofs.Holding.{count_fits}
use Rattle.p3_cells.proofs.Soundness.{sound_length}
use Rattle.p3_undo.proofs.Signs.{signed_none, signed_front, signed_all, row_found}
use Rattle.p3_undo.proofs.find.Goals as goal

pub loop-i-init : goal.loop-i-init
loop-i-init c = (search rules, signed_none _ _)

pub loop-i-preserved : goal.loop-i-preserved
loop-i-preserved c =
    let n = count_fits _ c.requires in
    let p = sound_length _ c.requires in
    (simp length-set c.loop-i.invariant.0, signed_front _ _ _ _ c.loop-i.invariant.1 c.sign.ensures c.loop-i-test.true (omega arith) (omega arith))

pub returns : goal.returns
returns c =
    let n = count_fits _ c.requires in
    let p = sound_length _ c.requires in
    let k : length (take c.args.c.count c.args.c.cells) ≡ c.args.c.count = length-take-le c.args.c.count c.args.c.cells (omega arith) in
    row_found _ c.requires _ _ _ _ (signed_all _ _ _ _ c.loop-i.invariant.1 (omega arith) (omega arith)) c.to_undo.ensures
