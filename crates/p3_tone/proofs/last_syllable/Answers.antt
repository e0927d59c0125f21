use Rattle.std.proofs.Common.{◌≡◌, ◌+◌, ◌-◌, false, drop, arith}
use Rattle.p3_cells.specs.Mirror.{row_cells}
use Rattle.p3_tone.specs.TonePlace.{any_separates}
use Rattle.p3_tone.proofs.Syllable.{start_found}
use Rattle.p3_tone.proofs.last_syllable.Goals as goal

pub returns-then-is_separator : goal.returns-then-is_separator
returns-then-is_separator c =
    let d : c.loop-i.i - 1 + 1 ≡ c.loop-i.i = omega arith in
    let e : any_separates (drop (c.loop-i.i - 1 + 1) (row_cells c.args.row.now)) ≡ false = rw d c.loop-i.invariant.1 in
    (start_found _ _ e (omega arith) _ c.is_separator.ensures c.if-is_separator.true, omega arith, rw d c.loop-i.invariant.2)
