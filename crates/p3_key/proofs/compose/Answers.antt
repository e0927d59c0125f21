use Rattle.std.proofs.Common.{◌≡◌, ◌-◌, ◌<◌, length, take, ap, rules, refl, arith, length-set}
use Rattle.std.proofs.lemmas.List.{length-take-le, get_or-take}
use Rattle.p3_cells.specs.Cells.{limit, blank}
use Rattle.p3_cells.specs.Mirror.{places}
use Rattle.p3_cells.specs.declared.Cell.{Cell}
use Rattle.p3_cells.proofs.Text.{length_under}
use Rattle.p3_cells.proofs.Fill.{fill_none, fill_more}
use Rattle.p3_key.proofs.Faults.{faults_none, faults_used, sum_none, sum_more, sum_all, sum_less, sum_holds}
use Rattle.p3_key.proofs.Letters.{none_in, more_in, all_in}
use Rattle.p3_key.proofs.Owner.{owner_right}
use Rattle.p3_key.proofs.compose.Goals as goal

-- the sum of all cells
pub loop-cell-init : goal.loop-cell-init
loop-cell-init g c = (omega arith, search sum_none)

pub loop-cell-preserved : goal.loop-cell-preserved
loop-cell-preserved g c = (omega (arith, c.packed-left.ensures.2), search sum_more)

-- the row, and the cells in use
pub loop-i-init : goal.loop-i-init
loop-i-init g c = (refl, omega arith, omega arith, fill_none _ _, faults_none _, search sum_all)

pub loop-i-preserved : goal.loop-i-preserved
loop-i-preserved g c =
    let n : places c.args.c ≡ limit = search length_under in
    let k : length (take c.min-used.result c.args.c.cells) ≡ c.min-used.result = length-take-le c.min-used.result c.args.c.cells (omega arith) in
    let m : c.loop-i.i < c.min-used.result = omega arith in
    let g = get_or-take c.min-used.result c.args.c.cells c.loop-i.i blank m in (
      simp length-set c.loop-i.invariant.0,
      omega (arith, c.fault-faults.ensures.1),
      omega arith,
      fill_more _ _ _ _ c.loop-i.invariant.3 (ap (λ (x : Cell). x.base) g) (omega arith) (omega arith),
      faults_used _ _ _ _ _ c.loop-i.invariant.4 c.min-used.ensures m (rw g at c.fault-faults.ensures.0),
      sum_less _ _ _ _ _ c.loop-i.invariant.5 c.min-used.ensures m (rw g at c.packed-left-in-loop-i.ensures.0),
    )

pub overflow_sub-left : goal.overflow_sub-left
overflow_sub-left g c =
    let n : places c.args.c ≡ limit = search length_under in
    let k : length (take c.min-used.result c.args.c.cells) ≡ c.min-used.result = length-take-le c.min-used.result c.args.c.cells (omega arith) in
    let m : c.loop-i.i < c.min-used.result = omega arith in
    let g = get_or-take c.min-used.result c.args.c.cells c.loop-i.i blank m in
    sum_holds _ _ _ _ _ c.loop-i.invariant.5 c.min-used.ensures m (rw g at c.packed-left-in-loop-i.ensures.0)

-- the letters
pub loop-j-init : goal.loop-j-init
loop-j-init g c = (refl, none_in _ _ _ _)

pub loop-j-preserved : goal.loop-j-preserved
loop-j-preserved g c = (
  simp length-set (search rules),
  more_in _ _ _ _ _ _ _ _ c.loop-j.invariant.1 c.letter_for.ensures c.loop-j-test.true c.stroke_of-e.ensures.4,
)

-- the return
pub returns : goal.returns
returns g c =
    let n : places c.args.c ≡ limit = search length_under in
    let k : length (take c.min-used.result c.args.c.cells) ≡ c.min-used.result = length-take-le c.min-used.result c.args.c.cells (omega arith) in
    let z : c.min-used.result - 0 ≡ c.min-used.result = omega arith in
    owner_right _ _ _ _ _ _ _ _ _ _ _ _ _ _ _ _ _ _ n c.loop-i.invariant.4 c.loop-i.invariant.5 c.requires
    c.is_sound-sound.ensures c.min-used.ensures c.loop-i.invariant.3 (omega arith) (omega arith) (rw z refl)
    c.stroke_of-e.ensures.0 c.ascii_lower.ensures c.put_cell-p.ensures c.also_cell.ensures refl
    (all_in _ _ _ _ _ c.stroke_of-e.result.letters _ c.loop-j.invariant.1 (rw (length-set, length-set, n) c.stroke_of-e.ensures.3) (omega arith)
    c.loop-j-test.false)
    (omega arith) (omega arith)
