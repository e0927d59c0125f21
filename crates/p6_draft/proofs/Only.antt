-- No second answer fits a public function's contract, and no second content of a place that is lent to it.
use mathlib.Core.Path.{refl}
use Rattle.p0_choice.proofs.Only.{OneAnswer, OneAnswerAsked, alike}
use Rattle.p6_draft.proofs as own

pub put_head_only : OneAnswerAsked own.put_head.Kinds.ps own.put_head.Kinds.r own.put_head.Reads.Asked own.put_head.Reads.Learnt
put_head_only κs a asked z z' w w' q q' = (refl, λ i. (alike q q' i, (tt, (tt, (tt, tt)))))

pub put_tail_only : OneAnswerAsked own.put_tail.Kinds.ps own.put_tail.Kinds.r own.put_tail.Reads.Asked own.put_tail.Reads.Learnt
put_tail_only κs a asked z z' w w' q q' = (refl, λ i. (alike q q' i, (tt, (tt, tt))))

pub put_cell_only : OneAnswerAsked own.put_cell.Kinds.ps own.put_cell.Kinds.r own.put_cell.Reads.Asked own.put_cell.Reads.Learnt
put_cell_only κs a asked z z' w w' q q' = (refl, λ i. (alike q q' i, (tt, (tt, tt))))

pub cell_only : OneAnswerAsked own.cell.Kinds.ps own.cell.Kinds.r own.cell.Reads.Asked own.cell.Reads.Learnt
cell_only κs a asked z z' w w' q q' = (alike q q', refl)

pub cell_count_only : OneAnswerAsked own.cell_count.Kinds.ps own.cell_count.Kinds.r own.cell_count.Reads.Asked own.cell_count.Reads.Learnt
cell_count_only κs a asked z z' w w' q q' = (alike q q', refl)

pub is_draft_only : OneAnswer own.is_draft.Kinds.ps own.is_draft.Kinds.r own.is_draft.Reads.Asked own.is_draft.Reads.Learnt
is_draft_only κs a = (tt, λ z z' w w' q q'. (alike q q', refl))

pub settings_only : OneAnswerAsked own.settings.Kinds.ps own.settings.Kinds.r own.settings.Reads.Asked own.settings.Reads.Learnt
settings_only κs a asked z z' w w' q q' = (alike q q', refl)
