-- No second answer fits a public function's contract, and no second content of a place that is lent to it: what the lister
-- has to write is one thing, and the answer and the output are told by it.
use mathlib.Core.Path.{refl}
use Rattle.p0_choice.proofs.Only.{OneAnswer, alike}
use Rattle.p5_lister.proofs.Meaning.{one_number_outcome, one_next_outcome}
use Rattle.p5_lister.proofs as own

pub total_only : OneAnswer own.total.Kinds.ps own.total.Kinds.r own.total.Reads.Asked own.total.Reads.Learnt
total_only κs a = (tt, λ z z' w w' q q'. (alike q.0 q'.0, refl))

pub word_number_only : OneAnswer own.word_number.Kinds.ps own.word_number.Kinds.r own.word_number.Reads.Asked own.word_number.Reads.Learnt
word_number_only κs a = (
  tt,
  λ z z' w w' q q'.
      let e = one_number_outcome a.0 q.0 q'.0 q.1 q'.1 in
      (alike (rw e at q.2) q'.2, λ i. (tt, (alike (rw e at q.3) q'.3 i, tt))),
)

pub next_word_only : OneAnswer own.next_word.Kinds.ps own.next_word.Kinds.r own.next_word.Reads.Asked own.next_word.Reads.Learnt
next_word_only κs a = (
  tt,
  λ z z' w w' q q'.
      let e = one_next_outcome a.0.now q.0 q'.0 q.1 q'.1 in
      (alike (rw e at q.2) q'.2, λ i. (tt, (alike (rw e at q.3) q'.3 i, tt))),
)
