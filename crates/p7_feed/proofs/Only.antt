-- No second answer fits a public function's contract, and no second content of a place that is lent to it.
use Rattle.p0_choice.proofs.Only.{OneAnswerAsked, alike}
use Rattle.p7_feed.proofs as own

pub feed_only : OneAnswerAsked own.feed.Kinds.ps own.feed.Kinds.r own.feed.Reads.Asked own.feed.Reads.Learnt
feed_only κs a asked z z' w w' q q' = (alike q.0.0 q'.0.0, λ i. (tt, (alike q.1.0.1 q'.1.0.1 i, (alike q.1.1 q'.1.1 i, tt))))

pub finish_only : OneAnswerAsked own.finish.Kinds.ps own.finish.Kinds.r own.finish.Reads.Asked own.finish.Reads.Learnt
finish_only κs a asked z z' w w' q q' = (alike q.0 q'.0, λ i. (tt, (tt, (alike q.2 q'.2 i, tt))))
