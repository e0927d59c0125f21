-- No second answer fits a public function's contract, and no second content of a place that is lent to it.
use Rattle.p0_choice.proofs.Only.{OneAnswer, alike}
use Rattle.p5_utf8_text.proofs.writer as writer
use Rattle.p5_utf8_text.proofs.reader as reader

pub write_only : OneAnswer writer.write.Kinds.ps writer.write.Kinds.r writer.write.Reads.Asked writer.write.Reads.Learnt
write_only κs a = (tt, λ z z' w w' q q'. (alike q.0 q'.0, λ i. (tt, (alike q.1 q'.1 i, tt))))

pub read_only : OneAnswer reader.read.Kinds.ps reader.read.Kinds.r reader.read.Reads.Asked reader.read.Reads.Learnt
read_only κs a = (tt, λ z z' w w' q q'. (alike q.0 q'.0, λ i. (tt, (alike q.1 q'.1 i, tt))))
