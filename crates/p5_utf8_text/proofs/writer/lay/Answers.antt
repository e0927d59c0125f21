use Rattle.p5_utf8_text.proofs.Laying.{next_scalar, put_fits, put_on, put_length, put_bytes, put_rest}
use Rattle.p5_utf8_text.proofs.writer.lay.Goals as goal

pub put-j-requires : goal.put-j-requires
put-j-requires c = (search next_scalar, search put_fits)

pub loop-x-preserved : goal.loop-x-preserved
loop-x-preserved c = (search put_on, search put_length, search put_bytes, search put_rest)
