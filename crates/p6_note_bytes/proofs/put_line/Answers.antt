use Rattle.std.proofs.Common.{◌++◌, drop, refl}
use Rattle.p6_note_bytes.proofs.Writing.{line_put}
use Rattle.p6_note_bytes.proofs.put_line.Goals as goal

pub returns : goal.returns
returns c =
    line_put c.args.b.now (c.copy_from_slice.new.self ++ drop 10 c.args.b.now) _ _
    (rw (c.copy_from_slice.ensures.after, c.head.ensures) refl) c.put_kept.ensures
