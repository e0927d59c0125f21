use Rattle.std.proofs.Common.{sym, ◌∙◌}
use Rattle.p4_note_parts.proofs.Standings.{part_refused}
use Rattle.p4_note_parts.proofs.part.Goals as goal

pub returns-in-Err : goal.returns-in-Err
returns-in-Err c = part_refused _ _ (sym c.sound.ensures ∙ c.if-not-sound.false) _ c.in-Err.is
