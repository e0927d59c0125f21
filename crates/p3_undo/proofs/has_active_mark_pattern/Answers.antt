use Rattle.std.proofs.Common.{◌≡◌, ◌-◌, List, ℕ, length, take, drop, not, sym, ap, ◌∙◌, length-drop}
use Rattle.std.proofs.Math.Seq.{take-length}
use Rattle.p3_undo.proofs.Raw.{active_some}
use Rattle.p3_undo.proofs.has_active_mark_pattern.Goals as goal

rest : (raw : List ℕ) (e : ℕ) → take (length raw - e) (drop e raw) ≡ drop e raw
rest raw e = rw (← length-drop e raw) (take-length (drop e raw))

pub returns-in-Some : goal.returns-in-Some
returns-in-Some c =
    (rw (rest c.args.raw.now c.in-Some.end) at (ap not c.any_plain.ensures))
    ∙ sym (active_some c.args.raw.now c.args.a c.args.t c.in-Some.end (sym c.last_end.ensures ∙ c.in-Some.is))
