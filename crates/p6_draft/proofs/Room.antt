-- The drafts of sound compositions have room in so many bytes.
use Prim.Native.Nat.{◌≤◌}
use mathlib.Core.Path.{◌≡◌}
use mathlib.Core.Bool.{true}
use native.Mathlib.Omega.{arith}
use lib.ListN.{length}
use Rattle.p3_cells.specs.Cells.{is_sound}
use Rattle.p3_cells.specs.declared.Composition.{Composition}
use Rattle.p3_cells.proofs.Holding.{count_fits, used_length}
use Rattle.p6_draft.specs.Draft.{draft_of, draft_room}
use Rattle.p6_draft.proofs.Writing.{draft_length_lem}

pub draft_fits : (c : Composition) → is_sound c ≡ true → length (draft_of c) ≤ draft_room
draft_fits c s = omega (arith, draft_length_lem c c.count (used_length c s), count_fits c s)
