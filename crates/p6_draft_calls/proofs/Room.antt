-- With room for the longest draft neither writer refuses by 3.
use Rattle.std.specs.Prelude.{Err}
use Prim.Native.Nat.{ℕ, ◌≤◌}
use mathlib.Core.Path.{◌≡◌, refl}
use mathlib.Core.Bool.{Bool, true, false}
use mathlib.Core.List.{List}
use native.Mathlib.Omega.{arith}
use Rattle.p0_refusals.specs.Answers.{answer}
use Rattle.p0_refusals.specs.declared.Refusal.TheVariants.{Short}
use Rattle.p0_refusals.proofs.Room.{Fits, enough}
use Rattle.p3_cells.specs.Cells.{is_sound}
use Rattle.p3_cells.specs.declared.Composition.{Composition}
use Rattle.p6_bytes.specs.Bytes.{composition_of, bytes_sound}
use Rattle.p6_bytes.proofs.Sound.{sound_composition}
use Rattle.p6_draft.specs.Draft.{draft_room}
use Rattle.p6_draft.proofs.Room.{draft_fits}
use Rattle.p6_draft_calls.specs.Calls.{draft_outcome, bytes_outcome}
use Rattle.p6_draft_calls.proofs.Writing.{draft_if, value_is, bytes_is}

fits : (t : Bool) (c : Composition) → (t ≡ true → is_sound c ≡ true) → Fits draft_room (draft_if t c)
fits true c g = draft_fits c (g refl)
fits false c g = λ e. let z : ◌≡◌ {A = ℕ} 0 1 = cc in omega arith

pub value_has_room : (c : Composition) (n : ℕ) → draft_room ≤ n → answer (draft_outcome c) n ≡ Err Short → ⊥
value_has_room c n = enough (draft_outcome c) draft_room n (rw (value_is c) (fits (is_sound c) c (λ s. s)))

pub bytes_have_room : (b : List ℕ) (n : ℕ) → draft_room ≤ n → answer (bytes_outcome b) n ≡ Err Short → ⊥
bytes_have_room b n = enough (bytes_outcome b) draft_room n (rw (bytes_is b) (fits (bytes_sound b) (composition_of b) (sound_composition b)))
