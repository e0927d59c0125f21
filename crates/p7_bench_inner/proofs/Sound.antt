-- The composition at hand is sound: a new one is so, and a key keeps it so.
use Prim.Native.Nat.{ℕ}
use mathlib.Core.Path.{◌≡◌}
use mathlib.Core.Bool.{true}
use mathlib.Core.List.{List}
use lib.ListN.{length}
use Rattle.p2_input_method.specs.declared.InputMethod.TheVariants.{Telex}
use Rattle.p3_calls.specs.Settings.{created}
use Rattle.p3_calls.proofs.Kept.{new_sound}
use Rattle.p3_cells.specs.Cells.{is_sound}
use Rattle.p3_cells.specs.declared.Composition.{Composition}
use Rattle.p3_key.specs.Process.{keyed}
use Rattle.p3_cells.specs.declared.After.{After}
use Rattle.p3_key.proofs.Kept.{key_sound}

pub fresh_sound : (c : Composition) → c ≡ created Telex → is_sound c ≡ true
fresh_sound c e = rw e (new_sound Telex)

pub typed_sound : (c : Composition) (k : ℕ) (text : List ℕ) (r : After) → is_sound c ≡ true → r ≡ keyed c k (length text)
    → is_sound r.comp ≡ true
typed_sound c k text r s e = rw e (key_sound c k (length text) s)
