-- With room for the longest listed word, 8 letters, no call of the lister refuses by 3.
use Rattle.std.specs.Prelude.{Err, Result}
use Rattle.p0_refusals.specs.declared.Refusal.{Refusal}
use Prim.Native.Nat.{ℕ, ◌≤◌}
use mathlib.Core.Path.{◌≡◌}
use mathlib.Core.List.{List}
use lib.ListN.{length}
use Rattle.p0_refusals.specs.declared.Refusal.TheVariants.{Short}
use Rattle.p4_rows.specs.Rows.{Word}
use Rattle.p4_spelling.specs.Verdict.{longest_length}
use Rattle.p5_listing.specs.Listed.{Listed}
use Rattle.p5_listing.proofs.Counts.{counts}
use Rattle.p5_lister.specs.Meaning.{NumberMeans, NextMeans}
use Rattle.p5_lister.proofs.Answers.{Answers}
use Rattle.p5_lister.proofs.AnyList as Any

module _ (o : List ℕ) (a : Result ℕ Refusal) (out : List ℕ) (room : longest_length ≤ length o) (e : a ≡ Err Short) where
  pub number_has_room : (n : ℕ) → Answers (NumberMeans Listed n) o a out → ⊥
  number_has_room = Any.number_has_room Listed longest_length counts.longest.within o a out room e

  pub next_has_room : (w : Word) → Answers (NextMeans Listed w) o a out → ⊥
  next_has_room = Any.next_has_room Listed longest_length counts.longest.within o a out room e
