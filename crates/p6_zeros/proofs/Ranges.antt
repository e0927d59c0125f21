-- What `all` says of a range of numbers, in the definitions' words.
use Rattle.std.proofs.Common.{◌≡◌, ℕ, zero, suc, ◌+◌, Bool, true, false, refl, arith}
use Rattle.std.specs.List.{list_all, range_with_len}
use mathlib.Core.Bool.{◌&&◌}
use Rattle.p0_choice.specs.Choice.{pick, each, from}

pub list_all-each : (p : ℕ → Bool) (n i : ℕ) → list_all p (range_with_len i n) ≡ each p (from n i)
list_all-each p zero i = refl
list_all-each p (suc n) i = let e : i + 1 ≡ suc i = omega arith in rw (e, list_all-each p n (suc i)) (go (p i) (each p (from n (suc i))))
  where
    go : (x y : Bool) → (x && y) ≡ pick x y false
    go true y = refl
    go false y = refl
