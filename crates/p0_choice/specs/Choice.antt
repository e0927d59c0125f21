-- A choice by a test, what stands in a list, and tests over whole tables.
use Rattle.std.specs.Prelude.{Bool, true, false, List, [], ◌∷◌, ℕ, zero, suc, eqb}

-- a where the test holds, else b: the definitions' `if`
abbrev pub pick : {A : Type 0} → Bool → A → A → A
pick true a b = a
pick false a b = b

-- x is one of the list
abbrev pub among : ℕ → List ℕ → Bool
among x [] = false
among x (y ∷ ys) = pick (eqb x y) true (among x ys)

-- each of the list passes the test
abbrev pub each : {A : Type 0} → (A → Bool) → List A → Bool
each p [] = true
each p (x ∷ xs) = pick (p x) (each p xs) false

-- the n numbers from i on
abbrev pub from : ℕ → ℕ → List ℕ
from zero i = []
from (suc n) i = i ∷ from n (suc i)

-- the two tests say the same
abbrev pub same : Bool → Bool → Bool
same true b = b
same false b = pick b false true
