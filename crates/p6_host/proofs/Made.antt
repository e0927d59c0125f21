-- A call that was made, for laws over the contracts of several calls as Rattle reads them out of src/.
use Prim.Native.Nat.{ℕ}
use mathlib.Core.List.{List}
use mir.Syntax.{w32}
use contract.Lifetimes.{Lfts}
use denote.Triple.Clauses.{Lasts, at_exit}
use borrow.Fn.Kinds.{ParamKind, Out, Dens, ended_of, r_num}

-- what it was handed, the number returned, what then stands in the lent places, and what its contract tells of these
module _ {n : ℕ} (ps : List (ParamKind n)) (Learnt : Out n ps (r_num w32)) where
  pub record Made : Type 0 where
    pub κs : Lfts n
    pub handed : Dens κs ps
    pub number : ℕ
    pub left : Lasts (ended_of n ps (r_num w32)) κs handed
    pub told : Learnt κs handed number (at_exit (ended_of n ps (r_num w32)) κs handed left)
