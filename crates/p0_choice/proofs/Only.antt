-- "Each call has one possible answer": that no second answer fits a function's contract, said of the contract itself, as
-- Rattle reads it out of src/: of what its `requires` asks of a caller (Asked) and of what its `ensures` tells one (Learnt).
-- Each crate's proofs/Only.antt has a law for each of its public functions.
use Prim.Native.Nat.{ℕ}
use mathlib.Core.Path.{◌≡◌, sym, ◌∙◌}
use mathlib.Core.List.{List}
use contract.Lifetimes.{Lfts}
use denote.Triple.Clauses.{Lasts, at_exit}
use borrow.Fn.Kinds.{ParamKind, ResultKind, In, Out, Dens, res_t, ended_of}

module _ {n : ℕ} (ps : List (ParamKind n)) (r : ResultKind n) (Asked : In n ps) (Learnt : Out n ps r) where
  -- two results, and two last contents of each lent place, that meet the `ensures` are the same
  abbrev pub Fixed : (κs : Lfts n) (a : Dens κs ps) → ((res_t r κs).Denot → (res_t r κs).Denot → Type 0) → Type 0
  Fixed κs a Same =
      (z z' : (res_t r κs).Denot) (w w' : Lasts (ended_of n ps r) κs a)
      → Learnt κs a z (at_exit (ended_of n ps r) κs a w) → Learnt κs a z' (at_exit (ended_of n ps r) κs a w')
      → Same z z' × (w ≡ w')

  -- a function that takes every argument, and has one answer to each
  abbrev pub OneAnswer : Type 0
  OneAnswer = (κs : Lfts n) (a : Dens κs ps) → Asked κs a × Fixed κs a (λ z z'. z ≡ z')

  -- a function that asks something of its caller, and has one answer to what it is asked
  abbrev pub OneAnswerAsked : Type 0
  OneAnswerAsked = (κs : Lfts n) (a : Dens κs ps) → Asked κs a → Fixed κs a (λ z z'. z ≡ z')

  -- a function that takes every argument and gives a slice: the letters or bytes in it are the answer, and where it lies is not
  abbrev pub OneContent : ((κs : Lfts n) → (res_t r κs).Denot → List ℕ) → Type 0
  OneContent content = (κs : Lfts n) (a : Dens κs ps) → Asked κs a × Fixed κs a (λ z z'. content κs z ≡ content κs z')

-- what two answers are told to be, they both are
pub alike : {A : Type 0} {x y z : A} → x ≡ z → y ≡ z → x ≡ y
alike p q = p ∙ sym q
