-- That no second answer fits the contract of a function, said of its clauses themselves: in every model they ask nothing and tell
-- a plain fact, and no second answer meets that fact. It is said so of the functions that lend on what they are lent, beside the
-- law over what Rattle reads out of the contract (Only.antt).
use mathlib.Core.Path.{◌≡◌}
use mathlib.Core.List.{List}
use Prim.Native.Nat.{ℕ}
use seplogic.Ra.Ura.{Ura}
use base.Logic.{SProp, ent, emp}
use prog.Memory.{Memory}
use prog.Routine.{Routine}
use types.Logic.{Logic}
use contract.Lifetimes.{Lfts}
use contract.Monad.{Fun, fact}
use denote.Triple.Entry.{Args, Res}
use denote.Triple.Clauses.{Ended, Clauses, Lasts, AtExit, at_exit}
use borrow.Fn.World.{World}

-- the clauses as they stand in src/, for any model
abbrev pub Written : Ended → Type 2
Written T = (M : Type 1) (𝓤 : Ura M) (𝓛 : Logic 𝓤) → (Memory → SProp 𝓤) → (Routine → Fun 𝓤) → Clauses 𝓤 T

module _ (T : Ended) (written : Written T) where
  abbrev Lives : Type 0
  Lives = Lfts T.signature.lifetimes

  abbrev Given : Lives → Type 0
  Given = Args T.signature

  abbrev Got : Lives → Type 0
  Got = Res T.signature

  abbrev clauses : (m : World) → Clauses m.𝓤 T
  clauses m = written m.M m.𝓤 m.𝓛 m.𝓜.mem m.𝓡.run

  pub record OneFact (Same : (κs : Lives) → Got κs → Got κs → Type 0) : Type 2 where
    pub Told : (κs : Lives) → Given κs → Got κs → AtExit T κs → Type 0
    pub asks_nothing : (m : World) (κs : Lives) (a : Given κs)
        → (g : (clauses m κs a).ghost) × ent m.𝓤 (emp m.𝓤) ((clauses m κs a).requires g)
    pub tells : (m : World) (κs : Lives) (a : Given κs) (g : (clauses m κs a).ghost) (z : Got κs) (e : AtExit T κs)
        → ent m.𝓤 ((clauses m κs a).ensures g z e) (fact m.𝓤 (Told κs a z e))
    pub one : (κs : Lives) (a : Given κs) (z z' : Got κs) (w w' : Lasts T κs a)
        → Told κs a z (at_exit T κs a w) → Told κs a z' (at_exit T κs a w') → Same κs z z' × (w ≡ w')

  abbrev pub OneAnswerWalked : Type 2
  OneAnswerWalked = OneFact (λ κs z z'. z ≡ z')

  -- of a slice, what stands in it
  abbrev pub OneContentWalked : ((κs : Lives) → Got κs → List ℕ) → Type 2
  OneContentWalked content = OneFact (λ κs z z'. content κs z ≡ content κs z')
