-- No second answer fits a public function's contract, and no second content of a place that is lent to it. It is said twice:
-- as Rattle reads the contracts, and of the clauses themselves in every model.
use base.Logic.{emp, id⊢}
use Rattle.p0_choice.proofs.Only.{OneAnswer, alike}
use Rattle.p0_choice.proofs.OnlyWalked.{OneAnswerWalked}
use Rattle.p6_lent.specs.contracts as told
use Rattle.p6_lent.proofs as own

pub process_key_only :
    OneAnswer own.process_key.Kinds.ps own.process_key.Kinds.r own.process_key.Reads.Asked own.process_key.Reads.Learnt
    × OneAnswerWalked told.process_key.ended (λ M 𝓤 𝓛. told.process_key.clauses 𝓛)
process_key_only = (
  λ κs a. (tt, λ z z' w w' q q'. (alike q.1 q'.1, λ i. (alike q.0 q'.0 i, (tt, (alike q.2 q'.2 i, tt))))),
  record {
    Told = _;
    asks_nothing = λ m κs a. (tt, id⊢ m.𝓤 (emp m.𝓤));
    tells = λ m κs a g z e. id⊢ m.𝓤 _;
    one = λ κs a z z' w w' q q'. (alike q.1 q'.1, λ i. (alike q.0 q'.0 i, (tt, (alike q.2 q'.2 i, tt))));
  },
)

pub reset_only :
    OneAnswer own.reset.Kinds.ps own.reset.Kinds.r own.reset.Reads.Asked own.reset.Reads.Learnt
    × OneAnswerWalked told.reset.ended (λ M 𝓤 𝓛. told.reset.clauses 𝓛)
reset_only = (
  λ κs a. (tt, λ z z' w w' q q'. (alike q.1 q'.1, λ i. (alike q.0 q'.0 i, tt))),
  record {
    Told = _;
    asks_nothing = λ m κs a. (tt, id⊢ m.𝓤 (emp m.𝓤));
    tells = λ m κs a g z e. id⊢ m.𝓤 _;
    one = λ κs a z z' w w' q q'. (alike q.1 q'.1, λ i. (alike q.0 q'.0 i, tt));
  },
)

pub pop_last_only :
    OneAnswer own.pop_last.Kinds.ps own.pop_last.Kinds.r own.pop_last.Reads.Asked own.pop_last.Reads.Learnt
    × OneAnswerWalked told.pop_last.ended (λ M 𝓤 𝓛. told.pop_last.clauses 𝓛)
pop_last_only = (
  λ κs a. (tt, λ z z' w w' q q'. (alike q.1 q'.1, λ i. (alike q.0 q'.0 i, (alike q.2 q'.2 i, tt)))),
  record {
    Told = _;
    asks_nothing = λ m κs a. (tt, id⊢ m.𝓤 (emp m.𝓤));
    tells = λ m κs a g z e. id⊢ m.𝓤 _;
    one = λ κs a z z' w w' q q'. (alike q.1 q'.1, λ i. (alike q.0 q'.0 i, (alike q.2 q'.2 i, tt)));
  },
)

pub undo_telex_transform_only :
    OneAnswer own.undo_telex_transform.Kinds.ps own.undo_telex_transform.Kinds.r own.undo_telex_transform.Reads.Asked own.undo_telex_transform.Reads.Learnt
    × OneAnswerWalked told.undo_telex_transform.ended (λ M 𝓤 𝓛. told.undo_telex_transform.clauses 𝓛)
undo_telex_transform_only = (
  λ κs a. (tt, λ z z' w w' q q'. (alike q.1 q'.1, λ i. (alike q.0 q'.0 i, (tt, (tt, tt))))),
  record {
    Told = _;
    asks_nothing = λ m κs a. (tt, id⊢ m.𝓤 (emp m.𝓤));
    tells = λ m κs a g z e. id⊢ m.𝓤 _;
    one = λ κs a z z' w w' q q'. (alike q.1 q'.1, λ i. (alike q.0 q'.0 i, (tt, (tt, tt))));
  },
)
