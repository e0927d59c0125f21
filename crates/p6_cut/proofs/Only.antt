-- No second answer fits a public function's contract, and no second content of a place that is lent to it. Of a cut word's functions it
-- is said twice: as Rattle reads their contracts, and of the clauses themselves in every model.
use mathlib.Core.Path.{refl}
use base.Logic.{emp, id⊢}
use Rattle.p0_choice.proofs.Only.{OneAnswer, OneContent, alike}
use Rattle.p0_choice.proofs.OnlyWalked.{OneAnswerWalked, OneContentWalked}
use Rattle.p6_cut.specs.contracts as told
use Rattle.p6_cut.proofs as own

pub places_of_only : OneAnswer own.places_of.Kinds.ps own.places_of.Kinds.r own.places_of.Reads.Asked own.places_of.Reads.Learnt
places_of_only κs a = (tt, λ z z' w w' q q'. (alike q q', refl))

pub onset_between_only :
    OneContent own.onset_between.Kinds.ps own.onset_between.Kinds.r
    own.onset_between.Reads.Asked own.onset_between.Reads.Learnt (λ κs z. z.now)
onset_between_only κs a = (tt, λ z z' w w' q q'. (alike q q', refl))

pub vowels_between_only :
    OneContent own.vowels_between.Kinds.ps own.vowels_between.Kinds.r
    own.vowels_between.Reads.Asked own.vowels_between.Reads.Learnt (λ κs z. z.now)
vowels_between_only κs a = (tt, λ z z' w w' q q'. (alike q q', refl))

pub coda_between_only :
    OneContent own.coda_between.Kinds.ps own.coda_between.Kinds.r own.coda_between.Reads.Asked own.coda_between.Reads.Learnt (λ κs z. z.now)
coda_between_only κs a = (tt, λ z z' w w' q q'. (alike q q', refl))

pub cut_only :
    OneAnswer own.cut.Kinds.ps own.cut.Kinds.r own.cut.Reads.Asked own.cut.Reads.Learnt
    × OneAnswerWalked told.cut.ended (λ M 𝓤 𝓛. told.cut.clauses 𝓛)
cut_only = (
  λ κs a. (tt, λ z z' w w' q q'. (λ i. record { word = alike q.0 q'.0 i; places = alike q.1 q'.1 i }, refl)),
  record {
    Told = _;
    asks_nothing = λ m κs a. (tt, id⊢ m.𝓤 (emp m.𝓤));
    tells = λ m κs a g z e. id⊢ m.𝓤 _;
    one = λ κs a z z' w w' q q'. (λ i. record { word = alike q.0 q'.0 i; places = alike q.1 q'.1 i }, refl);
  },
)

pub onset_only :
    OneContent own.onset.Kinds.ps own.onset.Kinds.r own.onset.Reads.Asked own.onset.Reads.Learnt (λ κs z. z.now)
    × OneContentWalked told.onset.ended (λ M 𝓤 𝓛. told.onset.clauses 𝓛) (λ κs z. z.now)
onset_only = (
  λ κs a. (tt, λ z z' w w' q q'. (alike q q', refl)),
  record {
    Told = _;
    asks_nothing = λ m κs a. (tt, id⊢ m.𝓤 (emp m.𝓤));
    tells = λ m κs a g z e. id⊢ m.𝓤 _;
    one = λ κs a z z' w w' q q'. (alike q q', refl);
  },
)

pub vowels_only :
    OneContent own.vowels.Kinds.ps own.vowels.Kinds.r own.vowels.Reads.Asked own.vowels.Reads.Learnt (λ κs z. z.now)
    × OneContentWalked told.vowels.ended (λ M 𝓤 𝓛. told.vowels.clauses 𝓛) (λ κs z. z.now)
vowels_only = (
  λ κs a. (tt, λ z z' w w' q q'. (alike q q', refl)),
  record {
    Told = _;
    asks_nothing = λ m κs a. (tt, id⊢ m.𝓤 (emp m.𝓤));
    tells = λ m κs a g z e. id⊢ m.𝓤 _;
    one = λ κs a z z' w w' q q'. (alike q q', refl);
  },
)

pub coda_only :
    OneContent own.coda.Kinds.ps own.coda.Kinds.r own.coda.Reads.Asked own.coda.Reads.Learnt (λ κs z. z.now)
    × OneContentWalked told.coda.ended (λ M 𝓤 𝓛. told.coda.clauses 𝓛) (λ κs z. z.now)
coda_only = (
  λ κs a. (tt, λ z z' w w' q q'. (alike q q', refl)),
  record {
    Told = _;
    asks_nothing = λ m κs a. (tt, id⊢ m.𝓤 (emp m.𝓤));
    tells = λ m κs a g z e. id⊢ m.𝓤 _;
    one = λ κs a z z' w w' q q'. (alike q q', refl);
  },
)
