-- No second answer fits a public function's contract, and no second content of a place that is lent to it.
use Rattle.std.specs.Prelude.{Option, None, Some, MatchOption}
use Prim.Native.Nat.{ℕ}
use mathlib.Core.Path.{◌≡◌, refl}
use mathlib.Core.Bool.{true, false}
use mathlib.Core.List.{List, []}
use native.Mathlib.Omega.{arith}
use contract.Lifetimes.{Lfts}
use denote.Ref.{Bor, MutBor}
use borrow.Fn.Kinds.{Dens}
use Rattle.p0_choice.proofs.Only.{OneAnswer, OneAnswerAsked, Fixed, alike}
use Rattle.p6_bytes.specs.Bytes.{bytes_sound}
use Rattle.p6_bytes.proofs as own

pub cell_only : OneAnswerAsked own.cell.Kinds.ps own.cell.Kinds.r own.cell.Reads.Asked own.cell.Reads.Learnt
cell_only κs a asked z z' w w' q q' = (alike q q', refl)

pub store_only : OneAnswerAsked own.store.Kinds.ps own.store.Kinds.r own.store.Reads.Asked own.store.Reads.Learnt
store_only κs a asked z z' w w' q q' = (refl, λ i. (alike q q' i, (tt, (tt, tt))))

pub shown_only : OneAnswerAsked own.shown.Kinds.ps own.shown.Kinds.r own.shown.Reads.Asked own.shown.Reads.Learnt
shown_only κs a asked z z' w w' q q' = (alike q q', refl)

pub clear_only : OneAnswer own.clear.Kinds.ps own.clear.Kinds.r own.clear.Reads.Asked own.clear.Reads.Learnt
clear_only κs a = (tt, λ z z' w w' q q'. (refl, λ i. (alike q q' i, tt)))

pub flag_byte_only : OneAnswer own.flag_byte.Kinds.ps own.flag_byte.Kinds.r own.flag_byte.Reads.Asked own.flag_byte.Reads.Learnt
flag_byte_only κs a = (tt, λ z z' w w' q q'. (alike q q', refl))

pub bytes_ok_only : OneAnswer own.bytes_ok.Kinds.ps own.bytes_ok.Kinds.r own.bytes_ok.Reads.Asked own.bytes_ok.Reads.Learnt
bytes_ok_only κs a = (tt, λ z z' w w' q q'. (alike q q', refl))

pub method_of_only : OneAnswer own.method_of.Kinds.ps own.method_of.Kinds.r own.method_of.Reads.Asked own.method_of.Reads.Learnt
method_of_only κs a = (tt, λ z z' w w' q q'. (alike q q', refl))

pub mode_of_only : OneAnswer own.mode_of.Kinds.ps own.mode_of.Kinds.r own.mode_of.Reads.Asked own.mode_of.Reads.Learnt
mode_of_only κs a = (tt, λ z z' w w' q q'. (alike q q', refl))

pub settings_only : OneAnswer own.settings.Kinds.ps own.settings.Kinds.r own.settings.Reads.Asked own.settings.Reads.Learnt
settings_only κs a = (tt, λ z z' w w' q q'. (alike q q', refl))

pub capitals_only : OneAnswer own.capitals.Kinds.ps own.capitals.Kinds.r own.capitals.Reads.Asked own.capitals.Reads.Learnt
capitals_only κs a = (tt, λ z z' w w' q q'. (alike q q', refl))

pub method_number_only : OneAnswer own.method_number.Kinds.ps own.method_number.Kinds.r own.method_number.Reads.Asked own.method_number.Reads.Learnt
method_number_only κs a = (tt, λ z z' w w' q q'. (alike q q', refl))

pub mode_number_only : OneAnswer own.mode_number.Kinds.ps own.mode_number.Kinds.r own.mode_number.Reads.Asked own.mode_number.Reads.Learnt
mode_number_only κs a = (tt, λ z z' w w' q q'. (alike q q', refl))

pub capitals_number_only : OneAnswer own.capitals_number.Kinds.ps own.capitals_number.Kinds.r own.capitals_number.Reads.Asked own.capitals_number.Reads.Learnt
capitals_number_only κs a = (tt, λ z z' w w' q q'. (alike q q', refl))

pub cell_count_only : OneAnswer own.cell_count.Kinds.ps own.cell_count.Kinds.r own.cell_count.Reads.Asked own.cell_count.Reads.Learnt
cell_count_only κs a = (tt, λ z z' w w' q q'. (alike q q', refl))

-- the bytes that are given back, to be read or to be written: where they lie is not told
abbrev pub given : Option (Bor (List ℕ)) → List ℕ
given None = []
given (Some s) = s.now

abbrev pub lent : Option (MutBor (List ℕ)) → List ℕ
lent None = []
lent (Some s) = s.now

module _ (b : List ℕ) where
  abbrev Tells : List ℕ → Type 0
  Tells s = (s ≡ b) × (bytes_sound s ≡ true)

  never : {A : Type 0} → bytes_sound b ≡ false → (s : List ℕ) → Tells s → A
  never p s e = let y : bytes_sound b ≡ true = rw e.0 at e.1 in let z : ◌≡◌ {A = ℕ} 0 1 = cc in absurd (omega arith)

  same : (z z' : Option (Bor (List ℕ))) → MatchOption z (bytes_sound b ≡ false) (λ s. Tells s.now)
      → MatchOption z' (bytes_sound b ≡ false) (λ s. Tells s.now) → given z ≡ given z'
  same None None p q = refl
  same None (Some t) p q = never p t.now q
  same (Some s) None p q = never q s.now p
  same (Some s) (Some t) p q = alike p.0 q.0

  same_lent : (z z' : Option (MutBor (List ℕ))) → MatchOption z (bytes_sound b ≡ false) (λ s. Tells s.now)
      → MatchOption z' (bytes_sound b ≡ false) (λ s. Tells s.now) → lent z ≡ lent z'
  same_lent None None p q = refl
  same_lent None (Some t) p q = never p t.now q
  same_lent (Some s) None p q = never q s.now p
  same_lent (Some s) (Some t) p q = alike p.0 q.0

pub checked_only : (κs : Lfts 1) (a : Dens κs own.checked.Kinds.ps) → own.checked.Reads.Asked κs a
    × Fixed own.checked.Kinds.ps own.checked.Kinds.r own.checked.Reads.Asked own.checked.Reads.Learnt κs a (λ z z'. given z ≡ given z')
checked_only κs a = (tt, λ z z' w w' q q'. (same a.0.now z z' q q', refl))

pub checked_mut_only : (κs : Lfts 1) (a : Dens κs own.checked_mut.Kinds.ps) → own.checked_mut.Reads.Asked κs a
    × Fixed own.checked_mut.Kinds.ps own.checked_mut.Kinds.r own.checked_mut.Reads.Asked own.checked_mut.Reads.Learnt κs a (λ z z'. lent z ≡ lent z')
checked_mut_only κs a = (tt, λ z z' w w' q q'. (same_lent a.0.now z z' q q', refl))
