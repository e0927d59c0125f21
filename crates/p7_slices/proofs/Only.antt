-- No second answer fits a public function's contract, and no second content of a place that is lent to it.
use contract.Lifetimes.{Lfts}
use borrow.Fn.Kinds.{Dens}
use borrow.Author.Rules.{rules}
use denote.Builtin.{u8, u32}
use denote.RattleType.{RattleType}
use denote.Param.Laws.{Laws, of_field}
use denote.Param.Shared.{copy_shared}
use denote.Struct.Field.{u8-field, u32-field}
use denote.Struct.Laws.{u8-laws, u8-copy, u32-laws, u32-copy}
use mathlib.Core.Path.{◌≡◌, refl}
use Rattle.p0_choice.proofs.Only.{Fixed, OneAnswerAsked, OneContent, alike}
use Rattle.p7_slices.proofs as own

-- for items of each type; all that is asked is that what they borrow lives as long as the slice
module _ (T : RattleType) (t : Laws T) where
  pub first_only : (κs : Lfts 2) (a : Dens κs (own.first.Kinds.ps T t)) → own.first.Reads.Asked T t κs a
      → Fixed (own.first.Kinds.ps T t) (own.first.Kinds.r T t) (own.first.Reads.Asked T t) (own.first.Reads.Learnt T t) κs a
      (λ z z'. z.now ≡ z'.now)
  first_only κs a asked z z' w w' q q' = (alike q q', refl)

-- of letters and of bytes, which borrow nothing, nothing is asked
pub letter_laws : Laws u32
letter_laws = of_field u32-field u32-laws refl (copy_shared u32-field u32-copy)

pub byte_laws : Laws u8
byte_laws = of_field u8-field u8-laws refl (copy_shared u8-field u8-copy)

pub first_letters_only :
    OneContent (own.first.Kinds.ps u32 letter_laws) (own.first.Kinds.r u32 letter_laws) (own.first.Reads.Asked u32 letter_laws)
    (own.first.Reads.Learnt u32 letter_laws) (λ κs z. z.now)
first_letters_only κs a = (search rules, λ z z' w w' q q'. (alike q q', refl))

pub first_bytes_only :
    OneContent (own.first.Kinds.ps u8 byte_laws) (own.first.Kinds.r u8 byte_laws) (own.first.Reads.Asked u8 byte_laws)
    (own.first.Reads.Learnt u8 byte_laws) (λ κs z. z.now)
first_bytes_only κs a = (search rules, λ z z' w w' q q'. (alike q q', refl))

pub put_only : OneAnswerAsked own.put.Kinds.ps own.put.Kinds.r own.put.Reads.Asked own.put.Reads.Learnt
put_only κs a asked z z' w w' q q' = (alike q.0 q'.0, λ i. (tt, (alike (rw (alike q.0 q'.0) at q.1) q'.1 i, (tt, tt))))
