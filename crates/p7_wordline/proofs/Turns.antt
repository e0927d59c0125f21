-- What a read gave, and what the turns together have come to.
use Rattle.std.proofs.Common.{ℕ, ◌≡◌, refl, sym, ap, ◌∙◌, Bool, true, false, not, List, [], ◌∷◌, ◌++◌, eqb, ℤ, pos, negsuc, int_eq, take, min, Option, None, Some, Result, Ok, Err, is_ok, ne_eqb}
use Rattle.std.specs.Option.{option_eq}
use Rattle.std.specs.IoError.{raw_os_error}
use Rattle.std.specs.declared.io.Error.{Error}
use Rattle.std.proofs.lemmas.Bool.Decides.{same_from_decides, Decides-like, Decides-eqb, Decides-int_eq}
use borrow.Author.Tests.{not-true, not-false}
use Rattle.p0_choice.specs.Choice.{pick}
use Rattle.p0_refusals.specs.Answers.{onto}
use Rattle.p7_feed.specs.Mirror.{State, state, state_of, run_to, run_out, fed, parts_to}
use Rattle.p7_feed.specs.declared.Carry.{Carry}
use Rattle.p7_feed.specs.declared.Phase.{Phase}
use Rattle.p7_feed.specs.declared.Phase.TheVariants.{Start}
use Rattle.p7_feed.proofs.Whole.{part_after_lem}
use Rattle.p7_wordline.specs.declared.Input.{Input}
use Rattle.p7_wordline.specs.declared.Input.TheVariants.{Bytes, NoMore, Interrupted, Failed}
use Rattle.p7_wordline.specs.declared.Took.{Took}
use Rattle.p7_wordline.specs.Mirror.{failure, input_of, amount, bytes_read, is_over, may_read, goes_on, Came}

-- the test of the error's number is the definition's
same_number : (k : ℕ) → eqb k 4 ≡ int_eq (pos k) (pos 4)
same_number k =
    same_from_decides _ _ (Decides-like (eqb k 4) (λ (e : k ≡ 4). ap pos e) (λ (e : pos k ≡ pos 4). cc) (Decides-eqb k 4))
    (Decides-int_eq (pos k) (pos 4))

by_test : (error : Error) (z : Option ℤ) → failure error z ≡ pick (option_eq int_eq z (Some (pos 4))) Interrupted (Failed error)
unfolding failure
by_test error None = refl
by_test error (Some (pos k)) = rw same_number refl
by_test error (Some (negsuc k)) = refl

-- ---- what a read gave
module _ (said : Result ℕ Error) (n : ℕ) where
  pub no_more : (k : ℕ) → said ≡ Ok k → k ≡ 0 → NoMore ≡ input_of said n
  unfolding input_of
  no_more k e q = rw (e, q) refl

  pub some : (k c : ℕ) → said ≡ Ok k → (k ≡ 0 → ⊥) → c ≡ min k n → Bytes c ≡ input_of said n
  unfolding input_of
  some k c e h m = rw (e, ne_eqb k 0 h, m) refl

  module _ (error : Error) (number : Option ℤ) (e : said ≡ Err error) (r : number ≡ raw_os_error error) where
    by_number : failure error number ≡ input_of said n
    unfolding input_of
    by_number = rw (e, r) refl

    pub interrupted : true ≡ option_eq int_eq number (Some (pos 4)) → Interrupted ≡ input_of said n
    interrupted q = rw (← by_number, by_test error number, ← q) refl

    pub failed : false ≡ option_eq int_eq number (Some (pos 4)) → Failed error ≡ input_of said n
    failed q = rw (← by_number, by_test error number, ← q) refl

-- ---- a turn: what is handed on is what the read left
module _ (input : Input) (k : ℕ) (part p : List ℕ) (e : k ≡ amount input) (q : p ≡ take k part) where
  given : p ≡ bytes_read input part
  unfolding bytes_read
  given = rw (← e) q

  pub held_given : (s t : State) → t ≡ run_to s p → t ≡ run_to s (bytes_read input part)
  held_given s t h = rw (← given) h

  pub fed_given : (c d : Carry) → d ≡ fed c p → d ≡ fed c (bytes_read input part)
  fed_given c d h = rw (← given) h

  pub printed_given : (s : State) (o o' : List ℕ) → o' ≡ onto (run_out s p) o → o' ≡ onto (run_out s (bytes_read input part)) o
  printed_given s o o' h = rw (← given) h

-- ---- the run
module _ (t : Took) (phase : Phase) (r : Bool) (e : r ≡ goes_on t phase) where
  pub ends : not r ≡ true → goes_on t phase ≡ false
  ends h = sym e ∙ not-true r h

  pub goes : not r ≡ false → is_over phase ≡ false
  unfolding goes_on
  goes h = go (is_ok t.wrote) (is_over phase) (sym e ∙ not-false r h)
    where
      go : (w o : Bool) → pick w (pick o false (may_read t.input)) false ≡ true → o ≡ false
      go w false q = refl
      go true true q = sym q
      go false true q = sym q

pub came_none : (line : List ℕ) → Came (record { line = line; len = 0; phase = Start })
unfolding Came parts_to
came_none line = ([], refl)

pub came_more : (c c' : Carry) (part : List ℕ) → Came c → state_of c' ≡ run_to (state_of c) part → Came c'
unfolding Came
came_more c c' part came e =
    (came.0 ++ (part ∷ []), e ∙ ap (λ (s : State). run_to s part) came.1 ∙ sym (part_after_lem (state [] Start) came.0 part))
