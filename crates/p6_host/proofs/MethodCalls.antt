-- The input method's calls: each way through them.
use Rattle.std.specs.Prelude.{Err, Ok, Result, None, Some}
use Rattle.std.specs.Option.{unwrap_or}
use Rattle.p2_input_method.specs.Mirror.{mark_found}
use Prim.Native.Nat.{ℕ, ◌≤◌, ◌<◌}
use mathlib.Core.Path.{◌≡◌, refl, sym, ap, ◌∙◌}
use mathlib.Core.Bool.{Bool, true, false}
use native.Mathlib.Omega.{arith}
use lib.Dec.{eqb}
use borrow.Author.Tests.{le-leb, lt-leb, eqb-true, eqb-false}
use Rattle.p0_choice.specs.Choice.{pick}
use Rattle.p0_refusals.specs.Refusals.{number_of}
use Rattle.p0_refusals.specs.declared.Refusal.{Refusal}
use Rattle.p0_refusals.specs.declared.Refusal.TheVariants.{Foreign, Unsound}
use Rattle.p1_letters.specs.Alphabet.{in_alphabet}
use Rattle.p2_input_method.specs.Mirror.{method_numbered}
use Rattle.p2_input_method.specs.Rules.{mark_for}
use Rattle.p2_input_method.specs.declared.InputMethod.{InputMethod}
use Rattle.p2_input_method.specs.declared.InputMethod.TheVariants.{Telex, Vni}
use Rattle.p6_bytes.specs.Bytes.{method_of}
use Rattle.p6_host.specs.LetterCalls.{letter_code, letter_out, tone_code, tone_out, flag_of}
use Rattle.p6_host.specs.MethodCalls.{key_code, key_out, mark_code, mark_out}

-- ---- what a number's method says of the number
refusal_in : Result InputMethod Refusal → Refusal
refusal_in (Ok w) = Foreign
refusal_in (Err r) = r

method_in : Result InputMethod Refusal → InputMethod
method_in (Ok w) = w
method_in (Err r) = Telex

apart : {w : InputMethod} {r : Refusal} → ◌≡◌ {A = Result InputMethod Refusal} (Ok w) (Err r) → ⊥
apart h = let z : ◌≡◌ {A = ℕ} 0 1 = ap side h in omega arith
  where
    side : Result InputMethod Refusal → ℕ
    side (Ok w) = 0
    side (Err r) = 1

module _ (m : ℕ) (g : Result InputMethod Refusal) (q : g ≡ method_numbered m) where
  module _ (r : Refusal) (e : g ≡ Err r) where
    none : (1 < m) × (Unsound ≡ r)
    unfolding method_numbered refusal_in method_in
    none = go (eqb m 0) refl (eqb m 1) refl (sym q ∙ e)
      where
        go : (a : Bool) → eqb m 0 ≡ a → (b : Bool) → eqb m 1 ≡ b
            → pick {A = Result InputMethod Refusal} a (Ok Telex) (pick b (Ok Vni) (Err Unsound)) ≡ Err r → (1 < m) × (Unsound ≡ r)
        go true i b j h = absurd (apart h)
        go false i true j h = absurd (apart h)
        go false i false j h = let x = eqb-false m 0 i in let y = eqb-false m 1 j in (omega arith, ap refusal_in h)

    pub no_key_code : (key n : ℕ) → n ≡ number_of r → n ≡ key_code m key
    unfolding key_code
    no_key_code key n h = rw (lt-leb m 1 none.0) (h ∙ ap number_of (sym none.1))

    pub no_key_out : (key answer old : ℕ) → old ≡ key_out m key answer old
    unfolding key_out
    no_key_out key answer old = rw (lt-leb m 1 none.0) refl

    pub no_mark_code : (base key n : ℕ) → n ≡ number_of r → n ≡ mark_code m base key
    unfolding mark_code
    no_mark_code base key n h = rw (lt-leb m 1 none.0) (h ∙ ap number_of (sym none.1))

    pub no_mark_out : (base key answer old : ℕ) → old ≡ mark_out m base key answer old
    unfolding mark_out
    no_mark_out base key answer old = rw (lt-leb m 1 none.0) refl

  -- ---- a method
  module _ (w : InputMethod) (e : g ≡ Ok w) where
    some : (m ≤ 1) × (w ≡ method_of m)
    unfolding method_numbered method_of refusal_in method_in
    some = go (eqb m 0) refl (eqb m 1) refl (sym q ∙ e)
      where
        go : (a : Bool) → eqb m 0 ≡ a → (b : Bool) → eqb m 1 ≡ b
            → pick {A = Result InputMethod Refusal} a (Ok Telex) (pick b (Ok Vni) (Err Unsound)) ≡ Ok w → (m ≤ 1) × (w ≡ pick a Telex Vni)
        go true i b j h = let x = eqb-true m 0 i in (omega arith, sym (ap method_in h))
        go false i true j h = let y = eqb-true m 1 j in (omega arith, sym (ap method_in h))
        go false i false j h = absurd (apart (sym h))

    pub key_code_lem : (key n : ℕ) → n ≡ letter_code key → n ≡ key_code m key
    unfolding key_code
    key_code_lem key n h = rw (le-leb m 1 some.0) h

    module _ (key a n old : ℕ) (s : Bool) (p : a ≡ flag_of s) (i : n ≡ letter_out key a old) where
      pub asked_key_out : (h : InputMethod → Bool) → s ≡ h w → n ≡ key_out m key (flag_of (h (method_of m))) old
      unfolding key_out
      asked_key_out h f = rw (le-leb m 1 some.0, ← some.1, ← f, ← p) i

    module _ (base : ℕ) (s : Bool) (i : s ≡ in_alphabet base) where
      pub mark_foreign : (key n : ℕ) → s ≡ false → n ≡ number_of Foreign → n ≡ mark_code m base key
      unfolding mark_code tone_code
      mark_foreign key n f h = rw (le-leb m 1 some.0, ← i, f) h

      pub mark_foreign_out : (key answer old : ℕ) → s ≡ false → old ≡ mark_out m base key answer old
      unfolding mark_out tone_out
      mark_foreign_out key answer old f = rw (le-leb m 1 some.0, ← i, f) refl

      pub mark_code_lem : (key n : ℕ) → s ≡ true → n ≡ letter_code key → n ≡ mark_code m base key
      unfolding mark_code tone_code
      mark_code_lem key n t h = rw (le-leb m 1 some.0, ← i, t) h

      pub mark_out_lem : (key a n old : ℕ) → s ≡ true → a ≡ mark_for w base key → n ≡ letter_out key a old
          → n ≡ mark_out m base key (mark_for (method_of m) base key) old
      unfolding mark_out tone_out
      mark_out_lem key a n old t f h = rw (le-leb m 1 some.0, ← i, t, ← some.1, ← f) h

-- no mark is told as 0
pub mark_number : (w : InputMethod) (base key : ℕ) → unwrap_or (mark_found w base key) 0 ≡ mark_for w base key
unfolding mark_found
mark_number w base key = go (eqb (mark_for w base key) 0) refl
  where
    go : (t : Bool) → eqb (mark_for w base key) 0 ≡ t → unwrap_or (pick t None (Some (mark_for w base key))) 0 ≡ mark_for w base key
    go true e = sym (eqb-true (mark_for w base key) 0 e)
    go false e = refl
