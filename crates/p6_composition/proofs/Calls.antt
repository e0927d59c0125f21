-- Each way through a call on bytes.
use Rattle.std.specs.Prelude.{Err, Ok, Result}
use Rattle.p0_refusals.specs.declared.Refusal.{Refusal}
use Prim.Native.Nat.{ℕ, ◌-◌, ◌<◌, ◌≤◌}
use mathlib.Core.Path.{◌≡◌, refl, sym, ap, ◌∙◌}
use mathlib.Core.Bool.{Bool, true, false}
use mathlib.Core.List.{List, [], ◌∷◌, ◌++◌}
use native.Mathlib.Omega.{arith}
use lib.ListN.{length, take, drop, set, length-set, drop_of_length-le}
use borrow.Author.Tests.{eq-eqb, ne_eqb, le-leb, lt-leb}
use Rattle.p0_choice.specs.Choice.{pick}
use Rattle.p0_refusals.specs.Answers.{Outcome}
use Rattle.p0_refusals.specs.declared.Refusal.TheVariants.{Unsound}
use Rattle.p3_calls.specs.Settings.{created}
use Rattle.p3_cells.specs.declared.After.{After}
use Rattle.p6_bytes.specs.Bytes.{size, method_of, bytes_sound}
use Rattle.p6_zeros.specs.Zeros.{zeros}
use Rattle.p6_bytes.proofs.Round.{method_forth}
use Rattle.p6_bytes.proofs.Stored.{begun_bytes}
use Rattle.p6_composition.specs.Calls.{answer_on, bytes_on, out_on, or_unsound, method_on, mode_on, capitals_on, text_on, new_on}
use Rattle.p6_composition.specs.Calls.{new_bytes}

module _ (b : List ℕ) (s : After) (u : bytes_sound b ≡ false) where
  pub unsound_answer : Err Unsound ≡ answer_on b s
  unfolding answer_on
  unsound_answer = rw u refl

  pub unsound_bytes : b ≡ bytes_on b s
  unfolding bytes_on answer_on
  unsound_bytes = rw u refl

-- ---- a lent output
module _ (b out : List ℕ) (w : Outcome) (u : bytes_sound b ≡ false) where
  pub unsound_out : out ≡ out_on b w out
  unfolding out_on
  unsound_out = rw u refl

-- ---- the text
module _ (b : List ℕ) (n : ℕ) (u : bytes_sound b ≡ false) where
  pub unsound_text : Err Unsound ≡ text_on b n
  unfolding text_on
  unsound_text = rw u refl

-- ---- the settings by their numbers
both_refuse : (s : Bool) → ◌≡◌ {A = Result ℕ Refusal} (Err Unsound) (pick s (Err Unsound) (Err Unsound))
both_refuse true = refl
both_refuse false = refl

module _ (b : List ℕ) (n : ℕ) (l : 1 < n) where
  or_refused : (s : After) → Err Unsound ≡ answer_on b (or_unsound b n s)
  unfolding answer_on or_unsound
  or_refused s = rw (lt-leb n 1 l) (both_refuse (bytes_sound b))

  or_kept : (s : After) → b ≡ bytes_on b (or_unsound b n s)
  unfolding bytes_on
  or_kept s = rw (← or_refused s) refl

  pub no_method : Err Unsound ≡ answer_on b (method_on b n)
  unfolding method_on
  no_method = or_refused _

  pub no_method_bytes : b ≡ bytes_on b (method_on b n)
  unfolding method_on
  no_method_bytes = or_kept _

  pub no_mode : Err Unsound ≡ answer_on b (mode_on b n)
  unfolding mode_on
  no_mode = or_refused _

  pub no_mode_bytes : b ≡ bytes_on b (mode_on b n)
  unfolding mode_on
  no_mode_bytes = or_kept _

  pub no_capitals : Err Unsound ≡ answer_on b (capitals_on b n)
  unfolding capitals_on
  no_capitals = or_refused _

  pub no_capitals_bytes : b ≡ bytes_on b (capitals_on b n)
  unfolding capitals_on
  no_capitals_bytes = or_kept _

-- ---- a new composition
one : (s : List ℕ) {a : ℕ} → 1 ≤ length s → take 1 (set s 0 a) ≡ a ∷ []
one (x ∷ r) h = refl
one [] h = absurd (omega arith)

module _ (b : List ℕ) (n : ℕ) where
  pub new_size : (length b ≡ size → ⊥) → Err Unsound ≡ new_on b n
  unfolding new_on
  new_size h = rw (ne_eqb (length b) size h) refl

  pub new_size_bytes : (length b ≡ size → ⊥) → b ≡ new_bytes b n
  unfolding new_bytes
  new_size_bytes h = rw (← new_size h) refl

  module _ (z : length b ≡ size) where
    pub new_method : 1 < n → Err Unsound ≡ new_on b n
    unfolding new_on
    new_method h = rw (eq-eqb (length b) size z, lt-leb n 1 h) refl

    pub new_method_bytes : 1 < n → b ≡ new_bytes b n
    unfolding new_bytes
    new_method_bytes h = rw (← new_method h) refl

    pub new_done : n ≤ 1 → Ok 0 ≡ new_on b n
    unfolding new_on
    new_done h = rw (eq-eqb (length b) size z, le-leb n 1 h) refl

    pub new_room : size ≤ length (set b 0 n)
    new_room = omega (arith, length-set b 0 n)

    pub new_done_bytes : (new : List ℕ) → n ≤ 1 → new ≡ take 1 (set b 0 n) ++ (zeros (size - 1) ++ drop size (set b 0 n))
        → new ≡ new_bytes b n
    unfolding new_bytes created
    new_done_bytes new h g =
        let l : length (set b 0 n) ≤ size = omega (arith, length-set b 0 n) in
        rw (← new_done h) (g ∙ rw (one b (omega arith), drop_of_length-le (set b 0 n) l) (ap (λ (x : ℕ). x ∷ zeros (size - 1))
        (sym (method_forth n h)) ∙ begun_bytes (method_of n)))
