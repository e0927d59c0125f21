-- The raw string, as the code goes through it: lowered letter by letter, from the end for the last pattern, and on from
-- there for a vowel.
use Rattle.std.specs.Prelude.{None, Some}
use Rattle.std.specs.List.{list_any, drop-map}
use Rattle.std.proofs.Common.{◌||◌}
use Prim.Native.Nat.{ℕ, zero, suc, ◌+◌, ◌-◌, ◌≤◌}
use mathlib.Core.Path.{◌≡◌, refl, sym, ◌∙◌}
use mathlib.Core.Bool.{Bool, true, false, not}
use mathlib.Core.List.{List, [], ◌∷◌}
use native.Mathlib.Omega.{arith}
use lib.Dec.{eqb}
use lib.ListN.{length, get_or, drop, length-map, get_or-map}
use borrow.Author.Tests.{ne_eqb}
use Rattle.p0_choice.specs.Choice.{pick, among}
use Rattle.p0_choice.specs.Text.{word}
use Rattle.p1_letters.specs.Alphabet.{is_ascii_capital, ascii_lower}
use Rattle.p3_undo.specs.Mirror.{end_found}
use Rattle.p3_undo.specs.Raw.{raw_lowered, ends_in, pair_at, last_end, any_plain, active}

pub length_lowered : (raw : List ℕ) → length (raw_lowered raw) ≡ length raw
unfolding raw_lowered
length_lowered raw = length-map raw ascii_lower

low_at : (raw : List ℕ) (i : ℕ) → get_or (raw_lowered raw) i 0 ≡ ascii_lower (get_or raw i 0)
unfolding raw_lowered ascii_lower is_ascii_capital
low_at raw i = get_or-map ascii_lower raw i 0

-- ---- its end
pub lowered_ends : (raw : List ℕ) (t : ℕ)
    → ends_in (raw_lowered raw) t ≡ pick (eqb (length raw) 0) false (eqb (ascii_lower (get_or raw (length raw - 1) 0)) t)
unfolding ends_in
lowered_ends raw t = rw (length_lowered raw, low_at raw (length raw - 1)) refl

-- ---- the last pattern
pub end_first : (raw : List ℕ) (a t : ℕ) → end_found (raw_lowered raw) a t
    ≡ pick (eqb (last_end (raw_lowered raw) a t (length raw)) 0) None (Some (last_end (raw_lowered raw) a t (length raw)))
unfolding end_found
end_first raw a t = rw (length_lowered raw) refl

pub end_none : (raw : List ℕ) (a t i : ℕ) → i ≤ 1 → last_end raw a t i ≡ 0
unfolding last_end
end_none raw a t zero l = refl
end_none raw a t (suc zero) l = refl
end_none raw a t (suc (suc i)) l = absurd (omega arith)

-- the letters before place i and at it are looked at
pub pair_turn : (raw : List ℕ) (a t i : ℕ) → 1 ≤ i → pair_at (raw_lowered raw) a t (i - 1)
    ≡ pick (eqb (ascii_lower (get_or raw (i - 1) 0)) a) (eqb (ascii_lower (get_or raw i 0)) t) false
unfolding pair_at
pair_turn raw a t zero h = absurd (omega arith)
pair_turn raw a t (suc i) h = let x : suc i - 1 ≡ i = omega arith in rw (x, low_at raw i, low_at raw (suc i)) refl

pub end_turn : (raw : List ℕ) (a t i : ℕ) → 1 ≤ i → last_end raw a t (i + 1) ≡ pick (pair_at raw a t (i - 1)) (i + 1) (last_end raw a t i)
unfolding last_end
end_turn raw a t zero h = absurd (omega arith)
end_turn raw a t (suc i) h =
    let x : suc i - 1 ≡ i = omega arith in let z : suc i + 1 ≡ suc (suc i) = omega arith in rw (x, z) refl

end_within_lem : (raw : List ℕ) (a t n : ℕ) → last_end raw a t n ≤ n
unfolding last_end
end_within_lem raw a t zero = omega arith
end_within_lem raw a t (suc zero) = omega arith
end_within_lem raw a t (suc (suc i)) = go (pair_at raw a t i) (end_within_lem raw a t (suc i))
  where
    go : (b : Bool) → last_end raw a t (suc i) ≤ suc i → pick b (suc (suc i)) (last_end raw a t (suc i)) ≤ suc (suc i)
    go true h = omega arith
    go false h = omega arith

-- ---- a vowel after it
pub plain_any : (raw : List ℕ) → list_any (λ x. among (ascii_lower x) (word "aeiouy")) raw ≡ any_plain (raw_lowered raw)
unfolding any_plain raw_lowered
plain_any [] = refl
plain_any (x ∷ xs) = rw (← plain_any xs) (go (among (ascii_lower x) (word "aeiouy")))
  where
    go : (b : Bool) → (b || list_any (λ x. among (ascii_lower x) (word "aeiouy")) xs) ≡ pick b true (list_any (λ x. among (ascii_lower x) (word "aeiouy")) xs)
    go true = refl
    go false = refl

lowered_rest : (raw : List ℕ) (e : ℕ) → drop e (raw_lowered raw) ≡ raw_lowered (drop e raw)
unfolding raw_lowered
lowered_rest raw e = drop-map ascii_lower e raw

module _ (raw : List ℕ) (a t : ℕ) where
  not_zero : (n : ℕ) → eqb (suc n) 0 ≡ false
  not_zero n = ne_eqb (suc n) 0 (λ z. omega arith)

  ends_nowhere : last_end (raw_lowered raw) a t (length raw) ≡ 0 → end_found (raw_lowered raw) a t ≡ None
  ends_nowhere e = end_first raw a t ∙ rw e refl

  ends_at : (n : ℕ) → last_end (raw_lowered raw) a t (length raw) ≡ suc n → end_found (raw_lowered raw) a t ≡ Some (suc n)
  ends_at n e = end_first raw a t ∙ rw (e, not_zero n) refl

  pub end_within : (e : ℕ) → end_found (raw_lowered raw) a t ≡ Some e → e ≤ length raw
  end_within e q = go (last_end (raw_lowered raw) a t (length raw)) refl (end_within_lem (raw_lowered raw) a t (length raw))
    where
      go : (n : ℕ) → last_end (raw_lowered raw) a t (length raw) ≡ n → n ≤ length raw → e ≤ length raw
      go zero f h = let z = sym (ends_nowhere f) ∙ q in let d : ◌≡◌ {A = ℕ} 0 1 = cc in absurd (omega arith)
      go (suc n) f h = let z = sym (ends_at n f) ∙ q in let d : suc n ≡ e = cc in omega arith

  active_by : (n : ℕ) → last_end (raw_lowered raw) a t (length raw) ≡ n
      → active (raw_lowered raw) a t ≡ pick (eqb n 0) false (not (any_plain (raw_lowered (drop n raw))))
  unfolding active
  active_by n e = rw (length_lowered raw, e, lowered_rest raw n) refl

  pub active_none : end_found (raw_lowered raw) a t ≡ None → active (raw_lowered raw) a t ≡ false
  active_none q = go (last_end (raw_lowered raw) a t (length raw)) refl
    where
      go : (n : ℕ) → last_end (raw_lowered raw) a t (length raw) ≡ n → active (raw_lowered raw) a t ≡ false
      go zero f = active_by zero f
      go (suc n) f = let z = sym q ∙ ends_at n f in let d : ◌≡◌ {A = ℕ} 0 1 = cc in absurd (omega arith)

  pub active_some : (e : ℕ) → end_found (raw_lowered raw) a t ≡ Some e
      → active (raw_lowered raw) a t ≡ not (any_plain (raw_lowered (drop e raw)))
  active_some e q = go (last_end (raw_lowered raw) a t (length raw)) refl
    where
      go : (n : ℕ) → last_end (raw_lowered raw) a t (length raw) ≡ n → active (raw_lowered raw) a t ≡ not (any_plain (raw_lowered (drop e raw)))
      go zero f = let z = sym (ends_nowhere f) ∙ q in let d : ◌≡◌ {A = ℕ} 0 1 = cc in absurd (omega arith)
      go (suc n) f = let z = sym (ends_at n f) ∙ q in let d : suc n ≡ e = cc in rw (← d) (active_by (suc n) f ∙ rw (not_zero n) refl)
