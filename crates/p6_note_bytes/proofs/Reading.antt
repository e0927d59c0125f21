-- Reading bytes: the standing, the kept letters one by one, and the whole state.
use Rattle.std.specs.Prelude.{Err, Ok}
use Rattle.p0_refusals.specs.declared.Refusal.TheVariants.{Foreign, Long}
use Prim.Native.Nat.{ℕ, zero, suc, ◌+◌, ◌*◌, ◌<◌}
use mathlib.Core.Path.{◌≡◌, refl, sym, ap, ◌∙◌}
use mathlib.Core.List.{List, [], ◌∷◌, ◌++◌}
use native.Mathlib.Omega.{arith}
use lib.ListN.{length, take, set}
use lib.Seq.{take-suc-set}
use Rattle.p0_choice.proofs.Arms.{arm}
use Rattle.p0_choice.proofs.Choices.{picks}
use Rattle.p4_note_parts.specs.State.{Standing}
use Rattle.p4_spelling.specs.Verdict.{longest_length}
use Rattle.p6_note_bytes.specs.Bytes.{kept_start, standing_of, two_at, kept_at, line_of}
use Rattle.p6_zeros.specs.Zeros.{byte_at}

-- ---- the standing
pub read_going : (x : ℕ) → x ≡ 0 → Ok tt ≡ standing_of x
unfolding standing_of
read_going x h = search picks

pub read_foreign : (x : ℕ) → x ≡ 1 → Err Foreign ≡ standing_of x
unfolding standing_of
read_foreign x h = arm standing_of (Err Foreign) x 1 h refl

pub read_long : (x : ℕ) → (x ≡ 0 → ⊥) → (x ≡ 1 → ⊥) → Err Long ≡ standing_of x
unfolding standing_of
read_long x h k = search picks

-- ---- the kept letters
pub kept_length : (n : ℕ) (b : List ℕ) (at : ℕ) → length (kept_at n b at) ≡ n
kept_length zero b at = refl
kept_length (suc n) b at = ap suc (kept_length n b (at + 2))

-- one letter more is the next one's, at the end
kept_more : (n : ℕ) (b : List ℕ) (at : ℕ) → kept_at (suc n) b at ≡ kept_at n b at ++ (two_at b (at + 2 * n) ∷ [])
kept_more zero b at = let e : at ≡ at + 2 * 0 = omega arith in ap (λ (k : ℕ). two_at b k ∷ []) e
kept_more (suc n) b at =
    let e : at + 2 + 2 * n ≡ at + 2 * suc n = omega arith in
    ap (λ (l : List ℕ). two_at b at ∷ l)
    (kept_more n b (at + 2) ∙ ap (λ (k : ℕ). kept_at n b (at + 2) ++ (two_at b k ∷ [])) e)

-- the loop: the first i letters are read
module _ (b kept : List ℕ) (i : ℕ) (e : take i kept ≡ kept_at i b kept_start) where
  pub kept_on : (x : ℕ) → i < length kept → x ≡ two_at b (kept_start + 2 * i) → take (i + 1) (set kept i x) ≡ kept_at (i + 1) b kept_start
  kept_on x h p =
      let s : i + 1 ≡ suc i = omega arith in
      rw s (take-suc-set kept i x h ∙ rw (e, p) (sym (kept_more i b kept_start)))

-- ---- the whole state, of what its parts were read as
pub line_read : (b kept : List ℕ) (o : Standing) (m r w n f : ℕ) → kept ≡ kept_at longest_length b kept_start → o ≡ standing_of (byte_at b 0)
    → m ≡ two_at b 2 → r ≡ byte_at b 1 → w ≡ two_at b 4 → n ≡ two_at b 6 → f ≡ two_at b 8
    → record { letters = kept; length = m; run = r; words = w; noes = n; first = f; standing = o } ≡ line_of b
unfolding line_of
line_read b kept o m r w n f p0 p1 p2 p3 p4 p5 p6 = rw (p0, p1, p2, p3, p4, p5, p6) refl
