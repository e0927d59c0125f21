-- Writing bytes: the kept letters one by one, and the whole state.
use Prim.Native.Nat.{ℕ, suc, ◌+◌, ◌*◌, ◌/◌, ◌%◌, ◌<◌, ◌≤◌}
use mathlib.Core.Path.{◌≡◌, refl, sym, ap, ◌∙◌}
use mathlib.Core.List.{List, [], ◌∷◌, ◌++◌, append_assoc, append-nil}
use native.Mathlib.Omega.{arith}
use lib.ListN.{length, get_or, take, drop, set, length-append, length-drop, take-append-drop, drop_of_length-le}
use lib.Seq.{length-take-le, take_all, take-suc, take_at, drop-append-add, drop-drop, sets-eq}
use Rattle.p4_note_parts.specs.declared.Line.{Line}
use Rattle.p4_spelling.specs.Verdict.{longest_length}
use Rattle.p6_note_bytes.specs.Bytes.{kept_start, line_size, two_bytes, kept_bytes, line_head, line_bytes}

-- ---- the kept letters
-- those of one letter more stand at the end
kept_snoc : (xs : List ℕ) (x : ℕ) → kept_bytes (xs ++ (x ∷ [])) ≡ kept_bytes xs ++ two_bytes x
kept_snoc [] x = refl
kept_snoc (y ∷ ys) x = ap (λ (l : List ℕ). two_bytes y ++ l) (kept_snoc ys x)

pub kept_bytes_lem : (xs : List ℕ) → length (kept_bytes xs) ≡ 2 * length xs
kept_bytes_lem [] = refl
kept_bytes_lem (x ∷ xs) = omega (arith, kept_bytes_lem xs)

-- two bytes right after p, in place of those that stood there
two_put : (p d : List ℕ) (n x : ℕ) → length p ≡ n → 2 ≤ length d
    → set (set (p ++ d) n (x % 256)) (n + 1) (x / 256 % 256) ≡ (p ++ two_bytes x) ++ drop 2 d
two_put p d n x e h =
    let s : n + 1 ≡ suc n = omega arith in
    rw s (sets-eq (two_bytes x) (p ++ d) n (omega (arith, length-append p d))
    ∙ rw (take_at p d n e, ← e, drop-append-add p d 2) refl)

-- the head of b₀, and the first i letters
abbrev pub passed : List ℕ → List ℕ → ℕ → List ℕ
passed b₀ kept i = take kept_start b₀ ++ kept_bytes (take i kept)

-- the loop: the first i letters are written, and what follows them stands as it was
pub put_none : (b₀ kept : List ℕ) → b₀ ≡ passed b₀ kept 0 ++ drop (kept_start + 2 * 0) b₀
put_none b₀ kept = rw (append-nil (take kept_start b₀)) (sym (take-append-drop kept_start b₀))

module _ (b₀ kept b : List ℕ) (i : ℕ) (l : length b₀ ≡ line_size) (k : length kept ≡ longest_length)
    (e : b ≡ passed b₀ kept i ++ drop (kept_start + 2 * i) b₀) where
  passed_length : i < longest_length → length (passed b₀ kept i) ≡ kept_start + 2 * i
  passed_length h =
      omega (
        arith,
        length-append (take kept_start b₀) (kept_bytes (take i kept)),
        length-take-le kept_start b₀ (omega arith),
        kept_bytes_lem (take i kept),
        length-take-le i kept (omega arith),
      )

  passed_more : i < longest_length → passed b₀ kept (i + 1) ≡ passed b₀ kept i ++ two_bytes (get_or kept i 0)
  passed_more h =
      let s : i + 1 ≡ suc i = omega arith in
      rw (s, take-suc kept i 0 (omega arith), kept_snoc (take i kept) (get_or kept i 0))
      (sym (append_assoc (take kept_start b₀) (kept_bytes (take i kept)) (two_bytes (get_or kept i 0))))

  pub put_on : i < longest_length
      → set (set b (kept_start + 2 * i) (get_or kept i 0 % 256)) (kept_start + 2 * i + 1) (get_or kept i 0 / 256 % 256)
      ≡ passed b₀ kept (i + 1) ++ drop (kept_start + 2 * (i + 1)) b₀
  put_on h =
      let at = kept_start + 2 * i in
      let a : at + 2 ≡ kept_start + 2 * (i + 1) = omega arith in
      rw (e, passed_more h, ← a, ← drop-drop 2 at b₀)
      (two_put (passed b₀ kept i) (drop at b₀) at (get_or kept i 0) (passed_length h) (omega (arith, length-drop at b₀)))

  pub put_done : i ≤ longest_length → longest_length ≤ i → b ≡ take kept_start b₀ ++ kept_bytes kept
  put_done m h =
      let r : length b₀ ≤ kept_start + 2 * i = omega arith in
      e ∙ rw (take_all i kept (omega arith), drop_of_length-le b₀ r) (append-nil (take kept_start b₀ ++ kept_bytes kept))

-- ---- the whole state: its head, then its letters
pub line_put : (b b1 new : List ℕ) (s : Line) → b1 ≡ line_head s ++ drop kept_start b → new ≡ take kept_start b1 ++ kept_bytes s.letters
    → new ≡ line_bytes s
unfolding line_bytes line_head
line_put b b1 new s e f = f ∙ rw e refl
