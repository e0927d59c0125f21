-- Bytes put into others: parts one after the other are one part.
use Prim.Native.Nat.{ℕ, ◌+◌, ◌≤◌}
use mathlib.Core.Path.{◌≡◌, refl, sym, ap, ◌∙◌}
use mathlib.Core.List.{List, [], ◌++◌, append_assoc}
use native.Mathlib.Omega.{arith}
use lib.ListN.{length, take, drop, length-append, take-append-drop}
use lib.Seq.{length-take-le, take_at, drop_at, drop-drop}
use Rattle.p0_refusals.specs.Answers.{onto}
use Rattle.p6_draft.specs.Mirror.{put_at}

pub put_none : (o : List ℕ) (s : ℕ) → o ≡ put_at s [] o
unfolding put_at
put_none o s = let z : s + 0 ≡ s = omega arith in rw z (sym (take-append-drop s o))

-- xs after p
module _ (o b new p xs : List ℕ) (s at : ℕ) (e : b ≡ put_at s p o) (d : at ≡ s + length p) (f : new ≡ put_at at xs b)
    (h : at + length xs ≤ length o) where
  front_length : length (take s o ++ p) ≡ at
  front_length = omega (arith, length-append (take s o) p, length-take-le s o (omega arith))

  parted : b ≡ (take s o ++ p) ++ drop at o
  unfolding put_at
  parted =
      e ∙ sym (append_assoc (take s o) p (drop (s + length p) o)) ∙ ap (λ (k : ℕ). (take s o ++ p) ++ drop k o) (sym d)

  pub put_more : new ≡ put_at s (p ++ xs) o
  unfolding put_at
  put_more =
      let t : take at b ≡ take s o ++ p = ap (take at) parted ∙ take_at (take s o ++ p) (drop at o) at front_length in
      let r : drop (at + length xs) b ≡ drop (at + length xs) o =
      sym (drop-drop (length xs) at b) ∙ ap (λ (l : List ℕ). drop (length xs) l) (ap (drop at) parted
      ∙ drop_at (take s o ++ p) (drop at o) at front_length) ∙ drop-drop (length xs) at o in
      let n : s + length (p ++ xs) ≡ at + length xs = omega (arith, length-append p xs) in
      f ∙ rw (t, r, n) (append_assoc (take s o) p (xs ++ drop (at + length xs) o)
      ∙ ap (λ (l : List ℕ). take s o ++ l) (sym (append_assoc p xs (drop (at + length xs) o))))

pub put_onto : (o xs : List ℕ) → put_at 0 xs o ≡ onto xs o
unfolding put_at
put_onto o xs = let z : 0 + length xs ≡ length xs = omega arith in rw z refl
