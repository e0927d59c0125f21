-- What is written after what was written.
use Prim.Native.Nat.{ℕ, ◌+◌, ◌≤◌}
use mathlib.Core.Path.{◌≡◌, sym, ◌∙◌}
use mathlib.Core.List.{List, ◌++◌, append_assoc}
use native.Mathlib.Omega.{arith}
use lib.ListN.{length, take, drop, length-append}
use lib.Seq.{take_at, drop_at, drop-drop, length-take-le}

-- what is written after what was written
pub put_after : (o o1 o2 p q : List ℕ) (at n r : ℕ) → n ≡ at + length p → r ≡ n + length q → n ≤ length o
    → o1 ≡ take at o ++ (p ++ drop n o)
    → o2 ≡ take n o1 ++ (q ++ drop r o1) → o2 ≡ take at o ++ ((p ++ q) ++ drop r o)
put_after o o1 o2 p q at n r en er h e f =
    let a : length (take at o) ≡ at = length-take-le at o (omega arith) in
    let l : length (take at o ++ p) ≡ n = omega (arith, length-append (take at o) p) in
    let w : o1 ≡ (take at o ++ p) ++ drop n o = e ∙ sym (append_assoc (take at o) p (drop n o)) in
    let k : take n o1 ≡ take at o ++ p = rw w (take_at (take at o ++ p) (drop n o) n l) in
    let d : drop r o1 ≡ drop r o =
    rw er (sym (drop-drop (length q) n o1) ∙ rw (w, drop_at (take at o ++ p) (drop n o) n l) (drop-drop (length q) n o)) in
    f ∙ rw (d, k) (simp append_assoc)
