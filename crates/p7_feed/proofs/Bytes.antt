-- The input may come in parts: cut anywhere, it prints the same and leaves the same.
use Prim.Native.Nat.{ℕ}
use mathlib.Core.Path.{◌≡◌, refl}
use mathlib.Core.List.{List, [], ◌∷◌, ◌++◌, append_assoc}
use Rattle.p7_feed.specs.Mirror.{State, step_to, run_to, run_out}

pub cut_to : (s : State) (a b : List ℕ) → run_to s (a ++ b) ≡ run_to (run_to s a) b
unfolding run_to
cut_to s [] b = refl
cut_to s (x ∷ a) b = cut_to (step_to s x) a b

pub cut_out : (s : State) (a b : List ℕ) → run_out s (a ++ b) ≡ run_out s a ++ run_out (run_to s a) b
unfolding run_to run_out
cut_out s [] b = refl
cut_out s (x ∷ a) b = rw (cut_out (step_to s x) a b) (simp append_assoc)
