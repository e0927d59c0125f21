-- However the input is cut: any number of parts, of any lengths, one after another, hold, print and end as the whole does.
use Prim.Native.Nat.{ℕ}
use mathlib.Core.Path.{◌≡◌, refl, sym, ap, ◌∙◌}
use mathlib.Core.List.{List, [], ◌∷◌, ◌++◌, flatten}
use Rattle.p7_feed.specs.Mirror.{State, state, run_to, run_out, parts_to, parts_out, finish_out}
use Rattle.p7_feed.specs.declared.Phase.TheVariants.{Start}
use Rattle.p7_feed.specs.Program.{wordline}
use Rattle.p7_feed.proofs.Bytes.{cut_to, cut_out}
use Rattle.p7_feed.proofs.Program.{run_is_wordline}

pub parts_to_lem : (s : State) (parts : List (List ℕ)) → parts_to s parts ≡ run_to s (flatten parts)
unfolding parts_to run_to flatten
parts_to_lem s [] = refl
parts_to_lem s (part ∷ parts) = parts_to_lem (run_to s part) parts ∙ sym (cut_to s part (flatten parts))

pub parts_out_lem : (s : State) (parts : List (List ℕ)) → parts_out s parts ≡ run_out s (flatten parts)
unfolding parts_out run_out flatten
parts_out_lem s [] = refl
parts_out_lem s (part ∷ parts) =
    ap (λ (x : List ℕ). run_out s part ++ x) (parts_out_lem (run_to s part) parts) ∙ sym (cut_out s part (flatten parts))

-- one part more, after those before
pub part_after_lem : (s : State) (parts : List (List ℕ)) (part : List ℕ) → parts_to s (parts ++ (part ∷ [])) ≡ run_to (parts_to s parts) part
unfolding parts_to
part_after_lem s [] part = refl
part_after_lem s (first ∷ parts) part = part_after_lem (run_to s first) parts part

-- the headline: what the parts print, and the end after the last, is the program's of the joined input
pub parts_are_wordline : (parts : List (List ℕ))
    → parts_out (state [] Start) parts ++ finish_out (parts_to (state [] Start) parts) ≡ wordline (flatten parts)
parts_are_wordline parts = rw (parts_to_lem (state [] Start) parts, parts_out_lem (state [] Start) parts) (run_is_wordline (flatten parts))
