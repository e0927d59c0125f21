-- A word found in a list of words is one of them: what holds of each of the list holds of it.
use Prim.Native.Nat.{ℕ}
use mathlib.Core.Path.{◌≡◌, refl, sym, ap₂, subst}
use mathlib.Core.Logic.{◌⊎◌, inl, inr, ⊎_elim}
use mathlib.Core.Bool.{Bool, true, false}
use mathlib.Core.List.{List, [], ◌∷◌, ◌++◌}
use lib.Dec.{T, eqb, eqb→eq}
use Rattle.p0_choice.specs.Choice.{pick, each}
use Rattle.p4_rows.specs.Rows.{Word}
use Rattle.p4_rows.specs.Lookup.{same_word, in_list}

-- a choice that passes, taken apart and made
pub either_of : (a b : Bool) → T (pick a true b) → T a ⊎ T b
either_of true b t = inl tt
either_of false b t = inr t

pub both_of : (a b : Bool) → T (pick a b false) → T a × T b
both_of true b t = (tt, t)
both_of false b t = absurd t

pub either_first : (a b : Bool) → T a → T (pick a true b)
either_first true b t = tt
either_first false b t = absurd t

pub either_second : (a b : Bool) → T b → T (pick a true b)
either_second true b t = tt
either_second false b t = t

pub same_word_lem : (u w : Word) → T (same_word u w) → u ≡ w
unfolding same_word
same_word_lem [] [] t = refl
same_word_lem [] (y ∷ w) t = absurd t
same_word_lem (x ∷ u) [] t = absurd t
same_word_lem (x ∷ u) (y ∷ w) t =
    let p : T (eqb x y) × T (same_word u w) = both_of (eqb x y) (same_word u w) t in
    ap₂ (λ (a : ℕ) (b : Word). a ∷ b) (eqb→eq x y p.0) (same_word_lem u w p.1)

pub in_left : (w : Word) (us vs : List Word) → T (in_list w us) → T (in_list w (us ++ vs))
unfolding in_list
in_left w [] vs t = absurd t
in_left w (u ∷ us) vs t =
    ⊎_elim (λ e. either_first (same_word w u) (in_list w (us ++ vs)) e)
    (λ e. either_second (same_word w u) (in_list w (us ++ vs)) (in_left w us vs e)) (either_of (same_word w u) (in_list w us) t)

pub in_right : (w : Word) (us vs : List Word) → T (in_list w vs) → T (in_list w (us ++ vs))
unfolding in_list
in_right w [] vs t = t
in_right w (u ∷ us) vs t = either_second (same_word w u) (in_list w (us ++ vs)) (in_right w us vs t)

pub each_in : (f : Word → Bool) (ws : List Word) → T (each f ws) → (w : Word) → T (in_list w ws) → T (f w)
unfolding in_list
each_in f [] t w m = absurd m
each_in f (u ∷ us) t w m =
    let p : T (f u) × T (each f us) = both_of (f u) (each f us) t in
    ⊎_elim (λ e. subst (λ (v : Word). T (f v)) (sym (same_word_lem w u e)) p.0) (λ e. each_in f us p.1 w e)
    (either_of (same_word w u) (in_list w us) m)
