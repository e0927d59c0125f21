-- "The last syllable is what follows the last white space or . , ! ? ; : cell", with no scan: it has no separator in it, it
-- starts the composition or follows one, and nothing else does.
use Prim.Native.Nat.{ℕ, zero, suc, ◌<◌}
use mathlib.Core.Path.{◌≡◌, refl, sym, ap, ◌∙◌}
use mathlib.Core.Bool.{Bool, true, false}
use mathlib.Core.List.{List, [], ◌∷◌, ◌++◌}
use mathlib.Core.Logic.{◌⊎◌, inl, inr}
use native.Mathlib.Omega.{arith}
use lib.ListN.{length, get_or}
use Rattle.p0_choice.specs.Choice.{pick}
use Rattle.p3_cells.specs.Cells.{blank}
use Rattle.p3_cells.specs.declared.Cell.{Cell}
use Rattle.p3_tone.specs.TonePlace.{separates, any_separates, last_syllable}
use Rattle.p3_tone.proofs.Syllable.{neither, either, whole}

-- cells that end in a separator
pub record EndInSeparator (before : List Cell) : Type 0 where
  pub earlier : List Cell
  pub last : Cell
  pub ends : before ≡ earlier ++ (last ∷ [])
  pub separator : separates last ≡ true

-- s is what follows the last separator of cs
pub record FollowsLast (cs s : List Cell) : Type 0 where
  pub before : List Cell
  pub cut : cs ≡ before ++ s
  pub none : (i : ℕ) → i < length s → separates (get_or s i blank) ≡ false
  pub start : (before ≡ []) ⊎ EndInSeparator before

-- ---- no separator, cell by cell
none_at : (s : List Cell) → any_separates s ≡ false → (i : ℕ) → i < length s → separates (get_or s i blank) ≡ false
unfolding any_separates
none_at [] e i h = absurd (omega arith)
none_at (x ∷ xs) e zero h = (neither (separates x) (any_separates xs) e).0
none_at (x ∷ xs) e (suc i) h = none_at xs (neither (separates x) (any_separates xs) e).1 i (omega arith)

at_none : (s : List Cell) → ((i : ℕ) → i < length s → separates (get_or s i blank) ≡ false) → any_separates s ≡ false
unfolding any_separates
at_none [] f = refl
at_none (x ∷ xs) f = rw (f 0 (omega arith)) (at_none xs (λ i h. f (suc i) (omega arith)))

-- ---- the last syllable does
more : (x : Cell) (xs s : List Cell) → any_separates xs ≡ true → FollowsLast xs s → FollowsLast (x ∷ xs) s
more x xs s a f = go f.start
  where
    go : (f.before ≡ []) ⊎ EndInSeparator f.before → FollowsLast (x ∷ xs) s
    go (inl e) =
        let w : xs ≡ s = f.cut ∙ ap (λ (b : List Cell). b ++ s) e in
        let n : any_separates xs ≡ false = rw w (at_none s f.none) in
        let z : ◌≡◌ {A = ℕ} 0 1 = cc in
        absurd (omega arith)
    go (inr e) =
        record {
          before = x ∷ f.before;
          cut = ap (λ (b : List Cell). x ∷ b) f.cut;
          none = f.none;
          start =
              inr (record {
                earlier = x ∷ e.earlier;
                last = e.last;
                ends = ap (λ (b : List Cell). x ∷ b) e.ends;
                separator = e.separator;
              });
        }

pub last_follows : (cs : List Cell) → FollowsLast cs (last_syllable cs)
unfolding last_syllable any_separates
last_follows [] = record { before = []; cut = refl; none = λ i h. absurd (omega arith); start = inl refl }
last_follows (x ∷ xs) = go (any_separates xs) refl (separates x) refl (last_follows xs)
  where
    go : (a : Bool) → any_separates xs ≡ a → (b : Bool) → separates x ≡ b → FollowsLast xs (last_syllable xs)
        → FollowsLast (x ∷ xs) (pick a (last_syllable xs) (pick b xs (x ∷ xs)))
    go true p b q f = more x xs (last_syllable xs) p f
    go false p true q f =
        record {
          before = x ∷ [];
          cut = refl;
          none = none_at xs p;
          start = inr (record { earlier = []; last = x; ends = refl; separator = q });
        }
    go false p false q f = record { before = []; cut = refl; none = none_at (x ∷ xs) (rw q p); start = inl refl }

-- ---- and nothing else
any_in : (b s : List Cell) (x : Cell) → separates x ≡ true → any_separates ((b ++ (x ∷ [])) ++ s) ≡ true
unfolding any_separates
any_in [] s x e = rw e refl
any_in (y ∷ b) s x e = either (separates y) (any_separates ((b ++ (x ∷ [])) ++ s)) (any_in b s x e)

after : (b s : List Cell) (x : Cell) → separates x ≡ true → any_separates s ≡ false → last_syllable ((b ++ (x ∷ [])) ++ s) ≡ s
unfolding last_syllable
after [] s x e n = rw (n, e) refl
after (y ∷ b) s x e n = rw (any_in b s x e) (after b s x e n)

pub last_only : (cs s : List Cell) → FollowsLast cs s → s ≡ last_syllable cs
last_only cs s f = go f.start
  where
    go : (f.before ≡ []) ⊎ EndInSeparator f.before → s ≡ last_syllable cs
    go (inl e) =
        let w : cs ≡ s = f.cut ∙ ap (λ (b : List Cell). b ++ s) e in
        rw w (sym (whole s (at_none s f.none)))
    go (inr e) =
        let w : cs ≡ (e.earlier ++ (e.last ∷ [])) ++ s = f.cut ∙ ap (λ (b : List Cell). b ++ s) e.ends in
        rw w (sym (after e.earlier s e.last e.separator (at_none s f.none)))
