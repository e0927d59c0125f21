-- The words of a trie that pass a test are a trie too: with it they are numbered, so that antt can count them.
use Prim.Native.Nat.{ℕ}
use mathlib.Core.Path.{◌≡◌, refl, subst, sym}
use mathlib.Core.Logic.{⊎_elim}
use mathlib.Core.Bool.{Bool, true, false, ◌||◌}
use mathlib.Core.List.{List, [], ◌∷◌}
use lib.Dec.{T, eqb}
use mir.Facts.{or_yes}
use borrow.Author.Tests.{eqb-true}
use Rattle.p5_trie.specs.Mirror.{Trie, none, node, trie_size}
use Rattle.p5_trie.specs.Numbering.{Many}
use Rattle.p5_trie.proofs.Tests.{ends_here, in_trie}
use Rattle.p5_trie.proofs.Words.{Above, Sorted}
use Rattle.p5_trie.proofs.Numbering.{Lists, many, or_left, or_right}

-- a word still ends where one did and passes; nothing is tested where none did
abbrev stays : (List ℕ → Bool) → ℕ → Bool → Bool
stays f x ends = elim ends [ true ↦ f (x ∷ []) | false ↦ false ]

unfoldable pub kept_in : (List ℕ → Bool) → Trie → Trie
kept_in f none = none
kept_in f (node x ends down next) = node x (stays f x ends) (kept_in (λ w. f (x ∷ w)) down) (kept_in f next)

kept_above : (f : List ℕ → Bool) (c : ℕ) (t : Trie) → Above c t → Above c (kept_in f t)
unfolding kept_in
kept_above f c none h = h
kept_above f c (node x a d s) h = h

kept_sorted : (f : List ℕ → Bool) (t : Trie) → Sorted t → Sorted (kept_in f t)
unfolding kept_in
kept_sorted f none o = tt
kept_sorted f (node c a d s) o = (kept_above f c s o.0, (kept_sorted (λ w. f (c ∷ w)) d o.1.0, kept_sorted f s o.1.1))

-- what is held of the kept words, and of which
ends_kept : (f : List ℕ → Bool) (c : ℕ) (a : Bool) (w : List ℕ) → T (ends_here w (stays f c a)) → T (ends_here w a) × T (f (c ∷ w))
ends_kept f c true [] t = (tt, t)
ends_kept f c false [] t = absurd t
ends_kept f c a (x ∷ w) t = absurd t

kept_ends : (f : List ℕ → Bool) (c : ℕ) (a : Bool) (w : List ℕ) → T (ends_here w a) → T (f (c ∷ w)) → T (ends_here w (stays f c a))
kept_ends f c true [] t h = h
kept_ends f c false [] t h = absurd t
kept_ends f c a (x ∷ w) t h = absurd t

held_kept : (f : List ℕ → Bool) (t : Trie) (w : List ℕ) → T (in_trie (kept_in f t) w) → T (in_trie t w) × T (f w)
unfolding in_trie kept_in
held_kept f none w t = absurd t
held_kept f (node c a d s) [] t = absurd t
held_kept f (node c a d s) (x ∷ w) t = go (eqb c x) refl t (λ q. held_kept (λ v. f (c ∷ v)) d w q) (λ q. held_kept f s (x ∷ w) q)
  where
    here : T (ends_here w (stays f c a) || in_trie (kept_in (λ v. f (c ∷ v)) d) w)
        → (T (in_trie (kept_in (λ v. f (c ∷ v)) d) w) → T (in_trie d w) × T (f (c ∷ w))) → T (ends_here w a || in_trie d w) × T (f (c ∷ w))
    here q down =
        ⊎_elim (λ p. let r : T (ends_here w a) × T (f (c ∷ w)) = ends_kept f c a w p in (or_left (ends_here w a) (in_trie d w) r.0, r.1))
        (λ p. (or_right (ends_here w a) (in_trie d w) (down p).0, (down p).1))
        (or_yes (ends_here w (stays f c a)) (in_trie (kept_in (λ v. f (c ∷ v)) d) w) q)

    go : (b : Bool) → eqb c x ≡ b
        → T (elim b [ true ↦ ends_here w (stays f c a) || in_trie (kept_in (λ v. f (c ∷ v)) d) w | false ↦ in_trie (kept_in f s) (x ∷ w) ])
        → (T (in_trie (kept_in (λ v. f (c ∷ v)) d) w) → T (in_trie d w) × T (f (c ∷ w)))
        → (T (in_trie (kept_in f s) (x ∷ w)) → T (in_trie s (x ∷ w)) × T (f (x ∷ w)))
        → T (elim b [ true ↦ ends_here w a || in_trie d w | false ↦ in_trie s (x ∷ w) ]) × T (f (x ∷ w))
    go true e q down aside = ((here q down).0, subst (λ (y : ℕ). T (f (y ∷ w))) (eqb-true c x e) (here q down).1)
    go false e q down aside = aside q

kept_held : (f : List ℕ → Bool) (t : Trie) (w : List ℕ) → T (in_trie t w) → T (f w) → T (in_trie (kept_in f t) w)
unfolding in_trie kept_in
kept_held f none w t h = absurd t
kept_held f (node c a d s) [] t h = absurd t
kept_held f (node c a d s) (x ∷ w) t h = go (eqb c x) refl t (λ q k. kept_held (λ v. f (c ∷ v)) d w q k) (λ q. kept_held f s (x ∷ w) q h)
  where
    go : (b : Bool) → eqb c x ≡ b → T (elim b [ true ↦ ends_here w a || in_trie d w | false ↦ in_trie s (x ∷ w) ])
        → (T (in_trie d w) → T (f (c ∷ w)) → T (in_trie (kept_in (λ v. f (c ∷ v)) d) w))
        → (T (in_trie s (x ∷ w)) → T (in_trie (kept_in f s) (x ∷ w)))
        → T (elim b [ true ↦ ends_here w (stays f c a) || in_trie (kept_in (λ v. f (c ∷ v)) d) w | false ↦ in_trie (kept_in f s) (x ∷ w) ])
    go true e q down aside =
        let k : T (f (c ∷ w)) = subst (λ (y : ℕ). T (f (y ∷ w))) (sym (eqb-true c x e)) h in
        ⊎_elim (λ p. or_left (ends_here w (stays f c a)) (in_trie (kept_in (λ v. f (c ∷ v)) d) w) (kept_ends f c a w p k))
        (λ p. or_right (ends_here w (stays f c a)) (in_trie (kept_in (λ v. f (c ∷ v)) d) w) (down p k))
        (or_yes (ends_here w a) (in_trie d w) q)
    go false e q down aside = aside q

-- the words of t have P; quick is f on them, in a form that antt computes fast
module _ {P : List ℕ → Type 0} {t : Trie} (l : Lists P t) (quick f : List ℕ → Bool) (same : (u : List ℕ) → P u → quick u ≡ f u) where
  kept_lists : Lists (λ (u : List ℕ). P u × T (f u)) (kept_in quick t)
  kept_lists = record {
    sorted = kept_sorted quick t l.sorted;
    only = λ u h.
        let k : T (in_trie t u) × T (quick u) = held_kept quick t u h in
        let p : P u = l.only u k.0 in
        (p, rw (same u p) at k.1);
    all = λ u q. kept_held quick t u (l.all u q.0) (rw (same u q.0) q.1);
  }

  pub kept_many : (n : ℕ) → trie_size (kept_in quick t) ≡ n → Many (λ (u : List ℕ). P u × T (f u)) n
  kept_many = many kept_lists
