-- What the words of a trie are whose letters ascend: the first `up_to t w` of them are at most w and the others after it
-- (`cuts`), number n is at most itself with n others (`up_to_nth`), and each word that it holds has a number.
use Prim.Native.Nat.{ℕ, suc, ◌+◌, ◌-◌, ◌≤◌, ◌<◌}
use mathlib.Core.Path.{◌≡◌, refl, sym, ap, ◌∙◌, subst}
use mathlib.Core.Logic.{inl, inr, ⊎_elim}
use mathlib.Core.Bool.{Bool, true, false, cond, ◌&&◌, ◌||◌}
use mathlib.Core.List.{List, [], ◌∷◌}
use native.Mathlib.Omega.{arith}
use lib.Dec.{T, eqb, ltb→lt}
use lib.ListN.{length}
use mir.Facts.{or_yes, and_yes}
use borrow.Author.Tests.{lt-ltb, le-ltb, eq-eqb, ne_eqb, eqb-true}
use Rattle.p0_choice.specs.Choice.{pick, each}
use Rattle.p5_trie.specs.Order.{Before, AtMost}
use Rattle.p5_trie.specs.Mirror.{Trie, none, node, one, trie_size, nth, up_to}
use Rattle.p0_choice.proofs.Numbers.{below_or_not, three_ways}
use Rattle.p5_trie.proofs.Tests.{ends_here, in_trie, every, is_above, is_sorted}

-- the letters of nodes beside each other ascend
abbrev pub Above : ℕ → Trie → Type 0
Above low none = Unit {0}
Above low (node c a d s) = low < c

abbrev pub Sorted : Trie → Type 0
Sorted none = Unit {0}
Sorted (node c a d s) = Above c s × (Sorted d × Sorted s)

module _ (c : ℕ) (a : Bool) (d s : Trie) where
  pub nth_end : (n : ℕ) → n < one a → nth (node c a d s) n ≡ c ∷ []
  unfolding nth
  nth_end n h = rw (lt-ltb n (one a + trie_size d) (omega arith), lt-ltb n (one a) h)

  pub nth_into : (n : ℕ) → one a ≤ n → n < one a + trie_size d → nth (node c a d s) n ≡ c ∷ nth d (n - one a)
  unfolding nth
  nth_into n h l = rw (lt-ltb n (one a + trie_size d) l, le-ltb n (one a) h)

  pub nth_past : (n : ℕ) → one a + trie_size d ≤ n → nth (node c a d s) n ≡ nth s (n - (one a + trie_size d))
  unfolding nth
  nth_past n h = rw (le-ltb n (one a + trie_size d) h)

  pub up_to_past : (x : ℕ) (w : List ℕ) → c < x → up_to (node c a d s) (x ∷ w) ≡ one a + trie_size d + up_to s (x ∷ w)
  unfolding up_to
  up_to_past x w h = rw (lt-ltb c x h)

  pub up_to_into : (x : ℕ) (w : List ℕ) → c ≡ x → up_to (node c a d s) (x ∷ w) ≡ one a + up_to d w
  unfolding up_to
  up_to_into x w h = rw (le-ltb c x (omega arith), eq-eqb c x h)

  pub up_to_stop : (x : ℕ) (w : List ℕ) → x < c → up_to (node c a d s) (x ∷ w) ≡ 0
  unfolding up_to
  up_to_stop x w h = rw (le-ltb c x (omega arith), ne_eqb c x (λ e. omega arith))

  pub size_node : trie_size (node c a d s) ≡ one a + trie_size d + trie_size s
  unfolding trie_size
  size_node = refl

pub size_none : trie_size none ≡ 0
unfolding trie_size
size_none = refl

pub up_to_none : (w : List ℕ) → up_to none w ≡ 0
unfolding up_to
up_to_none w = refl

pub up_to_empty : (t : Trie) → up_to t [] ≡ 0
unfolding up_to
up_to_empty none = refl
up_to_empty (node c a d s) = refl

-- the empty word has no number
pub nth_some : (t : Trie) (n : ℕ) → n < trie_size t → nth t n ≡ [] → ⊥
nth_some none n h e = omega (arith, size_none)
nth_some (node c a d s) n h e =
    ⊎_elim (λ l. omega (arith, ap length (sym (nth_end c a d s n l) ∙ e)))
    (λ l.
    ⊎_elim (λ m. omega (arith, ap length (sym (nth_into c a d s n l m) ∙ e)))
    (λ m. nth_some s (n - (one a + trie_size d)) (omega (arith, size_node c a d s)) (sym (nth_past c a d s n m) ∙ e))
    (below_or_not n (one a + trie_size d)))
    (below_or_not n (one a))

-- no more words are at most w than there are
pub up_to_le : (t : Trie) (w : List ℕ) → up_to t w ≤ trie_size t
up_to_le none w = omega (arith, up_to_none w)
up_to_le (node c a d s) [] = omega (arith, up_to_empty (node c a d s))
up_to_le (node c a d s) (x ∷ w) =
    ⊎_elim (λ h. omega (arith, size_node c a d s, up_to_past c a d s x w h, up_to_le s (x ∷ w)))
    (⊎_elim (λ h. omega (arith, size_node c a d s, up_to_into c a d s x w h, up_to_le d w)) (λ h. omega (arith, up_to_stop c a d s x w h)))
    (three_ways c x)

above_more : (lo c : ℕ) (t : Trie) → lo < c → Above c t → Above lo t
above_more lo c none h u = tt
above_more lo c (node e a d s) h u = omega arith

-- a word of a trie has a first letter, above what the trie is above
pub record Headed (lo : ℕ) (w : List ℕ) : Type 0 where
  pub head : ℕ
  pub tail : List ℕ
  pub is : w ≡ head ∷ tail
  pub above : lo < head

pub headed : (lo : ℕ) (t : Trie) → Above lo t → Sorted t → (n : ℕ) → n < trie_size t → Headed lo (nth t n)
headed lo none u o n h = absurd (let z : trie_size none ≡ 0 = size_none in omega arith)
headed lo (node c a d s) u o n h =
    ⊎_elim (λ l. record { head = c; tail = []; is = nth_end c a d s n l; above = u })
    (λ l.
    ⊎_elim (λ m. record { head = c; tail = nth d (n - one a); is = nth_into c a d s n l m; above = u })
    (λ m.
    subst (λ (w : List ℕ). Headed lo w) (sym (nth_past c a d s n m))
    (headed lo s (above_more lo c s u o.0) o.1.1 (n - (one a + trie_size d)) (omega (arith, size_node c a d s))))
    (below_or_not n (one a + trie_size d)))
    (below_or_not n (one a))

-- words with one first letter compare as what follows it
before_cons : (c x : ℕ) (u w : List ℕ) → c ≡ x → Before u w → Before (c ∷ u) (x ∷ w)
before_cons c x u w e h = inr (e, h)

at_most_cons : (c x : ℕ) (u w : List ℕ) → c ≡ x → AtMost u w → AtMost (c ∷ u) (x ∷ w)
at_most_cons c x u w e (inl h) = inl (inr (e, h))
at_most_cons c x u w e (inr h) = inr (cc)

at_most_end : (c x : ℕ) (w : List ℕ) → c ≡ x → AtMost (c ∷ []) (x ∷ w)
at_most_end c x [] e = inr (cc)
at_most_end c x (y ∷ w) e = inl (inr (e, tt))

-- the words at most w are the first up_to of them
pub record Cuts (t : Trie) (w : List ℕ) (n : ℕ) : Type 0 where
  pub low : n < up_to t w → AtMost (nth t n) w
  pub high : up_to t w ≤ n → Before w (nth t n)

headed_before : (c x : ℕ) (w u : List ℕ) → x ≤ c → Headed c u → Before (x ∷ w) u
headed_before c x w u h r = subst (λ (v : List ℕ). Before (x ∷ w) v) (sym r.is) (inl (omega (arith, r.above)))

module _ (c : ℕ) (a : Bool) (d s : Trie) (n : ℕ) where
  -- the word ends in the first node
  cuts_end : (w : List ℕ) → n < one a → Cuts (node c a d s) w n
  cuts_end [] l = record {
    low = λ h. absurd (omega (arith, up_to_empty (node c a d s)));
    high = λ h. rw (nth_end c a d s n l) tt;
  }
  cuts_end (x ∷ w) l =
      ⊎_elim (λ p. record {
        low = λ h. rw (nth_end c a d s n l) (inl (inl p));
        high = λ h. absurd (omega (arith, up_to_past c a d s x w p));
      })
      (⊎_elim (λ p. record {
        low = λ h. rw (nth_end c a d s n l) (at_most_end c x w p);
        high = λ h. absurd (omega (arith, up_to_into c a d s x w p));
      })
      (λ p. record {
        low = λ h. absurd (omega (arith, up_to_stop c a d s x w p));
        high = λ h. rw (nth_end c a d s n l) (inl p);
      }))
      (three_ways c x)

  -- it goes down
  cuts_into : (w : List ℕ) → one a ≤ n → n < one a + trie_size d → ((v : List ℕ) → Cuts d v (n - one a)) → Cuts (node c a d s) w n
  cuts_into [] l m k = record {
    low = λ h. absurd (omega (arith, up_to_empty (node c a d s)));
    high = λ h. rw (nth_into c a d s n l m) tt;
  }
  cuts_into (x ∷ w) l m k =
      ⊎_elim (λ p. record {
        low = λ h. rw (nth_into c a d s n l m) (inl (inl p));
        high = λ h. absurd (omega (arith, up_to_past c a d s x w p));
      })
      (⊎_elim (λ p. record {
        low = λ h. rw (nth_into c a d s n l m)
            (at_most_cons c x (nth d (n - one a)) w p ((k w).low (omega (arith, up_to_into c a d s x w p))));
        high = λ h. rw (nth_into c a d s n l m)
            (before_cons x c w (nth d (n - one a)) (sym p) ((k w).high (omega (arith, up_to_into c a d s x w p))));
      })
      (λ p. record {
        low = λ h. absurd (omega (arith, up_to_stop c a d s x w p));
        high = λ h. rw (nth_into c a d s n l m) (inl p);
      }))
      (three_ways c x)

  -- it is beside
  cuts_past : (w : List ℕ) → one a + trie_size d ≤ n → Headed c (nth s (n - (one a + trie_size d))) → Cuts s w (n - (one a + trie_size d))
      → Cuts (node c a d s) w n
  cuts_past [] m r k = record {
    low = λ h. absurd (omega (arith, up_to_empty (node c a d s)));
    high = λ h. rw (nth_past c a d s n m) (k.high (omega (arith, up_to_empty s)));
  }
  cuts_past (x ∷ w) m r k =
      ⊎_elim (λ p. record {
        low = λ h. rw (nth_past c a d s n m) (k.low (omega (arith, up_to_past c a d s x w p)));
        high = λ h. rw (nth_past c a d s n m) (k.high (omega (arith, up_to_past c a d s x w p)));
      })
      (⊎_elim (λ p. record {
        low = λ h. absurd (omega (arith, up_to_into c a d s x w p, up_to_le d w));
        high = λ h. rw (nth_past c a d s n m) (headed_before c x w _ (omega arith) r);
      })
      (λ p. record {
        low = λ h. absurd (omega (arith, up_to_stop c a d s x w p));
        high = λ h. rw (nth_past c a d s n m) (headed_before c x w _ (omega arith) r);
      }))
      (three_ways c x)

pub cuts : (t : Trie) → Sorted t → (w : List ℕ) (n : ℕ) → n < trie_size t → Cuts t w n
cuts none o w n h = absurd (let z : trie_size none ≡ 0 = size_none in omega arith)
cuts (node c a d s) o w n h =
    ⊎_elim (λ l. cuts_end c a d s n w l)
    (λ l.
    ⊎_elim (λ m. cuts_into c a d s n w l m (λ v. cuts d o.1.0 v (n - one a) (omega arith)))
    (λ m.
    let k : n - (one a + trie_size d) < trie_size s = omega (arith, size_node c a d s) in
    cuts_past c a d s n w m (headed c s o.0 o.1.1 _ k) (cuts s o.1.1 w _ k))
    (below_or_not n (one a + trie_size d)))
    (below_or_not n (one a))

up_to_beside : (c : ℕ) (a : Bool) (d s : Trie) (n : ℕ) → one a + trie_size d ≤ n → Headed c (nth s (n - (one a + trie_size d)))
    → up_to s (nth s (n - (one a + trie_size d))) ≡ suc (n - (one a + trie_size d)) → up_to (node c a d s) (nth (node c a d s) n) ≡ suc n
up_to_beside c a d s n m r q =
    rw (nth_past c a d s n m, r.is) (omega (arith, up_to_past c a d s r.head r.tail r.above, rw r.is at q))

at_one : (b : Bool) (n : ℕ) → n < one b → one b ≡ 1
at_one true n l = refl
at_one false n l = omega arith

-- the n-th word is the last of n + 1 words at most itself
pub up_to_nth : (t : Trie) → Sorted t → (n : ℕ) → n < trie_size t → up_to t (nth t n) ≡ suc n
up_to_nth none o n h = absurd (let z : trie_size none ≡ 0 = size_none in omega arith)
up_to_nth (node c a d s) o n h =
    ⊎_elim (λ l. rw (nth_end c a d s n l) (omega (arith, up_to_into c a d s c [] refl, up_to_empty d, at_one a n l)))
    (λ l.
    ⊎_elim (λ m. rw (nth_into c a d s n l m)
    (omega (arith, up_to_into c a d s c (nth d (n - one a)) refl, up_to_nth d o.1.0 (n - one a) (omega arith))))
    (λ m.
    let k : n - (one a + trie_size d) < trie_size s = omega (arith, size_node c a d s) in
    up_to_beside c a d s n m (headed c s o.0 o.1.1 (n - (one a + trie_size d)) k) (up_to_nth s o.1.1 (n - (one a + trie_size d)) k))
    (below_or_not n (one a + trie_size d)))
    (below_or_not n (one a))

-- a word that a trie holds has a number in it
pub record Numbered (t : Trie) (w : List ℕ) : Type 0 where
  pub number : ℕ
  pub small : number < trie_size t
  pub is : nth t number ≡ w

module _ (c : ℕ) (a : Bool) (d s : Trie) (w : List ℕ) where
  numbered_into : Numbered d w → Numbered (node c a d s) (c ∷ w)
  numbered_into r = record {
    number = one a + r.number;
    small = omega (arith, size_node c a d s, r.small);
    is =
        nth_into c a d s (one a + r.number) (omega arith) (omega (arith, r.small))
        ∙ ap (λ (k : ℕ). c ∷ nth d k) (omega arith)
        ∙ ap (λ (v : List ℕ). c ∷ v) r.is;
  }

  numbered_past : Numbered s w → Numbered (node c a d s) w
  numbered_past r = record {
    number = one a + trie_size d + r.number;
    small = omega (arith, size_node c a d s, r.small);
    is = nth_past c a d s (one a + trie_size d + r.number) (omega arith) ∙ ap (λ (k : ℕ). nth s k) (omega arith) ∙ r.is;
  }

numbered_end : (c : ℕ) (a : Bool) (d s : Trie) (w : List ℕ) → T (ends_here w a) → Numbered (node c a d s) (c ∷ w)
numbered_end c true d s [] t = record { number = 0; small = omega (arith, size_node c true d s); is = nth_end c true d s 0 (omega arith) }
numbered_end c false d s [] t = absurd t
numbered_end c a d s (x ∷ w) t = absurd t

-- one step down or aside: which of the two a node's letter says
module _ (c : ℕ) (a : Bool) (d s : Trie) (x : ℕ) (w : List ℕ) where
  step_holds : (P : List ℕ → Type 0) → (T (ends_here w a) → P (c ∷ w)) → (T (in_trie d w) → P (c ∷ w)) → (T (in_trie s (x ∷ w)) → P (x ∷ w))
      → T (in_trie (node c a d s) (x ∷ w)) → P (x ∷ w)
  unfolding in_trie
  step_holds P here down aside h = go (eqb c x) refl h
    where
      go : (b : Bool) → eqb c x ≡ b → T (elim b [ true ↦ ends_here w a || in_trie d w | false ↦ in_trie s (x ∷ w) ]) → P (x ∷ w)
      go true e t = subst (λ (y : ℕ). P (y ∷ w)) (eqb-true c x e) (⊎_elim here down (or_yes (ends_here w a) (in_trie d w) t))
      go false e t = aside t

pub numbered : (t : Trie) (w : List ℕ) → T (in_trie t w) → Numbered t w
unfolding in_trie
numbered none w h = absurd h
numbered (node c a d s) [] h = absurd h
numbered (node c a d s) (x ∷ w) h =
    step_holds c a d s x w (Numbered (node c a d s)) (λ p. numbered_end c a d s w p) (λ p. numbered_into c a d s w (numbered d w p))
    (λ p. numbered_past c a d s (x ∷ w) (numbered s (x ∷ w) p)) h

stop_here : (c : ℕ) (f : List ℕ → Bool) (b : Bool) (n : ℕ) → n < one b → T (cond b (f (c ∷ [])) true) → T (f (c ∷ []))
stop_here c f true n l p = p
stop_here c f false n l p = absurd (omega arith)

-- a test that passes at each word passes at the n-th
pub every_nth : (t : Trie) (f : List ℕ → Bool) → T (every t f) → (n : ℕ) → n < trie_size t → T (f (nth t n))
unfolding every
every_nth none f e n h = absurd (let z : trie_size none ≡ 0 = size_none in omega arith)
every_nth (node c a d s) f e n h =
    let E : Bool = cond a (f (c ∷ [])) true in
    let D : Bool = every d (λ v. f (c ∷ v)) in
    let S : Bool = every s f in
    let p : T E × T (D && S) = and_yes E (D && S) e in
    let q : T D × T S = and_yes D S p.1 in
    ⊎_elim (λ l. rw (nth_end c a d s n l) (stop_here c f a n l p.0))
    (λ l.
    ⊎_elim (λ m. rw (nth_into c a d s n l m) (every_nth d (λ v. f (c ∷ v)) q.0 (n - one a) (omega arith)))
    (λ m. rw (nth_past c a d s n m) (every_nth s f q.1 (n - (one a + trie_size d)) (omega (arith, size_node c a d s))))
    (below_or_not n (one a + trie_size d)))
    (below_or_not n (one a))

above : (c : ℕ) (t : Trie) → T (is_above c t) → Above c t
unfolding is_above
above c none p = tt
above c (node y b e r) p = ltb→lt c y p

pub sorted : (t : Trie) → T (is_sorted t) → Sorted t
unfolding is_sorted
sorted none h = tt
sorted (node c a d s) h =
    let p : T (is_above c s) × T (is_sorted d && is_sorted s) = and_yes (is_above c s) (is_sorted d && is_sorted s) h in
    let q : T (is_sorted d) × T (is_sorted s) = and_yes (is_sorted d) (is_sorted s) p.1 in
    (above c s p.0, (sorted d q.0, sorted s q.1))

-- each letter of the trie passes p
abbrev pub Letters : (ℕ → Bool) → Trie → Type 0
Letters p none = Unit {0}
Letters p (node c a d s) = T (p c) × (Letters p d × Letters p s)

each_cons : (p : ℕ → Bool) (x : ℕ) (w : List ℕ) → T (p x) → T (each p w) → T (each p (x ∷ w))
each_cons p x w t u = go (p x) t
  where
    go : (b : Bool) → T b → T (pick b (each p w) false)
    go true v = u
    go false v = v

pub letters_nth : (p : ℕ → Bool) (t : Trie) → Letters p t → (n : ℕ) → n < trie_size t → T (each p (nth t n))
letters_nth p none l n h = absurd (let z : trie_size none ≡ 0 = size_none in omega arith)
letters_nth p (node c a d s) l n h =
    ⊎_elim (λ k. rw (nth_end c a d s n k) (each_cons p c [] l.0 tt))
    (λ k.
    ⊎_elim (λ m. rw (nth_into c a d s n k m)
    (each_cons p c (nth d (n - one a)) l.0 (letters_nth p d l.1.0 (n - one a) (omega arith))))
    (λ m. rw (nth_past c a d s n m) (letters_nth p s l.1.1 (n - (one a + trie_size d)) (omega (arith, size_node c a d s))))
    (below_or_not n (one a + trie_size d)))
    (below_or_not n (one a))
