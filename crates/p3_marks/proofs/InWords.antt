-- The places of uo, ua and mark in document 01's words: a place is found exactly where it is within reach, fits, and nothing
-- nearer to the end fits; and where none is found, none within reach fits.
use Rattle.std.specs.Prelude.{None, Option, Some}
use Prim.Native.Nat.{ℕ, zero, suc, ◌+◌, ◌-◌, ◌<◌, ◌≤◌}
use Prim.Native.Char.{code}
use mathlib.Core.Path.{◌≡◌, refl, sym, ap, ◌∙◌}
use mathlib.Core.Bool.{Bool, true, false}
use mathlib.Core.List.{List}
use mathlib.Core.Logic.{◌⊎◌, inl, inr}
use native.Mathlib.Omega.{arith}
use lib.Dec.{eqb, ltb}
use lib.ListN.{length}
use borrow.Author.Tests.{eqb-true, eqb-false, eq-eqb, ne_eqb, ltb-false, le-ltb}
use Rattle.p0_choice.specs.Choice.{pick}
use Rattle.p0_choice.proofs.Numbers.{below_or_not}
use Rattle.p0_choice.specs.Text.{word}
use Rattle.p1_letters.specs.Alphabet.{ascii_lower, is_ascii_capital}
use Rattle.p1_letters.specs.Vowels.{vowels, is_vowel}
use Rattle.p2_input_method.specs.Rules.{mark_for}
use Rattle.p2_input_method.specs.declared.InputMethod.{InputMethod}
use Rattle.p3_cells.specs.declared.Cell.{Cell}
use Rattle.p3_marks.specs.Uo.{base_at, uo_back, uo_place}
use Rattle.p3_marks.specs.Ua.{after_q, ua_place}
use Rattle.p3_marks.specs.Mark.{mark_back, mark_place}

-- ---- *Mark.* Of the last n of the first i cells, j is the last whose base with k is a rule.
pub record MarkAt (m : InputMethod) (cs : List Cell) (k n i j : ℕ) : Type 0 where
  pub below : j < i
  pub reach : i ≤ j + n
  pub rule : mark_for m (base_at cs j) k ≡ 0 → ⊥
  pub nearest : (p : ℕ) → j < p → p < i → mark_for m (base_at cs p) k ≡ 0

module _ (m : InputMethod) (cs : List Cell) (k : ℕ) where
  mark_is : (n i j : ℕ) → mark_back m cs k n i ≡ Some j → MarkAt m cs k n i j
  unfolding mark_back
  mark_is zero i j e = let z : ◌≡◌ {A = ℕ} 0 1 = cc in absurd (omega arith)
  mark_is (suc n) zero j e = let z : ◌≡◌ {A = ℕ} 0 1 = cc in absurd (omega arith)
  mark_is (suc n) (suc i) j e = go (eqb (mark_for m (base_at cs i) k) 0) refl e (λ (f : mark_back m cs k n i ≡ Some j). mark_is n i j f)
    where
      go : (t : Bool) → eqb (mark_for m (base_at cs i) k) 0 ≡ t → pick t (mark_back m cs k n i) (Some i) ≡ Some j
          → (mark_back m cs k n i ≡ Some j → MarkAt m cs k n i j) → MarkAt m cs k (suc n) (suc i) j
      go true q f g =
          let r = g f in
          let b = r.below in
          let l = r.reach in
          record { below = omega arith; reach = omega arith; rule = r.rule; nearest = λ p h s. near r p h s (below_or_not p i) }
        where
          near : MarkAt m cs k n i j → (p : ℕ) → j < p → p < suc i → (p < i) ⊎ (i ≤ p) → mark_for m (base_at cs p) k ≡ 0
          near r p h s (inl l) = r.nearest p h l
          near r p h s (inr l) = let d : p ≡ i = omega arith in rw d (eqb-true (mark_for m (base_at cs i) k) 0 q)
      go false q f g =
          let d : i ≡ j = cc in
          record {
            below = omega arith;
            reach = omega arith;
            rule = rw d at (eqb-false (mark_for m (base_at cs i) k) 0 q);
            nearest = λ p h s. absurd (omega arith);
          }

  is_mark : (n i j : ℕ) → MarkAt m cs k n i j → mark_back m cs k n i ≡ Some j
  unfolding mark_back
  is_mark zero i j r = let b = r.below in let l = r.reach in absurd (omega arith)
  is_mark (suc n) zero j r = let b = r.below in absurd (omega arith)
  is_mark (suc n) (suc i) j r = go (below_or_not j i) (λ (f : MarkAt m cs k n i j). is_mark n i j f)
    where
      go : (j < i) ⊎ (i ≤ j) → (MarkAt m cs k n i j → mark_back m cs k n i ≡ Some j)
          → pick (eqb (mark_for m (base_at cs i) k) 0) (mark_back m cs k n i) (Some i) ≡ Some j
      go (inl l) g =
          let h = r.reach in
          rw (eq-eqb (mark_for m (base_at cs i) k) 0 (r.nearest i l (omega arith)))
          (g (record { below = l; reach = omega arith; rule = r.rule; nearest = λ p s t. r.nearest p s (omega arith) }))
      go (inr l) g =
          let b = r.below in
          let d : j ≡ i = omega arith in
          let f : mark_for m (base_at cs i) k ≡ 0 → ⊥ = rw d at r.rule in
          rw (ne_eqb (mark_for m (base_at cs i) k) 0 f) (ap Some (sym d))

  no_mark : (n i : ℕ) → mark_back m cs k n i ≡ None → (p : ℕ) → p < i → i ≤ p + n → mark_for m (base_at cs p) k ≡ 0
  unfolding mark_back
  no_mark zero i e p h l = absurd (omega arith)
  no_mark (suc n) zero e p h l = absurd (omega arith)
  no_mark (suc n) (suc i) e p h l =
      go (eqb (mark_for m (base_at cs i) k) 0) refl e (below_or_not p i)
      (λ (f : mark_back m cs k n i ≡ None) (b : p < i). no_mark n i f p b (omega arith))
    where
      go : (t : Bool) → eqb (mark_for m (base_at cs i) k) 0 ≡ t → pick t (mark_back m cs k n i) (Some i) ≡ None → (p < i) ⊎ (i ≤ p)
          → (mark_back m cs k n i ≡ None → p < i → mark_for m (base_at cs p) k ≡ 0) → mark_for m (base_at cs p) k ≡ 0
      go true q f (inl b) g = g f b
      go true q f (inr b) g = let d : p ≡ i = omega arith in rw d (eqb-true (mark_for m (base_at cs i) k) 0 q)
      go false q f b g = let z : ◌≡◌ {A = ℕ} 0 1 = cc in absurd (omega arith)

  pub mark_nowhere : mark_place m cs k ≡ None → (p : ℕ) → p < length cs → length cs ≤ p + 5 → mark_for m (base_at cs p) k ≡ 0
  unfolding mark_place
  mark_nowhere e = no_mark 5 (length cs) e

  -- "From the last cell back over at most 5, any letters between: the first whose base with k is a rule"
  pub mark_nearest : (j : ℕ) → (mark_place m cs k ≡ Some j → MarkAt m cs k 5 (length cs) j)
      × (MarkAt m cs k 5 (length cs) j → mark_place m cs k ≡ Some j)
  unfolding mark_place
  mark_nearest j = (mark_is 5 (length cs) j, is_mark 5 (length cs) j)

-- where a place would be found, one is
found : (P : ℕ → Type 0) (p : Option ℕ) → ((j : ℕ) → P j → p ≡ Some j) → p ≡ None → (j : ℕ) → P j → ⊥
found P p f e j h = let d : Some j ≡ None = sym (f j h) ∙ e in let z : ◌≡◌ {A = ℕ} 0 1 = cc in omega arith

-- ---- *uo.* Of the last n of the first i cells one is an o after a u, at place j, and no vowel stands between it and the end.
pub record UoAt (cs : List Cell) (n i j : ℕ) : Type 0 where
  pub below : suc j < i
  pub reach : i ≤ suc j + n
  pub u : base_at cs j ≡ code "u"
  pub o : base_at cs (suc j) ≡ code "o"
  pub between : (p : ℕ) → suc j < p → p < i → is_vowel (base_at cs p) ≡ false

-- an o is a vowel
no_o : (x : ℕ) → is_vowel x ≡ false → x ≡ 111 → ⊥
unfolding is_vowel ascii_lower is_ascii_capital vowels word
no_o x v e = let y : true ≡ false = rw e at v in let z : ◌≡◌ {A = ℕ} 0 1 = cc in omega arith

module _ (cs : List Cell) where
  uo_is : (n i j : ℕ) → uo_back cs n i ≡ Some j → UoAt cs n i j
  unfolding uo_back
  uo_is zero i j e = let z : ◌≡◌ {A = ℕ} 0 1 = cc in absurd (omega arith)
  uo_is (suc n) zero j e = let z : ◌≡◌ {A = ℕ} 0 1 = cc in absurd (omega arith)
  uo_is (suc n) (suc zero) j e = let z : ◌≡◌ {A = ℕ} 0 1 = cc in absurd (omega arith)
  uo_is (suc n) (suc (suc i)) j e =
      go (eqb (base_at cs (suc i)) 111) refl (eqb (base_at cs i) 117) refl (is_vowel (base_at cs (suc i))) refl e
      (λ (f : uo_back cs n (suc i) ≡ Some j). uo_is n (suc i) j f)
    where
      go : (a : Bool) → eqb (base_at cs (suc i)) 111 ≡ a → (b : Bool) → eqb (base_at cs i) 117 ≡ b
          → (v : Bool) → is_vowel (base_at cs (suc i)) ≡ v
          → pick a (pick b (Some i) None) (pick v None (uo_back cs n (suc i))) ≡ Some j
          → (uo_back cs n (suc i) ≡ Some j → UoAt cs n (suc i) j) → UoAt cs (suc n) (suc (suc i)) j
      go true p true q v s e f =
          let d : i ≡ j = cc in
          record {
            below = omega arith;
            reach = omega arith;
            u = rw d at (eqb-true (base_at cs i) 117 q);
            o = rw d at (eqb-true (base_at cs (suc i)) 111 p);
            between = λ x h l. absurd (omega arith);
          }
      go true p false q v s e f = let z : ◌≡◌ {A = ℕ} 0 1 = cc in absurd (omega arith)
      go false p b q true s e f = let z : ◌≡◌ {A = ℕ} 0 1 = cc in absurd (omega arith)
      go false p b q false s e f =
          let r = f e in
          let l = r.below in
          let h = r.reach in
          record { below = omega arith; reach = omega arith; u = r.u; o = r.o; between = λ x t w. near r x t w (below_or_not x (suc i)) }
        where
          near : UoAt cs n (suc i) j → (x : ℕ) → suc j < x → x < suc (suc i) → (x < suc i) ⊎ (suc i ≤ x) → is_vowel (base_at cs x) ≡ false
          near r x t w (inl l) = r.between x t l
          near r x t w (inr l) = let d : x ≡ suc i = omega arith in rw d s

  is_uo : (n i j : ℕ) → UoAt cs n i j → uo_back cs n i ≡ Some j
  unfolding uo_back
  is_uo zero i j r = let l = r.below in let h = r.reach in absurd (omega arith)
  is_uo (suc n) zero j r = let l = r.below in absurd (omega arith)
  is_uo (suc n) (suc zero) j r = let l = r.below in absurd (omega arith)
  is_uo (suc n) (suc (suc i)) j r = go (below_or_not j i) (λ (f : UoAt cs n (suc i) j). is_uo n (suc i) j f)
    where
      go : (j < i) ⊎ (i ≤ j) → (UoAt cs n (suc i) j → uo_back cs n (suc i) ≡ Some j)
          → pick (eqb (base_at cs (suc i)) 111) (pick (eqb (base_at cs i) 117) (Some i) None)
          (pick (is_vowel (base_at cs (suc i))) None (uo_back cs n (suc i))) ≡ Some j
      go (inl l) g =
          let v : is_vowel (base_at cs (suc i)) ≡ false = r.between (suc i) (omega arith) (omega arith) in
          let h = r.reach in
          rw (ne_eqb (base_at cs (suc i)) 111 (no_o (base_at cs (suc i)) v), v)
          (g (record { below = omega arith; reach = omega arith; u = r.u; o = r.o; between = λ p s t. r.between p s (omega arith) }))
      go (inr l) g =
          let b = r.below in
          let d : j ≡ i = omega arith in
          let o : base_at cs (suc i) ≡ 111 = rw d at r.o in
          let u : base_at cs i ≡ 117 = rw d at r.u in
          rw (eq-eqb (base_at cs (suc i)) 111 o, eq-eqb (base_at cs i) 117 u) (ap Some (sym d))

  pub uo_nowhere : uo_place cs ≡ None → (j : ℕ) → UoAt cs 5 (length cs) j → ⊥
  unfolding uo_place
  uo_nowhere e = found (UoAt cs 5 (length cs)) (uo_place cs) (is_uo 5 (length cs)) e

  -- "From the last cell back, at most 5 cells and never the first cell, by base: an o after a u makes the pair .. Any other
  -- vowel ends the step."
  pub uo_nearest : (j : ℕ) → (uo_place cs ≡ Some j → UoAt cs 5 (length cs) j) × (UoAt cs 5 (length cs) j → uo_place cs ≡ Some j)
  unfolding uo_place
  uo_nearest j = (uo_is 5 (length cs) j, is_uo 5 (length cs) j)

-- ---- *ua.* The last two bases are u and a, the u at place j, and no q stands before.
pub record UaAt (cs : List Cell) (j : ℕ) : Type 0 where
  pub last : length cs ≡ suc (suc j)
  pub u : base_at cs j ≡ code "u"
  pub a : base_at cs (suc j) ≡ code "a"
  pub no_q : (i : ℕ) → j ≡ suc i → base_at cs i ≡ code "q" → ⊥

after_no : (cs : List Cell) (j : ℕ) → after_q cs j ≡ false → (i : ℕ) → j ≡ suc i → base_at cs i ≡ 113 → ⊥
unfolding after_q
after_no cs zero e i d q = absurd (omega arith)
after_no cs (suc j) e i d q = let h : j ≡ i = omega arith in eqb-false (base_at cs j) 113 e (rw h q)

no_after : (cs : List Cell) (j : ℕ) → ((i : ℕ) → j ≡ suc i → base_at cs i ≡ 113 → ⊥) → after_q cs j ≡ false
unfolding after_q
no_after cs zero f = refl
no_after cs (suc j) f = ne_eqb (base_at cs j) 113 (f j refl)

ua_is : (cs : List Cell) (j : ℕ) → ua_place cs ≡ Some j → UaAt cs j
unfolding ua_place
ua_is cs j e =
    go (ltb (length cs) 2) refl (eqb (base_at cs (length cs - 2)) 117) refl (eqb (base_at cs (length cs - 1)) 97) refl
    (after_q cs (length cs - 2)) refl e
  where
    go : (s : Bool) → ltb (length cs) 2 ≡ s → (a : Bool) → eqb (base_at cs (length cs - 2)) 117 ≡ a
        → (b : Bool) → eqb (base_at cs (length cs - 1)) 97 ≡ b
        → (q : Bool) → after_q cs (length cs - 2) ≡ q
        → pick s None (pick a (pick b (pick q None (Some (length cs - 2))) None) None) ≡ Some j → UaAt cs j
    go true g a h b k q l e = let z : ◌≡◌ {A = ℕ} 0 1 = cc in absurd (omega arith)
    go false g true h true k true l e = let z : ◌≡◌ {A = ℕ} 0 1 = cc in absurd (omega arith)
    go false g true h true k false l e =
        let d : length cs - 2 ≡ j = cc in
        let n = ltb-false (length cs) 2 g in
        let c : length cs - 1 ≡ suc j = omega arith in
        record {
          last = omega arith;
          u = rw d at (eqb-true (base_at cs (length cs - 2)) 117 h);
          a = rw c at (eqb-true (base_at cs (length cs - 1)) 97 k);
          no_q = after_no cs j (rw d at l);
        }
    go false g true h false k q l e = let z : ◌≡◌ {A = ℕ} 0 1 = cc in absurd (omega arith)
    go false g false h b k q l e = let z : ◌≡◌ {A = ℕ} 0 1 = cc in absurd (omega arith)

is_ua : (cs : List Cell) (j : ℕ) → UaAt cs j → ua_place cs ≡ Some j
unfolding ua_place
is_ua cs j r =
    let n = r.last in
    let d : length cs - 2 ≡ j = omega arith in
    let c : length cs - 1 ≡ suc j = omega arith in
    rw (
      le-ltb (length cs) 2 (omega arith),
      d,
      c,
      eq-eqb (base_at cs j) 117 r.u,
      eq-eqb (base_at cs (suc j)) 97 r.a,
      no_after cs j r.no_q,
    ) refl

pub ua_nowhere : (cs : List Cell) → ua_place cs ≡ None → (j : ℕ) → UaAt cs j → ⊥
ua_nowhere cs e = found (UaAt cs) (ua_place cs) (is_ua cs) e

-- "Last two bases u a, no q before"
pub ua_exactly : (cs : List Cell) (j : ℕ) → (ua_place cs ≡ Some j → UaAt cs j) × (UaAt cs j → ua_place cs ≡ Some j)
ua_exactly cs j = (ua_is cs j, is_ua cs j)
