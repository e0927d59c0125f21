-- Undo in document 01's words: the cell is the last that fits, and the rule the first that has such a cell.
use Rattle.std.specs.Prelude.{None, Option, Some}
use Prim.Native.Nat.{ℕ, zero, suc, ◌<◌, ◌≤◌}
use mathlib.Core.Path.{◌≡◌, refl, sym, ap}
use mathlib.Core.Bool.{Bool, true, false}
use mathlib.Core.List.{List, [], ◌∷◌, ◌++◌}
use mathlib.Core.Logic.{◌⊎◌, inl, inr}
use native.Mathlib.Omega.{arith}
use lib.Dec.{eqb}
use lib.ListN.{length, get_or}
use borrow.Author.Tests.{eqb-true, eq-eqb}
use Rattle.p0_choice.specs.Choice.{pick}
use Rattle.p0_choice.proofs.Numbers.{below_or_not}
use Rattle.p2_input_method.specs.Rules.{mark_rules}
use Rattle.p2_input_method.specs.declared.InputMethod.TheVariants.{Telex}
use Rattle.p2_input_method.specs.declared.MarkRule.{MarkRule}
use Rattle.p3_cells.specs.Cells.{blank}
use Rattle.p3_cells.specs.Place.{place_or}
use Rattle.p3_cells.specs.declared.Cell.{Cell}
use Rattle.p3_undo.specs.Raw.{ends_in, active}
use Rattle.p3_undo.specs.Undo.{last_with, has_tone, has_mark, rule_at, by_rules, tone_at, to_undo}
use Rattle.p3_undo.specs.declared.Undoing.{Undoing}
use Rattle.p3_undo.specs.declared.Undoing.TheVariants.{Tone, Mark}

-- ---- "the last cell with ..": of the first n cells, i is the last that passes the test
pub record LastCell (p : Cell → Bool) (cs : List Cell) (n i : ℕ) : Type 0 where
  pub below : i < n
  pub fits : p (get_or cs i blank) ≡ true
  pub later : (j : ℕ) → i < j → j < n → p (get_or cs j blank) ≡ false

-- none of them does
abbrev pub NoCell : (Cell → Bool) → List Cell → ℕ → Type 0
NoCell p cs n = (j : ℕ) → j < n → p (get_or cs j blank) ≡ false

module _ (p : Cell → Bool) (cs : List Cell) where
  last_is : (n i : ℕ) → last_with p cs n ≡ Some i → LastCell p cs n i
  unfolding last_with
  last_is zero i e = let z : ◌≡◌ {A = ℕ} 0 1 = cc in absurd (omega arith)
  last_is (suc n) i e = go (p (get_or cs n blank)) refl e (λ (f : last_with p cs n ≡ Some i). last_is n i f)
    where
      go : (t : Bool) → p (get_or cs n blank) ≡ t → pick t (Some n) (last_with p cs n) ≡ Some i → (last_with p cs n ≡ Some i → LastCell p cs n i)
          → LastCell p cs (suc n) i
      go true q e f = let d : n ≡ i = cc in record { below = omega arith; fits = rw d at q; later = λ j l h. absurd (omega arith) }
      go false q e f =
          let r = f e in
          let b = r.below in
          record { below = omega arith; fits = r.fits; later = λ j l h. after r j l h (below_or_not j n) }
        where
          after : LastCell p cs n i → (j : ℕ) → i < j → j < suc n → (j < n) ⊎ (n ≤ j) → p (get_or cs j blank) ≡ false
          after r j l h (inl k) = r.later j l k
          after r j l h (inr k) = let d : j ≡ n = omega arith in rw d q

  is_last : (n i : ℕ) → LastCell p cs n i → last_with p cs n ≡ Some i
  unfolding last_with
  is_last zero i r = let b = r.below in absurd (omega arith)
  is_last (suc n) i r = go (below_or_not i n) (λ (f : LastCell p cs n i). is_last n i f)
    where
      go : (i < n) ⊎ (n ≤ i) → (LastCell p cs n i → last_with p cs n ≡ Some i) → pick (p (get_or cs n blank)) (Some n) (last_with p cs n) ≡ Some i
      go (inl l) f = rw (r.later n l (omega arith)) (f (record { below = l; fits = r.fits; later = λ j k h. r.later j k (omega arith) }))
      go (inr l) f =
          let b = r.below in
          let d : i ≡ n = omega arith in
          let q : p (get_or cs n blank) ≡ true = rw d at r.fits in
          rw q (ap Some (sym d))

  last_none : (n : ℕ) → last_with p cs n ≡ None → NoCell p cs n
  unfolding last_with
  last_none zero e j h = absurd (omega arith)
  last_none (suc n) e j h =
      go (p (get_or cs n blank)) refl e (below_or_not j n) (λ (f : last_with p cs n ≡ None) (b : j < n). last_none n f j b)
    where
      go : (t : Bool) → p (get_or cs n blank) ≡ t → pick t (Some n) (last_with p cs n) ≡ None → (j < n) ⊎ (n ≤ j)
          → (last_with p cs n ≡ None → j < n → p (get_or cs j blank) ≡ false) → p (get_or cs j blank) ≡ false
      go true q e b f = let z : ◌≡◌ {A = ℕ} 0 1 = cc in absurd (omega arith)
      go false q e (inl b) f = f e b
      go false q e (inr b) f = let d : j ≡ n = omega arith in rw d q

  pub last_exactly : (n i : ℕ) → (last_with p cs n ≡ Some i → LastCell p cs n i) × (LastCell p cs n i → last_with p cs n ≡ Some i)
  last_exactly n i = (last_is n i, is_last n i)

-- ---- "each mark rule .. in order", "No such cell: next rule."
module _ (cs : List Cell) (raw : List ℕ) (t : ℕ) where
  -- a rule "ending in t .. whose last occurrence in the lowered raw string has none of a e i o u y after it"
  pub record Applies (r : MarkRule) : Type 0 where
    pub key : r.key ≡ t
    pub active : active raw r.first r.key ≡ true

  -- none of these rules has such a cell
  abbrev pub NoneOf : List MarkRule → Type 0
  NoneOf [] = Unit
  NoneOf (r ∷ rs) = (Applies r → NoCell (has_mark r.result) cs (length cs)) × NoneOf rs

  pub record FirstRule (rs : List MarkRule) (u : Option Undoing) : Type 0 where
    pub before : List MarkRule
    pub rule : MarkRule
    pub after : List MarkRule
    pub cell : ℕ
    pub split : rs ≡ before ++ (rule ∷ after)
    pub none : NoneOf before
    pub applies : Applies rule
    pub last : LastCell (has_mark rule.result) cs (length cs) cell
    pub undoes : u ≡ Some (Mark cell rule)

  rule_is : (r : MarkRule) (i : ℕ) → rule_at cs raw t r ≡ Some i → Applies r × LastCell (has_mark r.result) cs (length cs) i
  unfolding rule_at
  rule_is r i e = go (eqb r.key t) refl (active raw r.first r.key) refl e
    where
      go : (a : Bool) → eqb r.key t ≡ a → (b : Bool) → active raw r.first r.key ≡ b
          → pick a (pick b (last_with (has_mark r.result) cs (length cs)) None) None ≡ Some i
          → Applies r × LastCell (has_mark r.result) cs (length cs) i
      go true p true q f = (record { key = eqb-true r.key t p; active = q }, last_is (has_mark r.result) cs (length cs) i f)
      go true p false q f = let z : ◌≡◌ {A = ℕ} 0 1 = cc in absurd (omega arith)
      go false p b q f = let z : ◌≡◌ {A = ℕ} 0 1 = cc in absurd (omega arith)

  rule_none : (r : MarkRule) → rule_at cs raw t r ≡ None → Applies r → NoCell (has_mark r.result) cs (length cs)
  unfolding rule_at
  rule_none r e a = last_none (has_mark r.result) cs (length cs) (rw (eq-eqb r.key t a.key, a.active) at e)

  -- no rule has one and nothing is undone, or the first that has one is
  pub first_rule : (rs : List MarkRule) → (NoneOf rs × (by_rules cs raw t rs ≡ None)) ⊎ FirstRule rs (by_rules cs raw t rs)
  unfolding by_rules
  first_rule [] = inl (tt, refl)
  first_rule (r ∷ rs) = go (rule_at cs raw t r) refl (first_rule rs)
    where
      go : (p : Option ℕ) → rule_at cs raw t r ≡ p → (NoneOf rs × (by_rules cs raw t rs ≡ None)) ⊎ FirstRule rs (by_rules cs raw t rs)
          → (NoneOf (r ∷ rs) × (place_or p (λ i. Some (Mark i r)) (by_rules cs raw t rs) ≡ None))
          ⊎ FirstRule (r ∷ rs) (place_or p (λ i. Some (Mark i r)) (by_rules cs raw t rs))
      go (Some i) e f =
          let h = rule_is r i e in
          inr (record { before = []; rule = r; after = rs; cell = i; split = refl; none = tt; applies = h.0; last = h.1; undoes = refl })
      go None e (inl f) = inl ((rule_none r e, f.0), f.1)
      go None e (inr f) =
          inr (record {
            before = r ∷ f.before;
            rule = f.rule;
            after = f.after;
            cell = f.cell;
            split = ap (λ (l : List MarkRule). r ∷ l) f.split;
            none = (rule_none r e, f.none);
            applies = f.applies;
            last = f.last;
            undoes = f.undoes;
          })

-- ---- the whole paragraph: the last cell with the tone, where the raw string ends in t; "otherwise" the first rule that has a
-- cell; and nothing where there is neither
abbrev pub NoTone : List Cell → List ℕ → ℕ → Type 0
NoTone cs raw t = ends_in raw t ≡ true → NoCell (has_tone t) cs (length cs)

pub data Finds (cs : List Cell) (raw : List ℕ) (t : ℕ) : Option Undoing → Type 0 where
  tone : (i : ℕ) → ends_in raw t ≡ true → LastCell (has_tone t) cs (length cs) i → Finds cs raw t (Some (Tone i))
  mark : (u : Option Undoing) → NoTone cs raw t → FirstRule cs raw t (mark_rules Telex) u → Finds cs raw t u
  nothing : NoTone cs raw t → NoneOf cs raw t (mark_rules Telex) → Finds cs raw t None

module _ (cs : List Cell) (raw : List ℕ) (t : ℕ) where
  rules_find : NoTone cs raw t → Finds cs raw t (by_rules cs raw t (mark_rules Telex))
  rules_find n = go (by_rules cs raw t (mark_rules Telex)) (first_rule cs raw t (mark_rules Telex))
    where
      go : (u : Option Undoing) → (NoneOf cs raw t (mark_rules Telex) × (u ≡ None)) ⊎ FirstRule cs raw t (mark_rules Telex) u → Finds cs raw t u
      go u (inl f) = rw f.1 (nothing n f.0)
      go u (inr f) = mark u n f

  pub undo_finds : Finds cs raw t (to_undo Telex cs raw t)
  unfolding to_undo tone_at
  undo_finds = go (ends_in raw t) refl (last_with (has_tone t) cs (length cs)) refl
    where
      go : (b : Bool) → ends_in raw t ≡ b → (p : Option ℕ) → last_with (has_tone t) cs (length cs) ≡ p
          → Finds cs raw t (place_or (pick b p None) (λ i. Some (Tone i)) (by_rules cs raw t (mark_rules Telex)))
      go true e (Some i) f = tone i e (last_is (has_tone t) cs (length cs) i f)
      go true e None f = rules_find (λ q. last_none (has_tone t) cs (length cs) f)
      go false e p f = rules_find (λ q. let z : ◌≡◌ {A = ℕ} 0 1 = cc in absurd (omega arith))
