-- What is found to be undone stands among the cells, and the letter that a rule gives back is one of the alphabet, small
-- or capital.
use Rattle.std.specs.Prelude.{None, Option, Some}
use Prim.Native.Nat.{ℕ, zero, suc, ◌<◌}
use mathlib.Core.Path.{◌≡◌, refl}
use mathlib.Core.Bool.{Bool, true, false}
use mathlib.Core.List.{List, [], ◌∷◌}
use native.Mathlib.Omega.{arith}
use lib.Dec.{T, eqb}
use lib.ListN.{length, get_or}
use Rattle.p0_choice.specs.Choice.{pick, each}
use Rattle.p0_choice.specs.Text.{word}
use Rattle.p0_choice.proofs.Tables.{pick_first, pick_second}
use Rattle.p1_letters.specs.Alphabet.{in_alphabet, ascii_upper}
use Rattle.p2_input_method.specs.Rules.{mark_rule, mark_rules}
use Rattle.p2_input_method.specs.declared.InputMethod.{InputMethod}
use Rattle.p2_input_method.specs.declared.InputMethod.TheVariants.{Telex, Vni}
use Rattle.p2_input_method.specs.declared.MarkRule.{MarkRule}
use Rattle.p3_cells.specs.Cells.{limit, blank, is_sound, used}
use Rattle.p3_cells.specs.Place.{place_or}
use Rattle.p3_cells.specs.declared.Cell.{Cell}
use Rattle.p3_cells.specs.declared.Composition.{Composition}
use Rattle.p3_cells.proofs.Holding.{count_fits, used_length}
use Rattle.p3_undo.specs.Raw.{ends_in, active}
use Rattle.p3_undo.specs.Undo.{last_with, has_tone, has_mark, rule_at, by_rules, tone_at, to_undo}
use Rattle.p3_undo.specs.declared.Undoing.{Undoing}
use Rattle.p3_undo.specs.declared.Undoing.TheVariants.{Tone, Mark}

-- the test of a letter that a rule gives back
abbrev pub gives : ℕ → Bool
gives a = pick (in_alphabet a) (in_alphabet (ascii_upper a)) false

-- among n cells
abbrev pub Fine : ℕ → Option Undoing → Type 0
Fine n None = Unit
Fine n (Some (Tone i)) = i < n
Fine n (Some (Mark i r)) = (i < n) × (gives r.first ≡ true)

below : (p : Cell → Bool) (cs : List Cell) (n j : ℕ) → last_with p cs n ≡ Some j → j < n
unfolding last_with
below p cs zero j e = let z : ◌≡◌ {A = ℕ} 0 1 = cc in absurd (omega arith)
below p cs (suc n) j e = go (p (get_or cs n blank)) e (λ q. below p cs n j q)
  where
    go : (b : Bool) → pick b (Some n) (last_with p cs n) ≡ Some j → (last_with p cs n ≡ Some j → j < n) → j < suc n
    go true q f = let z : n ≡ j = cc in omega arith
    go false q f = omega (arith, f q)

place_below : (b : Bool) (p : Option ℕ) (n j : ℕ) → pick b p None ≡ Some j → (p ≡ Some j → j < n) → j < n
place_below true p n j e f = f e
place_below false p n j e f = let z : ◌≡◌ {A = ℕ} 0 1 = cc in absurd (omega arith)

next_fine : (n : ℕ) (p : Option ℕ) (made : ℕ → Option Undoing) (next : Option Undoing) → ((i : ℕ) → p ≡ Some i → Fine n (made i)) → Fine n next
    → Fine n (place_or p made next)
next_fine n None made next f g = g
next_fine n (Some i) made next f g = f i refl

module _ (cs : List Cell) (raw : List ℕ) (t : ℕ) where
  rule_below : (r : MarkRule) (j : ℕ) → rule_at cs raw t r ≡ Some j → j < length cs
  unfolding rule_at
  rule_below r j e =
      place_below (eqb r.key t) (pick (active raw r.first r.key) (last_with (has_mark r.result) cs (length cs)) None)
      (length cs) j e
      (λ q. place_below (active raw r.first r.key) (last_with (has_mark r.result) cs (length cs)) (length cs) j q
      (λ h. below (has_mark r.result) cs (length cs) j h))

  rules_fine : (rs : List MarkRule) → T (each (λ (r : MarkRule). gives r.first) rs) → Fine (length cs) (by_rules cs raw t rs)
  unfolding by_rules
  rules_fine [] h = tt
  rules_fine (r ∷ rs) h =
      next_fine (length cs) (rule_at cs raw t r) (λ (i : ℕ). Some (Mark i r)) (by_rules cs raw t rs)
      (λ i e. (rule_below r i e, pick_first (gives r.first) _ h)) (rules_fine rs (pick_second (gives r.first) _ h))

  tone_below : (j : ℕ) → tone_at cs raw t ≡ Some j → j < length cs
  unfolding tone_at
  tone_below j e = place_below (ends_in raw t) (last_with (has_tone t) cs (length cs)) (length cs) j e
      (λ h. below (has_tone t) cs (length cs) j h)

  telex_gives : T (each (λ (r : MarkRule). gives r.first) (mark_rules Telex))
  unfolding in_alphabet ascii_upper mark_rules mark_rule word
  telex_gives = tt

  pub undo_fine : (m : InputMethod) → Fine (length cs) (to_undo m cs raw t)
  unfolding to_undo
  undo_fine Telex =
      next_fine (length cs) (tone_at cs raw t) (λ (i : ℕ). Some (Tone i)) (by_rules cs raw t (mark_rules Telex))
      (λ i e. tone_below i e) (rules_fine (mark_rules Telex) telex_gives)
  undo_fine Vni = tt

-- ---- the places found are in use, and so in the array
module _ (c : Composition) (raw : List ℕ) (t : ℕ) (o : Option Undoing) (s : is_sound c ≡ true)
    (f : o ≡ to_undo c.settings.method (used c) raw t) where
  fine : Fine c.count o
  fine =
      let k : Fine (length (used c)) o = rw f (undo_fine (used c) raw t c.settings.method) in
      rw (used_length c s) at k

  module _ (u : Undoing) (q : o ≡ Some u) where
    pub tone_in_use : (i : ℕ) → u ≡ Tone i → i < c.count
    tone_in_use i h = rw (q, h) at fine

    pub mark_in_use : (i : ℕ) (r : MarkRule) → u ≡ Mark i r → i < c.count
    mark_in_use i r h = (rw (q, h) at fine).0

    pub tone_place_lem : (i : ℕ) → u ≡ Tone i → i < limit
    tone_place_lem i h = omega (arith, tone_in_use i h, count_fits c s)

    pub mark_place_lem : (i : ℕ) (r : MarkRule) → u ≡ Mark i r → i < limit
    mark_place_lem i r h = omega (arith, mark_in_use i r h, count_fits c s)
