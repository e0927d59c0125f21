-- The walk that spells: len letters are written, and the rest of the word v is number k of node e's trie.
use Prim.Native.Nat.{ℕ, ◌+◌, ◌-◌, ◌≤◌, ◌<◌}
use mathlib.Core.Path.{◌≡◌, sym, ap, ◌∙◌}
use mathlib.Core.Logic.{⊎_elim}
use mathlib.Core.List.{List, [], ◌∷◌, ◌++◌, append_assoc}
use native.Mathlib.Omega.{arith}
use native.Mathlib.Numerals.{add-one}
use lib.ListN.{length, take, set, length-set}
use lib.Seq.{take-suc-set}
use Rattle.p0_choice.proofs.Numbers.{below_or_not}
use Rattle.p5_trie.specs.Mirror.{Trie, one, trie_size, nth, Table, trie_at}
use Rattle.p5_trie.proofs.Tests.{depth}
use Rattle.p5_trie.proofs.Words.{nth_end, nth_into, size_none}
use Rattle.p5_trie.proofs.Table.{Sound, opens, at_none, depth_at}
use Rattle.p5_trie.proofs.Scan.{Passed}

pub record Spell (t : Table) (limit : ℕ) (v out : List ℕ) (len e k : ℕ) : Type 0 where
  pub small : e ≤ t.count
  pub few : k < trie_size (trie_at t e)
  pub room : len + depth (trie_at t e) ≤ limit
  pub long : length out ≡ limit
  pub is : take len out ++ nth (trie_at t e) k ≡ v

module _ {t : Table} {limit : ℕ} {v out : List ℕ} {len e k : ℕ} (q : Spell t limit v out len e k) where
  -- a scan from there stops at node b
  module _ (s : Sound t) {y b rest : ℕ} (p : Passed t e y k b rest) where
    few_there : rest < trie_size (trie_at t b)
    few_there = omega (arith, q.few, p.size_is, p.fits)

    pub inside : b < t.count
    inside =
        ⊎_elim (λ (h : b < t.count). h)
        (λ (h : t.count ≤ b). absurd (omega (arith, few_there, ap trie_size (at_none t b h), size_none))) (below_or_not b t.count)

    pub has_room : len < limit
    has_room = omega (arith, q.room, p.depth_is, depth_at t s b inside)

    written : (x : ℕ) → take (len + 1) (set out len x) ≡ take len out ++ (x ∷ [])
    written x = rw (add-one len) (take-suc-set out len x (omega (arith, q.long, has_room)))

    rest_is : take len out ++ nth (trie_at t b) rest ≡ v
    rest_is = ap (λ (u : List ℕ). take len out ++ u) (sym p.nth_is) ∙ q.is

    module _ (x a : ℕ) (ex : x ≡ (t.at b).letter) (ea : a ≡ one (t.at b).ends) where
      pub ended : rest < a → take (len + 1) (set out len x) ≡ v
      ended l =
          written x ∙ ap (λ (z : ℕ). take len out ++ (z ∷ [])) ex
          ∙ ap (λ (u : List ℕ). take len out ++ u)
          (sym (ap (λ (u : Trie). nth u rest) (opens t s b inside)
          ∙ nth_end (t.at b).letter (t.at b).ends (trie_at t (t.at b).down) (trie_at t (t.at b).next) rest (omega arith)))
          ∙ rest_is

      pub went_down : (d : ℕ) → d ≡ (t.at b).down → rest < (t.at b).words → a ≤ rest
          → Spell t limit v (set out len x) (len + 1) d (rest - a)
      went_down d ed m l = record {
        small = rw ed (s b inside).down_within;
        few = rw ed (omega (arith, (s b inside).words_are));
        room = rw ed (omega (arith, q.room, p.depth_is, depth_at t s b inside));
        long = length-set out len x ∙ q.long;
        is =
            rw (written x, ed, ea, ex, append_assoc)
            (ap (λ (u : List ℕ). take len out ++ u)
            (sym (ap (λ (u : Trie). nth u rest) (opens t s b inside)
            ∙ nth_into (t.at b).letter (t.at b).ends (trie_at t (t.at b).down) (trie_at t (t.at b).next) rest (omega arith)
            (omega (arith, (s b inside).words_are))))
            ∙ rest_is);
      }
