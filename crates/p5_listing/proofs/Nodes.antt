-- The table is sound, its letters are plain, and an entry says what its node is.
use Prim.Native.Nat.{ℕ, zero, suc, ◌+◌, ◌-◌, ◌/◌, ◌%◌, ◌≤◌, ◌<◌}
use mathlib.Core.Path.{◌≡◌, refl, sym, ap, ◌∙◌, subst}
use mathlib.Core.Bool.{Bool, true, false, ◌&&◌}
use mathlib.Core.Logic.{⊎_elim}
use native.Mathlib.Omega.{arith}
use lib.Dec.{T, eqb, ltb, leb, eqb→eq, ltb→lt, leb→le}
use mir.Facts.{and_yes}
use native.Mathlib.Numerals.{add-one}
use borrow.Author.Tests.{eq-eqb, ne_eqb, eqb-true, eqb-false}
use Rattle.p0_choice.specs.Text.{word}
use Rattle.p0_choice.proofs.Numbers.{below_or_not}
use Rattle.p0_choice.proofs.Tables.{each_count}
use Rattle.p1_letters.specs.Alphabet.{lower, is_ascii_capital, small_by32, small_by1, small_high, small_next}
use Rattle.p1_letters.specs.Tones.{tone_off, off_in, tone_rows}
use Rattle.p4_spelling.proofs.Letters.{plain_letter}
use Rattle.p5_trie.specs.Mirror.{one, trie_size, grow, trie_at}
use Rattle.p5_trie.proofs.Words.{Letters}
use Rattle.p5_trie.proofs.Table.{SoundAt, Sound, opens, at_none}
use Rattle.p5_listing.specs.Mirror.{node_count, root_node, entries, entry_at, letter_in, down_in, words_in, end_in, last_in, next_to, node_in}
use Rattle.p5_listing.specs.Mirror.{nodes, listing}

-- a node leads down to a higher one or to none, it counts the words through it, of which there are some, and its letter is
-- plain and below the number that a walk for no letter asks for
right_in : ℕ → ℕ → Bool
right_in e t =
    (ltb e (down_in t) && leb (down_in t) node_count)
    && ((eqb (words_in t) (one (eqb (end_in t) 1) + trie_size (trie_at nodes (down_in t))) && ltb 0 (words_in t))
    && (eqb (plain_letter (letter_in t)) (letter_in t) && ltb (letter_in t) 4294967295))

right : ℕ → Bool
right e = right_in e (entry_at e)

all_right : (e : ℕ) → e < node_count → right e ≡ true
unfolding right right_in trie_size trie_at grow nodes node_in next_to entry_at entries plain_letter word lower
    is_ascii_capital small_by32 small_by1 small_high small_next tone_off off_in tone_rows
all_right e h = each_count right node_count 0 tt e (omega arith) h

next_rises : (e t : ℕ) → e < node_count → (e < next_to e t) × (next_to e t ≤ node_count)
unfolding next_to
next_rises e t h = go (eqb (last_in t) 1)
  where
    go : (b : Bool) → (e < elim b [ true ↦ node_count | false ↦ suc e ]) × (elim b [ true ↦ node_count | false ↦ suc e ] ≤ node_count)
    go true = (h, omega arith)
    go false = (omega arith, omega arith)

module _ (e : ℕ) (h : e < node_count) where
  t : ℕ
  t = entry_at e

  D : Bool
  D = ltb e (down_in t)

  M : Bool
  M = leb (down_in t) node_count

  W : Bool
  W = eqb (words_in t) (one (eqb (end_in t) 1) + trie_size (trie_at nodes (down_in t)))

  L : Bool
  L = ltb 0 (words_in t)

  P : Bool
  P = eqb (plain_letter (letter_in t)) (letter_in t)

  S : Bool
  S = ltb (letter_in t) 4294967295

  passed : T ((D && M) && ((W && L) && (P && S)))
  unfolding right right_in D M W L P S t
  passed = rw (all_right e h) tt

  falls : T D × T M
  falls = and_yes D M (and_yes (D && M) ((W && L) && (P && S)) passed).0

  others : T (W && L) × T (P && S)
  others = and_yes (W && L) (P && S) (and_yes (D && M) ((W && L) && (P && S)) passed).1

  counts : T W × T L
  counts = and_yes W L others.0

  sound_at : SoundAt nodes e
  unfolding nodes node_in D M W L t
  sound_at = record {
    down_rises = ltb→lt e (down_in (entry_at e)) falls.0;
    down_within = leb→le (down_in (entry_at e)) node_count falls.1;
    next_rises = (next_rises e (entry_at e) h).0;
    next_within = (next_rises e (entry_at e) h).1;
    words_are = eqb→eq (words_in (entry_at e)) (one (eqb (end_in (entry_at e)) 1) + trie_size (trie_at nodes (down_in (entry_at e)))) counts.0;
    live = ltb→lt 0 (words_in (entry_at e)) counts.1;
  }

  plain_at_lem : T (eqb (plain_letter (nodes.at e).letter) (nodes.at e).letter)
  unfolding nodes node_in P t
  plain_at_lem = (and_yes P S others.1).0

  pub letter_low : (nodes.at e).letter < 4294967295
  unfolding nodes node_in S t
  letter_low = ltb→lt (letter_in (entry_at e)) 4294967295 (and_yes P S others.1).1

pub count_is : nodes.count ≡ node_count
unfolding nodes
count_is = refl

pub sound : Sound nodes
sound e h = sound_at e (rw (← count_is) h)

-- the letters of the words are their own lower-case toneless forms
plain_from : (k e : ℕ) → node_count ≤ k + e → Letters (λ (x : ℕ). eqb (plain_letter x) x) (trie_at nodes e)
plain_from zero e h =
    subst (Letters (λ (x : ℕ). eqb (plain_letter x) x)) (sym (at_none nodes e (omega (arith, count_is)))) tt
plain_from (suc k) e h =
    ⊎_elim
    (λ (l : e < node_count).
    let i : e < nodes.count = rw count_is l in
    subst (Letters (λ (x : ℕ). eqb (plain_letter x) x)) (sym (opens nodes sound e i)) (
      plain_at_lem e l,
      (
        plain_from k (nodes.at e).down (omega (arith, (sound e i).down_rises)),
        plain_from k (nodes.at e).next (omega (arith, (sound e i).next_rises)),
      ),
    ))
    (λ (l : node_count ≤ e). subst (Letters (λ (x : ℕ). eqb (plain_letter x) x)) (sym (at_none nodes e (omega (arith, count_is)))) tt)
    (below_or_not e node_count)

pub listing_plain : Letters (λ (x : ℕ). eqb (plain_letter x) x) listing
unfolding listing
listing_plain = plain_from node_count root_node (omega arith)

pub root : trie_at nodes root_node ≡ listing
unfolding listing
root = refl

-- ---- what an entry says of its node
bit : (n : ℕ) → n % 2 ≡ one (eqb (n % 2) 1)
bit n = go (eqb (n % 2) 1) refl
  where
    go : (b : Bool) → eqb (n % 2) 1 ≡ b → n % 2 ≡ one b
    go true q = eqb-true (n % 2) 1 q
    go false q = let d : (n % 2 ≡ 1 → ⊥) = eqb-false (n % 2) 1 q in omega arith

-- the last node of the table is the last of its row
end_last : last_in (entry_at (node_count - 1)) ≡ 1
unfolding entry_at entries
end_last = refl

module _ (e t : ℕ) (r : t ≡ entry_at e) where
  pub letter_is : letter_in t ≡ (nodes.at e).letter
  unfolding nodes node_in
  letter_is = ap letter_in r

  pub words_is : words_in t ≡ (nodes.at e).words
  unfolding nodes node_in
  words_is = ap words_in r

  pub down_is : down_in t ≡ (nodes.at e).down
  unfolding nodes node_in
  down_is = ap down_in r

  pub end_is : end_in t ≡ one (nodes.at e).ends
  unfolding nodes node_in
  end_is = bit (t / 2) ∙ ap (λ (n : ℕ). one (eqb (end_in n) 1)) r

  pub next_none : last_in t ≡ 1 → node_count ≡ (nodes.at e).next
  unfolding nodes node_in next_to
  next_none h = rw (eq-eqb (last_in (entry_at e)) 1 (sym (ap last_in r) ∙ h), next_to) refl

  module _ (h : last_in t ≡ 1 → ⊥) where
    pub next_on : e + 1 ≡ (nodes.at e).next
    unfolding nodes node_in next_to
    next_on =
        add-one e ∙ rw (ne_eqb (last_in (entry_at e)) 1 (λ (z : last_in (entry_at e) ≡ 1). h (ap last_in r ∙ z)), next_to) refl

    pub next_some : e < node_count → e + 1 < node_count
    next_some l =
        ⊎_elim (λ (k : e + 1 < node_count). k)
        (λ (k : node_count ≤ e + 1).
        absurd (h (ap last_in (r ∙ ap entry_at (omega arith)) ∙ end_last)))
        (below_or_not (e + 1) node_count)
