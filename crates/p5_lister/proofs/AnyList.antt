-- Demand 3 of any list: P is what it is to be listed. proofs/Demand3.antt has the sentence of each law.
use Rattle.std.specs.Prelude.{Err, Ok, Result}
use Prim.Native.Nat.{ℕ, suc, ◌≤◌, ◌<◌}
use mathlib.Core.Path.{◌≡◌, refl, sym, ap, ◌∙◌, subst}
use mathlib.Core.List.{List}
use native.Mathlib.Omega.{arith}
use lib.ListN.{length}
use Rattle.p0_refusals.specs.declared.Refusal.{Refusal}
use Rattle.p0_refusals.specs.declared.Refusal.TheVariants.{Foreign, Short, Long, NoWord}
use Rattle.p0_refusals.specs.Refusals.{number_of}
use Rattle.p0_refusals.specs.Answers.{Outcome, writes, refuses, answer, onto}
use Rattle.p0_refusals.proofs.Answers.{refuses_answer, refuses_output, writes_answer, writes_output}
use Rattle.p4_rows.specs.Rows.{Word}
use Rattle.p5_trie.specs.Order.{Before}
use Rattle.p5_trie.specs.Numbering.{Many, Named, Follows, Last}
use Rattle.p5_trie.proofs.Unique.{has_name, name_has, one_name, names_ascend, no_name_between}
use Rattle.p5_lister.specs.Meaning.{NumberMeans, word, none, Permitted, NextMeans, long, foreign, last, next}
use Rattle.p5_lister.proofs.Meaning.{one_next_outcome, never_both}
use Rattle.p5_lister.proofs.Answers.{Answers}

module _ (P : Word → Type 0) where
  -- ---- the lister gives a word for a number exactly if the word has it
  pub gives : (n : ℕ) (u : Word) → Named P n u → NumberMeans P n (writes u)
  gives n u a = word u a refl

  pub given : (n : ℕ) (u : Word) → NumberMeans P n (writes u) → Named P n u
  given n u (word r a e) = let k : r ≡ u = cc in subst (Named P n) k a
  given n u (none a e) = absurd (let z : ◌≡◌ {A = ℕ} 0 1 = cc in omega arith)

  pub names_no_other : (n : ℕ) (u : Word) → NumberMeans P n (writes u) → P u
  names_no_other n u a = name_has n u (given n u a)

  pub each_once : (m n : ℕ) (u : Word) → NumberMeans P m (writes u) → NumberMeans P n (writes u) → m ≡ n
  each_once m n u a b = one_name m n u u (given m u a) (given n u b) refl

  pub in_order : (m n : ℕ) (u v : Word) → m < n → NumberMeans P m (writes u) → NumberMeans P n (writes v) → Before u v
  in_order m n u v l a b = names_ascend m n u v (given m u a) (given n v b) l

  pub none_between : (n : ℕ) (u v x : Word) → NumberMeans P n (writes u) → NumberMeans P (suc n) (writes v)
      → P x → Before u x → Before x v → ⊥
  none_between n u v x a b = no_name_between n (suc n) u v (given n u a) (given (suc n) v b) refl x

  -- ---- so many words are listed
  module _ (total : ℕ) (many : Many P total) where
    pub numbers_name : (n : ℕ) → n < total → (u : Word) × NumberMeans P n (writes u)
    numbers_name n h =
        let f : ℕ → Word = many.0 in
        (f n, gives n (f n) (record { order = f; total = total; numbers = many.1; small = h; is = refl }))

    pub numbers_end : (n : ℕ) → total ≤ n → NumberMeans P n (refuses NoWord)
    numbers_end n h = none (record { total = total; many = many; past = h }) refl

    pub names_every : (u : Word) → P u → (n : ℕ) × NumberMeans P n (writes u)
    names_every u l = let r : (n : ℕ) × Named P n u = has_name total many u l in (r.0, gives r.0 u r.1)

  -- ---- the next word
  module _ (w : Word) (p : Permitted w) (o : List ℕ) (a : Result ℕ Refusal) (out : List ℕ) (g : Answers (NextMeans P w) o a out) where
    pub next_stands : (r : Word) → Follows P w r → length r ≤ length o → (a ≡ Ok (length r)) × (out ≡ onto r o)
    next_stands r f h =
        let e : g.0 ≡ writes r = one_next_outcome w g.0 (writes r) g.1 (next r p f refl) in (
          g.2 ∙ sym (writes_answer g.0 r e (length o) (length r) h refl),
          g.3 ∙ sym (writes_output g.0 r e o (onto r o) h refl),
        )

    pub refuses_if_last : Last P w → (a ≡ Err NoWord) × (out ≡ o)
    refuses_if_last l =
        let e : g.0 ≡ refuses NoWord = one_next_outcome w g.0 (refuses NoWord) g.1 (last p l refl) in (
          g.2 ∙ sym (refuses_answer g.0 NoWord e (length o)),
          g.3 ∙ sym (refuses_output g.0 NoWord e o),
        )

    pub refuses_only_if_last : ((r : Word) → Follows P w r → length r ≤ length o) → (x : Refusal) → a ≡ Err x → Last P w
    refuses_only_if_last room x e = go g.1
      where
        go : NextMeans P w g.0 → Last P w
        go (long h f) = absurd (omega arith)
        go (foreign h b f) = absurd (never_both w p.1 b)
        go (last q l f) = l
        go (next r q f k) =
            let d : a ≡ Ok (length r) = (next_stands r f (room r f)).0 in
            absurd (let z : ◌≡◌ {A = ℕ} 0 1 = cc in omega arith)

-- ---- a refusal by 3 is of a word longer than the output
module _ (u : Outcome) (o : List ℕ) (a : Result ℕ Refusal) (g : a ≡ answer u (length o)) (e : a ≡ Err Short) where
  not_word : (r : Word) → length r ≤ length o → u ≡ writes r → ⊥
  not_word r h q =
      let d : Ok (length r) ≡ answer u (length o) = writes_answer u r q (length o) (length r) h refl in
      let z : ◌≡◌ {A = ℕ} 0 1 = cc in
      omega arith

  is_three : (x : Refusal) → u ≡ refuses x → number_of x ≡ 3
  is_three x q =
      let d : Err x ≡ answer u (length o) = refuses_answer u x q (length o) in
      let k : x ≡ Short = cc in
      ap number_of k

-- no listed word has more letters than `most`, and the output has room for as many
module _ (P : Word → Type 0) (most : ℕ) (within : (u : Word) → P u → length u ≤ most)
    (o : List ℕ) (a : Result ℕ Refusal) (out : List ℕ) (room : most ≤ length o) (e : a ≡ Err Short) where
  fits : (u : Word) → P u → length u ≤ length o
  fits u l = omega (arith, within u l)

  pub number_has_room : (n : ℕ) → Answers (NumberMeans P n) o a out → ⊥
  number_has_room n g = go g.1
    where
      go : NumberMeans P n g.0 → ⊥
      go (word r p q) = not_word g.0 o a g.2 e r (fits r (name_has n r p)) q
      go (none p q) = omega (arith, is_three g.0 o a g.2 e NoWord q)

  pub next_has_room : (w : Word) → Answers (NextMeans P w) o a out → ⊥
  next_has_room w g = go g.1
    where
      go : NextMeans P w g.0 → ⊥
      go (long h q) = omega (arith, is_three g.0 o a g.2 e Long q)
      go (foreign h b q) = omega (arith, is_three g.0 o a g.2 e Foreign q)
      go (last p l q) = omega (arith, is_three g.0 o a g.2 e NoWord q)
      go (next r p f q) = not_word g.0 o a g.2 e r (fits r f.has) q
