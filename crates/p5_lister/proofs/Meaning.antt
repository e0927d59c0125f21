-- What the lister has to write is one thing (`one_number_outcome`, `one_next_outcome`): no second answer fits its contracts,
-- and no second output.
use Prim.Native.Nat.{ℕ}
use mathlib.Core.Path.{◌≡◌, sym, ap, ◌∙◌}
use mathlib.Core.Bool.{true, false}
use native.Mathlib.Omega.{arith}
use Rattle.p0_refusals.specs.Answers.{Outcome, writes}
use Rattle.p1_letters.specs.Alphabet.{all_letters}
use Rattle.p4_rows.specs.Rows.{Word}
use Rattle.p5_trie.proofs.Unique.{one_named, named_or_not, one_follows, follows_or_last}
use Rattle.p5_lister.specs.Meaning.{NumberMeans, word, none, NextMeans, long, foreign, last, next}

pub never_both : (w : Word) → all_letters w ≡ true → all_letters w ≡ false → ⊥
never_both w a b = let z : ◌≡◌ {A = ℕ} 0 1 = cc in omega arith

module _ {P : Word → Type 0} where
  pub one_number_outcome : (n : ℕ) (u v : Outcome) → NumberMeans P n u → NumberMeans P n v → u ≡ v
  one_number_outcome n u v (word r p e) (word s q f) = e ∙ ap writes (one_named n r s p q) ∙ sym f
  one_number_outcome n u v (word r p e) (none q f) = absurd (named_or_not n r p q)
  one_number_outcome n u v (none p e) (word s q f) = absurd (named_or_not n s q p)
  one_number_outcome n u v (none p e) (none q f) = e ∙ sym f

  pub one_next_outcome : (w : Word) (u v : Outcome) → NextMeans P w u → NextMeans P w v → u ≡ v
  one_next_outcome w u v (long h e) (long k f) = e ∙ sym f
  one_next_outcome w u v (long h e) (foreign k a f) = absurd (omega arith)
  one_next_outcome w u v (long h e) (last p l f) = absurd (omega arith)
  one_next_outcome w u v (long h e) (next r p q f) = absurd (omega arith)
  one_next_outcome w u v (foreign h a e) (long k f) = absurd (omega arith)
  one_next_outcome w u v (foreign h a e) (foreign k b f) = e ∙ sym f
  one_next_outcome w u v (foreign h a e) (last p l f) = absurd (never_both w p.1 a)
  one_next_outcome w u v (foreign h a e) (next r p q f) = absurd (never_both w p.1 a)
  one_next_outcome w u v (last p l e) (long k f) = absurd (omega arith)
  one_next_outcome w u v (last p l e) (foreign k a f) = absurd (never_both w p.1 a)
  one_next_outcome w u v (last p l e) (last q m f) = e ∙ sym f
  one_next_outcome w u v (last p l e) (next r q m f) = absurd (follows_or_last w r m l)
  one_next_outcome w u v (next r p q e) (long k f) = absurd (omega arith)
  one_next_outcome w u v (next r p q e) (foreign k a f) = absurd (never_both w p.1 a)
  one_next_outcome w u v (next r p q e) (last s l f) = absurd (follows_or_last w r q l)
  one_next_outcome w u v (next r p q e) (next s m n f) = e ∙ ap writes (one_follows w r s q n) ∙ sym f
