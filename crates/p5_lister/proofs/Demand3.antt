-- Demand 3, clause by clause, of what the contracts say: the laws of any list, of the listed words.
-- `NumberMeans Listed n (writes u)` is that the lister gives u for the number n, and `Answers (NextMeans Listed w) o a out`
-- what the next word after w answers and leaves in the output.
use Rattle.std.specs.Prelude.{Err, Ok, Result}
use Prim.Native.Nat.{ℕ, suc, ◌≤◌, ◌<◌}
use mathlib.Core.Path.{◌≡◌}
use mathlib.Core.List.{List}
use lib.Dec.{T}
use lib.ListN.{length}
use Rattle.p0_refusals.specs.declared.Refusal.{Refusal}
use Rattle.p0_refusals.specs.declared.Refusal.TheVariants.{NoWord}
use Rattle.p0_refusals.specs.Answers.{writes, refuses, onto}
use Rattle.p4_rows.specs.Rows.{Word}
use Rattle.p4_spelling.specs.Verdict.{verdict}
use Rattle.p5_trie.specs.Order.{Before}
use Rattle.p5_trie.specs.Numbering.{Named, Follows, Last}
use Rattle.p5_listing.specs.Listed.{plain, Listed}
use Rattle.p5_listing.specs.Counts.{word_count}
use Rattle.p5_listing.proofs.Numbering.{accepted_has_number, number_is_accepted}
use Rattle.p5_listing.proofs.Counts.{counts}
use Rattle.p5_lister.specs.Meaning.{NumberMeans, Permitted, NextMeans}
use Rattle.p5_lister.proofs.Answers.{Answers}
use Rattle.p5_lister.proofs.AnyList as Any

-- "Numbers 0 to 5,962 name them; 5,963 and up give 7."
pub numbers_name : (n : ℕ) → n < word_count → (u : Word) × NumberMeans Listed n (writes u)
numbers_name = Any.numbers_name Listed word_count counts.all

pub numbers_end : (n : ℕ) → word_count ≤ n → NumberMeans Listed n (refuses NoWord)
numbers_end = Any.numbers_end Listed word_count counts.all

-- "The lister names every lower-case toneless word that demand 2's syllable rule accepts"
pub names_every : (u : Word) → Listed u → (n : ℕ) × NumberMeans Listed n (writes u)
names_every = Any.names_every Listed word_count counts.all

-- and no other
pub names_no_other : (n : ℕ) (u : Word) → NumberMeans Listed n (writes u) → Listed u
names_no_other = Any.names_no_other Listed

-- "each once"
pub each_once : (m n : ℕ) (u : Word) → NumberMeans Listed m (writes u) → NumberMeans Listed n (writes u) → m ≡ n
each_once = Any.each_once Listed

-- "in code-point dictionary order"
pub in_order : (m n : ℕ) (u v : Word) → m < n → NumberMeans Listed m (writes u) → NumberMeans Listed n (writes v) → Before u v
in_order = Any.in_order Listed

-- "with no other word between"
pub none_between : (n : ℕ) (u v x : Word) → NumberMeans Listed n (writes u) → NumberMeans Listed (suc n) (writes v)
    → Listed x → Before u x → Before x v → ⊥
none_between = Any.none_between Listed

-- ---- the next word
module _ (w : Word) (p : Permitted w) (o : List ℕ) (a : Result ℕ Refusal) (out : List ℕ) (g : Answers (NextMeans Listed w) o a out) where
  -- "the next listed word": the one that follows, and that is what stands in the output
  pub next_stands : (r : Word) → Follows Listed w r → length r ≤ length o → (a ≡ Ok (length r)) × (out ≡ onto r o)
  next_stands = Any.next_stands Listed w p o a out g

  -- "it refuses .. if no listed word follows"
  pub refuses_if_last : Last Listed w → (a ≡ Err NoWord) × (out ≡ o)
  refuses_if_last = Any.refuses_if_last Listed w p o a out g

  -- "and given room for it, it refuses exactly if": a refusal says that none follows
  pub refuses_only_if_last : ((r : Word) → Follows Listed w r → length r ≤ length o) → (x : Refusal) → a ≡ Err x → Last Listed w
  refuses_only_if_last = Any.refuses_only_if_last Listed w p o a out g

-- "A word is accepted exactly if its lower-case toneless form is listed."
pub accepted_listed : (w : Word) → T (verdict w) → (n : ℕ) × NumberMeans Listed n (writes (plain w))
accepted_listed w t =
    let r : (n : ℕ) × Named Listed n (plain w) = accepted_has_number w t in
    (r.0, Any.gives Listed r.0 (plain w) r.1)

pub listed_accepted : (w : Word) (n : ℕ) → NumberMeans Listed n (writes (plain w)) → T (verdict w)
listed_accepted w n a = number_is_accepted w n (Any.given Listed n (plain w) a)
