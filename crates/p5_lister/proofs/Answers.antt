-- What `word_number` and `next_word` answer, and leave in the output, is what they have to write, from what the calls in
-- them answer.
use Rattle.std.specs.Prelude.{Err, Ok, Result}
use Rattle.p0_refusals.specs.declared.Refusal.{Refusal}
use Prim.Native.Nat.{ℕ, ◌≤◌, ◌<◌}
use mathlib.Core.Path.{◌≡◌, refl, sym, ◌∙◌}
use mathlib.Core.Bool.{Bool, false}
use mathlib.Core.List.{List, ◌++◌}
use native.Mathlib.Omega.{arith}
use lib.ListN.{length, take, drop}
use lib.Seq.{length-take-le}
use Rattle.p0_refusals.specs.Limits.{letter_limit}
use Rattle.p0_refusals.specs.declared.Refusal.TheVariants.{Foreign, Short, Long, NoWord}
use Rattle.p0_refusals.specs.Answers.{Outcome, writes, refuses, answer, output}
use Rattle.p0_refusals.proofs.Answers.{refuses_answer, refuses_output, short_answer, short_output, writes_answer, writes_output}
use Rattle.p1_letters.specs.Alphabet.{all_letters}
use Rattle.p4_rows.specs.Rows.{Word}
use Rattle.p5_trie.specs.Mirror.{Trie, trie_size, nth, up_to}
use Rattle.p5_trie.proofs.Numbering as Tries
use Rattle.p4_spelling.specs.Verdict.{longest_length}
use Rattle.p5_lister.specs.Meaning.{NumberMeans, word, none, Permitted, NextMeans, long, foreign, last, next}

-- answer and output are those of something that means what is asked
abbrev pub Answers : (Outcome → Type 0) → List ℕ → Result ℕ Refusal → List ℕ → Type 0
Answers Means o r out = (u : Outcome) × Means u × (r ≡ answer u (length o)) × (out ≡ output u o)

-- ---- give: the first len letters of l, with room for them or not
module _ (o l : List ℕ) (len : ℕ) (eight : length l ≡ longest_length) (small : len ≤ longest_length) (r : Result ℕ Refusal) (out : List ℕ) where
  long_as : length (take len l) ≡ len
  long_as = length-take-le len l (omega arith)

  pub no_room : length o < len → r ≡ Err Short → out ≡ o
      → (r ≡ answer (writes (take len l)) (length o)) × (out ≡ output (writes (take len l)) o)
  no_room s e f = (e ∙ short_answer _ _ refl (length o) (rw long_as s), f ∙ short_output _ _ refl o (rw long_as s))

  pub with_room : len ≤ length o → r ≡ Ok len → out ≡ take len l ++ drop len o
      → (r ≡ answer (writes (take len l)) (length o)) × (out ≡ output (writes (take len l)) o)
  with_room s d e = (
    d ∙ writes_answer _ _ refl (length o) len (rw long_as s) (sym long_as),
    writes_output _ _ refl o out (rw long_as s) (rw long_as e),
  )

-- ---- the words of P in the trie t; w is what is given
module _ {P : Word → Type 0} {t : Trie} (l : Tries.Lists P t) (o : List ℕ) (r : Result ℕ Refusal) (out : List ℕ) where
  -- word_number
  module _ (n : ℕ) where
    pub beyond : trie_size t ≤ n → r ≡ Err NoWord → out ≡ o → Answers (NumberMeans P n) o r out
    beyond h e f = (
      refuses NoWord,
      none (record { total = trie_size t; many = Tries.many l (trie_size t) refl; past = h }) refl,
      e ∙ refuses_answer _ _ refl (length o),
      f ∙ refuses_output _ _ refl o,
    )

    pub numbered : n < trie_size t → (w : Word) → w ≡ nth t n → r ≡ answer (writes w) (length o) → out ≡ output (writes w) o
        → Answers (NumberMeans P n) o r out
    numbered h w q e f = (
      writes w,
      word w (record { order = nth t; total = trie_size t; numbers = Tries.numbering l; small = h; is = sym q }) refl,
      e,
      f,
    )

  -- next_word, after the permitted word v
  module _ (v : Word) (p : Permitted v) where
    pub none_follows : trie_size t ≤ up_to t v → r ≡ Err NoWord → out ≡ o → Answers (NextMeans P v) o r out
    none_follows h e f = (
      refuses NoWord,
      last p (Tries.last l v h) refl,
      e ∙ refuses_answer _ _ refl (length o),
      f ∙ refuses_output _ _ refl o,
    )

    pub follows : up_to t v < trie_size t → (w : Word) → w ≡ nth t (up_to t v) → r ≡ answer (writes w) (length o)
        → out ≡ output (writes w) o → Answers (NextMeans P v) o r out
    follows h w q e f = (writes w, next w p (rw q (Tries.follows l v h)) refl, e, f)

-- ---- next_word, after a word that is not permitted
module _ {P : Word → Type 0} (w : Word) (o : List ℕ) where
  pub too_long : letter_limit < length w → (r : Result ℕ Refusal) (out : List ℕ) → r ≡ Err Long → out ≡ o → Answers (NextMeans P w) o r out
  too_long h r out e f = (refuses Long, long h refl, e ∙ refuses_answer _ _ refl (length o), f ∙ refuses_output _ _ refl o)

  module _ (b : Bool) (l : length w ≤ letter_limit) (e : b ≡ all_letters w) where
    pub not_letters : b ≡ false → (r : Result ℕ Refusal) (out : List ℕ) → r ≡ Err Foreign → out ≡ o → Answers (NextMeans P w) o r out
    not_letters n r out d f = (
      refuses Foreign,
      foreign (omega arith) (sym e ∙ n) refl,
      d ∙ refuses_answer _ _ refl (length o),
      f ∙ refuses_output _ _ refl o,
    )
