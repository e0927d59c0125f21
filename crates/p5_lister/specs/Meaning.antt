-- What the lister's calls have to write, by demand 3 and with no table: P is what it is to be listed.
use Rattle.std.specs.Prelude.{ℕ, ◌≤◌, ◌<◌, ◌≡◌, true, false, length}
use Rattle.p0_refusals.specs.Limits.{letter_limit}
use Rattle.p0_refusals.specs.declared.Refusal.TheVariants.{Foreign, Long, NoWord}
use Rattle.p0_refusals.specs.Answers.{Outcome, writes, refuses}
use Rattle.p1_letters.specs.Alphabet.{all_letters}
use Rattle.p4_rows.specs.Rows.{Word}
use Rattle.p5_trie.specs.Numbering.{Named, Unnamed, Follows, Last}

-- "Numbers 0 to 5,962 name them; 5,963 and up give 7."
pub data NumberMeans (P : Word → Type 0) (n : ℕ) (u : Outcome) : Type 0 where
  word : (r : Word) → Named P n r → u ≡ writes r → NumberMeans P n u
  none : Unnamed P n → u ≡ refuses NoWord → NumberMeans P n u

-- "any word of the alphabet up to 64 letters"
abbrev pub Permitted : Word → Type 0
Permitted w = (length w ≤ letter_limit) × (all_letters w ≡ true)

-- "Asked for the next listed word after any permitted word .. it refuses exactly if no listed word follows"; 6 and 1 for a
-- word that is not permitted
pub data NextMeans (P : Word → Type 0) (w : Word) (u : Outcome) : Type 0 where
  long : letter_limit < length w → u ≡ refuses Long → NextMeans P w u
  foreign : length w ≤ letter_limit → all_letters w ≡ false → u ≡ refuses Foreign → NextMeans P w u
  last : Permitted w → Last P w → u ≡ refuses NoWord → NextMeans P w u
  next : (r : Word) → Permitted w → Follows P w r → u ≡ writes r → NextMeans P w u
