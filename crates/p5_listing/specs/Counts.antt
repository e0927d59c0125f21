-- How many words are listed, and of which kinds.
use Rattle.std.specs.Prelude.{ℕ, Bool, true, false, T}
use Rattle.p0_choice.specs.Choice.{pick}
use Rattle.p4_rows.specs.Rows.{Word}
use Rattle.p4_rows.specs.Lookup.{is_empty}
use Rattle.p4_spelling.specs.Cut.{onset_of, vowels_of}
use Rattle.p4_spelling.specs.Verdict.{longest_length}
use Rattle.p5_trie.specs.Numbering.{Many, Longest}
use Rattle.p5_listing.specs.Listed.{Listed}

-- "By our count 5,963 toneless words pass"
abbrev pub word_count : ℕ
word_count = 5963

-- ".. 25 bare onsets, 217 without onset, 5,721 with onset and vowels."
unfoldable pub is_bare_onset : Word → Bool
is_bare_onset u = is_empty (vowels_of u)

unfoldable pub is_without_onset : Word → Bool
is_without_onset u = is_empty (onset_of u)

unfoldable pub has_both : Word → Bool
has_both u = pick (is_bare_onset u) false (pick (is_without_onset u) false true)

-- so many listed words pass a test
abbrev pub ManyListed : (Word → Bool) → ℕ → Type 0
ManyListed f n = Many (λ (u : Word). Listed u × T (f u)) n

pub record Counts : Type 0 where
  pub all : Many Listed word_count
  pub bare : ManyListed is_bare_onset 25
  pub without : ManyListed is_without_onset 217
  pub both : ManyListed has_both 5721
  -- "The longest has 8 letters."
  pub longest : Longest Listed longest_length
