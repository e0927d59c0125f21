-- Demand 3's words, with no table in it; what a numbering of them is, and which follows another, is p5_trie's, of any property.
use Rattle.std.specs.Prelude.{◌≡◌, T}
use Rattle.p4_rows.specs.Rows.{Word}
use Rattle.p4_spelling.specs.Verdict.{lowered, toneless, verdict}

-- a word's "lower-case toneless form"
unfoldable pub plain : Word → Word
plain w = toneless (lowered w)

-- "every lower-case toneless word that demand 2's syllable rule accepts"
pub record Listed (u : Word) : Type 0 where
  pub accepted : T (verdict u)
  pub is_plain : plain u ≡ u
