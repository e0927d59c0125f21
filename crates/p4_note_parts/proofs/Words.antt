-- The open word: its verdict, the counts with it, and the states that a letter more makes of it.
use Rattle.std.specs.Prelude.{Ok}
use Prim.Native.Nat.{ℕ, ◌+◌, ◌-◌, ◌≤◌}
use mathlib.Core.Path.{◌≡◌, refl, ap, ◌∙◌}
use mathlib.Core.Bool.{Bool, true, false}
use mathlib.Core.List.{List}
use native.Mathlib.Numerals.{add-one}
use native.Mathlib.Omega.{arith}
use mir.Syntax.{w64}
use mir.Val.{Fits}
use lib.Dec.{ltb}
use lib.ListN.{length, set}
use borrow.Author.Tests.{ne_eqb}
use Rattle.p0_choice.specs.Choice.{pick}
use Rattle.p4_spelling.specs.Verdict.{longest_length}
use Rattle.p4_note_line.specs.declared.Report.{Report}
use Rattle.p4_note_line.specs.Line.{line_limit}
use Rattle.p4_note_line.specs.Mirror.{one_more}
use Rattle.p4_note_parts.specs.declared.Line.{Line}
use Rattle.p4_note_parts.specs.State.{blank_letters, letters_fit, line_sound}
use Rattle.p4_note_parts.specs.Parts.{open_accepted, word_more, counted_all, gap_taken, letter_taken}
use Rattle.p4_note_parts.proofs.Soundness.{blank_kept, sound_facts}

module _ (s : Line) where
  -- ---- the counts: with no open word, and with one of the verdict v
  pub none_open : s.run ≡ 0 → record { words = s.words; noes = s.noes; first = s.first } ≡ counted_all s
  unfolding counted_all
  none_open e = rw e

  pub one_open : (v : Bool) (r : Report) → (s.run ≡ 0 → ⊥) → v ≡ open_accepted s.run s.letters
      → r ≡ one_more (record { words = s.words; noes = s.noes; first = s.first }) (s.length - s.run) v → r ≡ counted_all s
  unfolding counted_all
  one_open v r d q m = m ∙ rw (ne_eqb s.run 0 d, ← q) (same v)
    where
      same : (v : Bool) → one_more (record { words = s.words; noes = s.noes; first = s.first }) (s.length - s.run) v
          ≡ word_more s.words s.noes s.first (s.length - s.run) v
      same true = rw (add-one s.words) refl
      same false = rw (add-one s.words, add-one s.noes) refl

  -- ---- a letter more, as the code makes the state. A gap closes the open word
  pub closed : (n : Report) → n ≡ counted_all s
      → record {
        letters = blank_letters longest_length;
        length = s.length + 1;
        run = 0;
        words = n.words;
        noes = n.noes;
        first = n.first;
        standing = Ok tt;
      }
      ≡ gap_taken s
  unfolding gap_taken
  closed n e = rw (e, add-one)

  -- one where no word stands open
  pub spaced : line_sound s ≡ true → length s.letters ≡ longest_length → s.run ≡ 0
      → record {
        letters = s.letters;
        length = s.length + 1;
        run = s.run;
        words = s.words;
        noes = s.noes;
        first = s.first;
        standing = Ok tt;
      }
      ≡ gap_taken s
  unfolding gap_taken counted_all
  spaced h k z =
      let f : letters_fit 0 s.letters ≡ true = rw z at (sound_facts s h).letters in
      rw (blank_kept s.letters f ∙ ap blank_letters k, z, add-one)

  -- a word's letter; `kept` is what then is kept
  pub lengthened : (x : ℕ) (kept : List ℕ) → kept ≡ pick (ltb s.run longest_length) (set s.letters s.run x) s.letters
      → record {
        letters = kept;
        length = s.length + 1;
        run = s.run + 1;
        words = s.words;
        noes = s.noes;
        first = s.first;
        standing = Ok tt;
      }
      ≡ letter_taken s x
  unfolding letter_taken
  lengthened x kept e = rw (e, add-one, add-one)

  -- ---- in a sound state no count exceeds the length, and each has room for one more
  module _ (h : line_sound s ≡ true) where
    pub run_within : s.run ≤ s.length
    run_within = omega (arith, sound_facts s h)

    pub few_words : s.words ≤ line_limit
    few_words = omega (arith, sound_facts s h)

    pub few_noes : s.noes ≤ line_limit
    few_noes = omega (arith, sound_facts s h)

    pub one_more_fits : (n : ℕ) → n ≤ s.length → Fits w64 (n + 1)
    one_more_fits n l = record { fits = omega (arith, sound_facts s h) }

    pub length_fits : Fits w64 (s.length + 1)
    length_fits = one_more_fits s.length (omega arith)

    pub run_fits : Fits w64 (s.run + 1)
    run_fits = one_more_fits s.run run_within
