-- The words of a line, reported one by one, give what is told of it.
use Prim.Native.Nat.{ℕ, suc, ◌+◌}
use mathlib.Core.Path.{◌≡◌, refl, ◌∙◌}
use mathlib.Core.Bool.{Bool, true, false}
use mathlib.Core.List.{List, [], ◌∷◌}
use native.Mathlib.Omega.{arith}
use native.Mathlib.Nat.{add-zero, zero-add}
use lib.Dec.{eqb, eqb-suc-zero}
use lib.ListN.{length}
use native.Mathlib.Numerals.{add-one}
use Rattle.p0_choice.specs.Choice.{pick}
use Rattle.p4_spelling.specs.Verdict.{verdict}
use Rattle.p4_note_line.specs.declared.Report.{Report}
use Rattle.p4_note_line.specs.Line.{Placed, judged_no, first_start, line_words, line_report}
use Rattle.p4_note_line.specs.Mirror.{one_more, reported, counted_from}

-- what is told of c with k words more, of which ns are judged no
abbrev with : Report → ℕ → List Placed → Report
with c k ns =
    record { words = c.words + k; noes = c.noes + length ns; first = pick (eqb c.noes 0) (first_start c.first ns) c.first }

either_way : (b : Bool) (m : ℕ) → pick b m m ≡ m
either_way true m = refl
either_way false m = refl

one_more_with : (c : Report) (k : ℕ) (ns : List Placed) (p : Placed) (v : Bool)
    → with (one_more c p.start v) k ns ≡ with c (suc k) (pick v ns (p ∷ ns))
unfolding first_start
one_more_with c k ns p true = let w : c.words + 1 + k ≡ c.words + suc k = omega arith in rw w refl
one_more_with c k ns p false =
    let w : c.words + 1 + k ≡ c.words + suc k = omega arith in
    let n : c.noes + 1 + length ns ≡ c.noes + suc (length ns) = omega arith in
    rw (w, n, add-one c.noes, eqb-suc-zero c.noes) refl

counted_with : (c : Report) (ps : List Placed) → reported c ps ≡ with c (length ps) (judged_no ps)
unfolding reported judged_no first_start
counted_with c [] = rw (add-zero c.words, add-zero c.noes, either_way (eqb c.noes 0) c.first) refl
counted_with c (p ∷ ps) =
    counted_with (one_more c p.start (verdict p.letters)) ps
    ∙ one_more_with c (length ps) (judged_no ps) p (verdict p.letters)

pub count_tells : (line : List ℕ) (n : ℕ) → n ≡ length line
    → counted_from (record { words = 0; noes = 0; first = n }) 0 line ≡ line_report line
unfolding counted_from line_report line_words
count_tells line n e = counted_with (record { words = 0; noes = 0; first = n }) (line_words line) ∙ rw e (simp zero-add)
