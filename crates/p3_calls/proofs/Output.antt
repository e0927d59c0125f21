-- Each way through the text and the removal: what is to be written, and with that the answer and the output.
use Rattle.std.specs.Prelude.{Err, Ok}
use Prim.Native.Nat.{ℕ, ◌-◌, ◌<◌, ◌≤◌}
use mathlib.Core.Path.{◌≡◌, refl, sym, ◌∙◌}
use mathlib.Core.Bool.{Bool, true, false, not}
use mathlib.Core.List.{List, ◌++◌}
use native.Mathlib.Omega.{arith}
use lib.ListN.{length, take, drop}
use lib.Seq.{length-take-le}
use borrow.Author.Tests.{eq-eqb, ne_eqb, not-true, not-false}
use Rattle.p0_refusals.specs.Answers.{writes, refuses, answer, output}
use Rattle.p0_refusals.specs.declared.Refusal.TheVariants.{Short, Empty, Unsound}
use Rattle.p0_refusals.proofs.Answers.{refuses_answer, refuses_output, short_answer, short_output, writes_answer, writes_output}
use Rattle.p3_cells.specs.Cells.{limit, blank, is_sound, used, holding}
use Rattle.p3_cells.specs.Leaving.{refusing}
use Rattle.p3_cells.specs.Mirror.{with_cell, with_count}
use Rattle.p3_cells.specs.Text.{text_of}
use Rattle.p3_cells.specs.declared.Cell.{Cell}
use Rattle.p3_cells.specs.declared.After.{After}
use Rattle.p3_cells.specs.declared.Composition.{Composition}
use Rattle.p3_cells.proofs.Holding.{count_fits, used_length, used_held, holding_less}
use Rattle.p3_cells.proofs.Text.{text_length}
use Rattle.p3_cells.proofs.Leaving.{leaving_refused, leaving_short, leaving_done}
use Rattle.p3_calls.specs.Output.{text_outcome, left, removal_outcome, removed}

-- what the text of cells is under the settings of a composition
abbrev text_in : Composition → List Cell → List ℕ
text_in c xs = text_of c.settings.capitals xs

module _ (c : Composition) (s : Bool) (e : s ≡ is_sound c) where
  module _ (h : not s ≡ true) where
    text_no : text_outcome c ≡ refuses Unsound
    unfolding text_outcome
    text_no = rw (← e, not-true s h) refl

    pub text_unsound : (n : ℕ) → Err Unsound ≡ answer (text_outcome c) n
    text_unsound n = refuses_answer _ _ text_no n

    pub text_unsound_out : (o : List ℕ) → o ≡ output (text_outcome c) o
    text_unsound_out o = refuses_output _ _ text_no o

    removal_no : removal_outcome c ≡ refuses Unsound
    unfolding removal_outcome
    removal_no = rw (← e, not-true s h) refl

    pub removal_unsound : (n : ℕ) (k : After) → k ≡ refusing c Unsound → k ≡ removed c n
    unfolding removed
    removal_unsound n k q = leaving_refused _ c _ n _ k removal_no q

    pub removal_unsound_out : (o : List ℕ) → o ≡ output (removal_outcome c) o
    removal_unsound_out o = refuses_output _ _ removal_no o

  module _ (h : not s ≡ false) where
    whole : is_sound c ≡ true
    whole = sym e ∙ not-false s h

    -- ---- places
    pub sound_fits : c.count ≤ limit
    sound_fits = count_fits c whole

    pub removal_below : (c.count ≡ 0 → ⊥) → c.count - 1 < limit
    removal_below z = omega (arith, sound_fits)

    pub removal_fits : c.count - 1 ≤ limit
    removal_fits = omega (arith, sound_fits)

    count : length (used c) ≡ c.count
    count = used_length c whole

    -- ---- text
    text_writes : text_outcome c ≡ writes (text_in c (used c))
    unfolding text_outcome
    text_writes = rw whole refl

    room : length (text_in c (used c)) ≡ c.count
    room = text_length _ (used c) ∙ count

    pub text_short : (m : ℕ) → m < c.count → Err Short ≡ answer (text_outcome c) m
    text_short m l = short_answer _ _ text_writes m (rw room l)

    pub text_short_out : (o : List ℕ) → length o < c.count → o ≡ output (text_outcome c) o
    text_short_out o l = short_output _ _ text_writes o (rw room l)

    pub text_done : (m r : ℕ) → c.count ≤ m → r ≡ c.count → Ok r ≡ answer (text_outcome c) m
    text_done m r l q = writes_answer _ _ text_writes m r (rw room l) (rw room q)

    pub text_done_out : (o out : List ℕ) → c.count ≤ length o → out ≡ text_in c (used c) ++ drop c.count o
        → out ≡ output (text_outcome c) o
    text_done_out o out l q = writes_output _ _ text_writes o out (rw room l) (rw room q)

    -- ---- removal
    module _ (z : c.count ≡ 0) where
      removal_none : removal_outcome c ≡ refuses Empty
      unfolding removal_outcome
      removal_none = rw (whole, count, eq-eqb c.count 0 z) refl

      pub removal_empty : (m : ℕ) (k : After) → k ≡ refusing c Empty → k ≡ removed c m
      unfolding removed
      removal_empty m k q = leaving_refused _ c _ m _ k removal_none q

      pub removal_empty_out : (o : List ℕ) → o ≡ output (removal_outcome c) o
      removal_empty_out o = refuses_output _ _ removal_none o

    left_is : left c ≡ take (c.count - 1) (used c)
    unfolding left
    left_is = rw count refl

    module _ (z : c.count ≡ 0 → ⊥) where
      removal_writes : removal_outcome c ≡ writes (text_in c (left c))
      unfolding removal_outcome
      removal_writes = rw (whole, count, ne_eqb c.count 0 z) refl

      less : length (text_in c (left c)) ≡ c.count - 1
      less = text_length _ (left c) ∙ rw left_is (length-take-le (c.count - 1) (used c) (omega (arith, count)))

      pub removal_short : (m : ℕ) (k : After) → m < c.count - 1 → k ≡ refusing c Short → k ≡ removed c m
      unfolding removed
      removal_short m k l q = leaving_short _ c _ m _ k removal_writes (rw less l) q

      pub removal_short_out : (o : List ℕ) → length o < c.count - 1 → o ≡ output (removal_outcome c) o
      removal_short_out o l = short_output _ _ removal_writes o (rw less l)

      -- with x for its last cell, and one cell less
      abbrev shorter : Cell → Composition
      shorter x = with_count (with_cell c (c.count - 1) x) (c.count - 1)

      shorter_is : (x : Cell) → x ≡ blank → shorter x ≡ holding c (left c)
      shorter_is x b = rw (b, left_is) (holding_less c whole (omega arith))

      pub removal_done : (m r : ℕ) (x : Cell) → x ≡ blank → c.count - 1 ≤ m → r ≡ c.count - 1
          → record { comp = shorter x; answer = Ok r } ≡ removed c m
      unfolding removed
      removal_done m r x b l q = leaving_done _ c _ m _ (shorter x) r removal_writes (rw less l) (rw less q) (shorter_is x b)

      pub removal_done_out : (o out : List ℕ) (x : Cell) → x ≡ blank → c.count - 1 ≤ length o
          → out ≡ text_in c (used (shorter x)) ++ drop (c.count - 1) o → out ≡ output (removal_outcome c) o
      removal_done_out o out x b l q =
          writes_output _ _ removal_writes o out (rw less l) (rw less (rw (shorter_is x b, used_held c.settings (left c)) at q))

pub ruleset texts = (text_unsound, text_unsound_out, text_short, text_short_out, text_done, text_done_out)

pub ruleset removal = (
  removal_unsound,
  removal_unsound_out,
  removal_empty,
  removal_empty_out,
  removal_short,
  removal_short_out,
  removal_done,
  removal_done_out,
)
