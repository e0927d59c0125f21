-- What is answered of a line, by its refusal if it has one.
use Rattle.std.specs.Prelude.{Err, Ok, Result}
use Prim.Native.Nat.{ℕ, suc, ◌+◌, ◌≤◌, ◌<◌}
use mathlib.Core.Path.{◌≡◌, refl, sym, ap, ◌∙◌}
use mathlib.Core.List.{List, [], ◌∷◌}
use native.Mathlib.Omega.{arith}
use lib.ListN.{length}
use Rattle.p0_refusals.specs.declared.Refusal.{Refusal}
use Rattle.p4_note_line.specs.declared.Report.{Report}
use Rattle.p4_note_line.specs.declared.Taken.{Taken}
use Rattle.p4_note_line.specs.declared.Taken.TheVariants.{Gap, Letter}
use Rattle.p4_note_line.specs.Line.{line_limit, taking, whether, fault_from, line_fault, line_report, unless_fault, line_answer}
use Rattle.p4_note_line.specs.Mirror.{CanCount, counted_from}
use Rattle.p4_note_line.proofs.Taking.{tells}
use Rattle.p4_note_line.proofs.Tally.{count_tells}

-- a line with no refusal has its length within the limit
module _ (at run x n m : ℕ) where
  more : (t : Result Taken Refusal) → t ≡ taking at run x → (g l : Result ℕ Refusal)
      → (at < line_limit → g ≡ Ok n → (n ≡ suc at + m) × (n ≤ line_limit))
      → (at < line_limit → l ≡ Ok n → (n ≡ suc at + m) × (n ≤ line_limit))
      → whether t g l Err ≡ Ok n → (n ≡ suc at + m) × (n ≤ line_limit)
  more (Ok Gap) e g l f h q = f (tells at run x (Ok Gap) e).1 q
  more (Ok Letter) e g l f h q = h (tells at run x (Ok Letter) e).1 q
  more (Err r) e g l f h q = cc

pub fault_length : (at run n : ℕ) (xs : List ℕ) → at ≤ line_limit → fault_from at run xs ≡ Ok n → (n ≡ at + length xs) × (n ≤ line_limit)
unfolding fault_from
fault_length at run n [] l e = let q : at ≡ n = cc in (omega (arith, q), omega (arith, l, q))
fault_length at run n (x ∷ xs) l e =
    let h = more at run x n (length xs) (taking at run x) refl (fault_from (suc at) 0 xs) (fault_from (suc at) (suc run) xs)
    (λ k q. fault_length (suc at) 0 n xs (omega (arith, k)) q)
    (λ k q. fault_length (suc at) (suc run) n xs (omega (arith, k)) q) e in
    (omega (arith, h.0), h.1)

module _ (line : List ℕ) (f : Result ℕ Refusal) where
  -- with a refusal, that
  pub answer_refused : (r : Refusal) → f ≡ line_fault line → f ≡ Err r → ◌≡◌ {A = Result Report Refusal} (Err r) (line_answer line)
  unfolding line_answer
  answer_refused r e h = rw (sym e ∙ h) refl

  module _ (n : ℕ) (e : f ≡ line_fault line) (h : f ≡ Ok n) where
    pub fault_short : length line ≤ line_limit
    unfolding line_fault
    fault_short = let q = fault_length 0 0 n line (omega arith) (sym e ∙ h) in omega (arith, q.0, q.1)

    pub line_counts : (c : Report) → c.words ≡ 0 → c.noes ≡ 0 → CanCount 0 line c
    line_counts c w o = record { short = omega (arith, fault_short); few = omega arith; fewer = omega arith }

    -- with none, what the readers have counted
    pub answer_counted : (r : Report) → r ≡ counted_from (record { words = 0; noes = 0; first = n }) 0 line
        → ◌≡◌ {A = Result Report Refusal} (Ok r) (line_answer line)
    unfolding line_answer line_fault
    answer_counted r q =
        let is : n ≡ length line = omega (arith, (fault_length 0 0 n line (omega arith) (sym e ∙ h)).0) in
        ap (Ok) (q ∙ count_tells line n is) ∙ sym (ap (λ a. unless_fault a (line_report line)) (sym e ∙ h))
