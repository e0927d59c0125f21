-- A part of the input byte by byte: what is left of it decides.
use Prim.Native.Nat.{ℕ, ◌+◌, ◌-◌, ◌<◌, ◌≤◌}
use mathlib.Core.Path.{◌≡◌, refl, sym, ap, ◌∙◌}
use mathlib.Core.List.{List, [], ◌∷◌, ◌++◌, append_assoc, append-nil}
use native.Mathlib.Omega.{arith}
use native.Mathlib.Numerals.{add-one}
use borrow.Rule.Slice.PartMut.{put_mid, mid_of, post_of}
use lib.Dec.{eqb, ltb}
use lib.ListN.{length, get_or, set, take, drop, length-append, length-drop, drop_of_length-le, take-append-drop}
use lib.Seq.{take_all, drop-cons, drop_at, drop-drop, take_at, take-suc-set, length-take-le}
use borrow.Author.Tests.{eq-eqb, ne_eqb, lt-ltb, le-ltb}
use Rattle.p0_choice.specs.Choice.{pick}
use Rattle.p0_refusals.specs.Answers.{onto}
use Rattle.p7_line.specs.Line.{most}
use Rattle.p7_feed.specs.declared.Phase.{Phase}
use Rattle.p7_feed.specs.Mirror.{State, state, hold, end_phase, end_out, step_to, step_out, run_to, run_out, line_after}

here : (part : List ℕ) (i : ℕ) → i < length part → drop i part ≡ get_or part i 0 ∷ drop (i + 1) part
here part i h = rw (add-one i) (drop-cons part i 0 h)

module _ (s : State) (part : List ℕ) (i : ℕ) (h : i < length part) where
  to_turn : run_to s (drop i part) ≡ run_to (step_to s (get_or part i 0)) (drop (i + 1) part)
  unfolding run_to
  to_turn = rw (here part i h) refl

  out_turn : run_out s (drop i part) ≡ step_out s (get_or part i 0) ++ run_out (step_to s (get_or part i 0)) (drop (i + 1) part)
  unfolding run_out
  out_turn = rw (here part i h) refl

module _ (s : State) (held : List ℕ) (phase : Phase) (part : List ℕ) (i : ℕ) (h : i < length part) (b : ℕ) (e : b ≡ get_or part i 0)
    (t : run_to s part ≡ run_to (state held phase) (drop i part)) where
  -- the line ends
  module _ (q : b ≡ 10) (next : Phase) (f : next ≡ end_phase phase held) where
    pub to_end : run_to s part ≡ run_to (state [] next) (drop (i + 1) part)
    unfolding step_to
    to_end = t ∙ to_turn (state held phase) part i h ∙ rw (← e, eq-eqb b 10 q, ← f) refl

    pub out_end : (o o' : List ℕ) (n r : ℕ) → n ≤ length o → r ≡ n + length (end_out phase held)
        → o' ≡ take n o ++ onto (end_out phase held) (drop n o)
        → run_out s part ≡ take n o ++ run_out (state held phase) (drop i part) → run_out s part ≡ take r o'
        ++ run_out (state [] next) (drop (i + 1) part)
    unfolding step_to step_out
    out_end o o' n r l k w u =
        let p = take n o ++ end_out phase held in
        let d = drop (length (end_out phase held)) (drop n o) in
        let j : length p ≡ r = omega (arith, length-append (take n o) (end_out phase held), length-take-le n o l) in
        let g : take r o' ≡ p = rw (w, ← append_assoc (take n o) (end_out phase held) d) (take_at p d r j) in
        u ∙ rw (out_turn (state held phase) part i h, ← e, eq-eqb b 10 q, ← f, g) (simp append_assoc)

  -- a byte of the line
  module _ (q : b ≡ 10 → ⊥) where
    to_byte : run_to s part ≡ run_to (state (hold held b) phase) (drop (i + 1) part)
    unfolding step_to
    to_byte = t ∙ to_turn (state held phase) part i h ∙ rw (← e, ne_eqb b 10 q) refl

    out_byte : run_out (state held phase) (drop i part) ≡ run_out (state (hold held b) phase) (drop (i + 1) part)
    unfolding step_to step_out
    out_byte = out_turn (state held phase) part i h ∙ rw (← e, ne_eqb b 10 q) refl

-- ---- the line's buffer
module _ (x line : List ℕ) (len : ℕ) (part : List ℕ) (i : ℕ) (h : i < length part) (b : ℕ) (e : b ≡ get_or part i 0)
    (t : x ≡ line_after line len (drop i part)) where
  lay_turn : x ≡ pick (eqb b 10) (line_after line 0 (drop (i + 1) part))
      (pick (ltb len most) (line_after (set line len b) (len + 1) (drop (i + 1) part)) (line_after line len (drop (i + 1) part)))
  unfolding line_after
  lay_turn = t ∙ rw (here part i h, ← e) refl

  pub lay_end : b ≡ 10 → x ≡ line_after line 0 (drop (i + 1) part)
  lay_end q = lay_turn ∙ rw (eq-eqb b 10 q) refl

  pub lay_held : (b ≡ 10 → ⊥) → len < most → x ≡ line_after (set line len b) (len + 1) (drop (i + 1) part)
  lay_held q k = lay_turn ∙ rw (ne_eqb b 10 q, lt-ltb len most k) refl

  pub lay_dropped : (b ≡ 10 → ⊥) → most ≤ len → x ≡ line_after line len (drop (i + 1) part)
  lay_dropped q k = lay_turn ∙ rw (ne_eqb b 10 q, le-ltb len most k) refl

pub line_laid : (x line : List ℕ) (len : ℕ) (part : List ℕ) (i : ℕ) → length part ≤ i → x ≡ line_after line len (drop i part) → line ≡ x
unfolding line_after
line_laid x line len part i h t = sym (t ∙ rw (drop_of_length-le part h) refl)

-- what is written from place n on, where there are N places
pub written_on : (o ys e : List ℕ) (n N : ℕ) → length o ≡ N → n ≤ length o → ys ≡ onto e (mid_of n (N - n) o)
    → put_mid n (N - n) o ys ≡ take n o ++ onto e (drop n o)
written_on o ys e n N k h f =
    let l : length (drop n o) ≡ length o - n = length-drop n o in
    let m : mid_of n (N - n) o ≡ drop n o = take_all (N - n) (drop n o) (omega arith) in
    let z : post_of n (N - n) o ≡ [] = drop_of_length-le (drop n o) (omega arith) in
    rw (f, m, z, append-nil) refl

-- and the places stay as many
pub written_long : (o o' e : List ℕ) (n N : ℕ) → length o ≡ N → n + length e ≤ N → o' ≡ take n o ++ onto e (drop n o) → length o' ≡ N
written_long o o' e n N k h w =
    let x = drop (length e) (drop n o) in
    rw w
    (omega (
      arith,
      length-append (take n o) (e ++ x),
      length-append e x,
      length-take-le n o (omega arith),
      length-drop n o,
      length-drop (length e) (drop n o),
    ))

-- ---- the output past what is printed
pub past_end : (o o' o₀ e : List ℕ) (n r : ℕ) → n ≤ length o → r ≡ n + length e → o' ≡ take n o ++ onto e (drop n o)
    → drop n o ≡ drop n o₀ → drop r o' ≡ drop r o₀
past_end o o' o₀ e n r l k w d =
    let p = take n o ++ e in
    let x = drop (length e) (drop n o) in
    let j : length p ≡ r = omega (arith, length-append (take n o) e, length-take-le n o l) in
    let g : drop r o' ≡ x = rw (w, ← append_assoc (take n o) e x) (drop_at p x r j) in
    g ∙ rw (k, d) (drop-drop (length e) n o₀)

-- what is printed stands at the start, and the rest is as it was
pub printed : (o o₀ u : List ℕ) (n : ℕ) → n ≤ length o → u ≡ take n o → drop n o ≡ drop n o₀ → (n ≡ length u) × (o ≡ onto u o₀)
printed o o₀ u n l e d =
    let k : length u ≡ n = ap length e ∙ length-take-le n o l in
    (sym k, sym (take-append-drop n o) ∙ rw (k, e, d) refl)

-- the held bytes are the first `len` of the line's buffer
module _ (line : List ℕ) (len b : ℕ) (l : length line ≡ most) where
  hold_more : len < most → hold (take len line) b ≡ take (len + 1) (set line len b)
  unfolding hold
  hold_more h =
      let k : length (take len line) ≡ len = length-take-le len line (omega arith) in
      rw (lt-ltb (length (take len line)) most (omega arith), add-one len) (sym (take-suc-set line len b (omega arith)))

  hold_full : most ≤ len → len ≤ most → hold (take len line) b ≡ take len line
  unfolding hold
  hold_full h j =
      let k : length (take len line) ≡ len = length-take-le len line (omega arith) in
      rw (le-ltb (length (take len line)) most (omega arith)) refl

module _ (s : State) (line : List ℕ) (len : ℕ) (phase : Phase) (part : List ℕ) (i b : ℕ) (l : length line ≡ most) (h : i < length part)
    (e : b ≡ get_or part i 0)
    (q : b ≡ 10 → ⊥) where
  pub to_held : len < most → run_to s part ≡ run_to (state (take len line) phase) (drop i part)
      → run_to s part ≡ run_to (state (take (len + 1) (set line len b)) phase) (drop (i + 1) part)
  to_held k t = to_byte s (take len line) phase part i h b e t q
      ∙ ap (λ (x : List ℕ). run_to (state x phase) (drop (i + 1) part)) (hold_more line len b l k)

  pub out_held : (p : List ℕ) → len < most → run_to s part ≡ run_to (state (take len line) phase) (drop i part)
      → run_out s part ≡ p ++ run_out (state (take len line) phase) (drop i part)
      → run_out s part ≡ p ++ run_out (state (take (len + 1) (set line len b)) phase) (drop (i + 1) part)
  out_held p k t u =
      u ∙ ap (λ (x : List ℕ). p ++ x)
      (out_byte s (take len line) phase part i h b e t q
      ∙ ap (λ (x : List ℕ). run_out (state x phase) (drop (i + 1) part)) (hold_more line len b l k))

  pub to_dropped : most ≤ len → len ≤ most → run_to s part ≡ run_to (state (take len line) phase) (drop i part)
      → run_to s part ≡ run_to (state (take len line) phase) (drop (i + 1) part)
  to_dropped k j t = to_byte s (take len line) phase part i h b e t q
      ∙ ap (λ (x : List ℕ). run_to (state x phase) (drop (i + 1) part)) (hold_full line len b l k j)

  pub out_dropped : (p : List ℕ) → most ≤ len → len ≤ most → run_to s part ≡ run_to (state (take len line) phase) (drop i part)
      → run_out s part ≡ p ++ run_out (state (take len line) phase) (drop i part)
      → run_out s part ≡ p ++ run_out (state (take len line) phase) (drop (i + 1) part)
  out_dropped p k j t u =
      u ∙ ap (λ (x : List ℕ). p ++ x)
      (out_byte s (take len line) phase part i h b e t q
      ∙ ap (λ (x : List ℕ). run_out (state x phase) (drop (i + 1) part)) (hold_full line len b l k j))
