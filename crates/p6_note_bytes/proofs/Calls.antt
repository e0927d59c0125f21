-- The calls: what each way through one of them answers and leaves.
use Rattle.std.specs.Prelude.{Err, Ok, Result}
use Prim.Native.Nat.{ℕ, ◌-◌, ◌≤◌}
use mathlib.Core.Path.{◌≡◌, refl, sym, ◌∙◌}
use mathlib.Core.Bool.{Bool, true, false}
use mathlib.Core.List.{List, [], ◌++◌}
use native.Mathlib.Omega.{arith}
use lib.ListN.{length, take, drop, drop_of_length-le}
use mir.Syntax.{w8}
use mir.Val.{Fits}
use Rattle.p0_choice.specs.Choice.{pick}
use Rattle.p0_refusals.specs.declared.Refusal.{Refusal}
use Rattle.p0_refusals.specs.declared.Refusal.TheVariants.{Unsound}
use Rattle.p4_note_line.specs.declared.Report.{Report}
use Rattle.p4_note_parts.specs.Parts.{part_after, state_answer}
use Rattle.p4_note_parts.specs.State.{begun, line_sound}
use Rattle.p4_note_parts.specs.declared.Line.{Line}
use Rattle.p4_note_parts.specs.declared.LineAfter.{LineAfter}
use Rattle.p6_note_bytes.specs.Bytes.{line_size, line_head, line_bytes, line_of, spells_line, line_bytes_sound}
use Rattle.p6_note_bytes.specs.Calls.{line_part_on, line_part_bytes, line_answer_on}
use Rattle.p6_note_bytes.proofs.Round.{spelt_size, spelt_back}
use Rattle.p6_zeros.specs.Zeros.{zeros, byte_at}

-- ---- a new line: its bytes are zeros
pub begin_put : (b new : List ℕ) → new ≡ take 0 b ++ (zeros (line_size - 0) ++ drop line_size b) → length b ≡ line_size
    → new ≡ line_bytes begun
unfolding line_bytes line_head begun
begin_put b new e l =
    let h : length b ≤ line_size = omega arith in
    let z : drop line_size b ≡ [] = drop_of_length-le b h in
    e ∙ rw z refl

-- ---- an unsound state by value is refused, and left as it was
module _ (s : Line) (u : line_sound s ≡ false) where
  after_unsound : (xs : List ℕ) → part_after s xs ≡ record { line = s; answer = Err Unsound }
  unfolding part_after
  after_unsound xs = rw u refl

  answer_unsound : state_answer s ≡ Err Unsound
  unfolding state_answer
  answer_unsound = rw u refl

-- r is right where the test holds, so that it is right if it is where the test fails
either_way : {A : Type 0} (t : Bool) (r a : A) → (t ≡ false → r ≡ a) → r ≡ pick t r a
either_way true r a f = refl
either_way false r a f = f refl

-- ---- bytes of another length
module _ (b : List ℕ) (w : length b ≡ line_size → ⊥) where
  no_size : line_bytes_sound b ≡ false
  unfolding line_bytes_sound
  no_size = go (spells_line b) refl
    where
      go : (t : Bool) → spells_line b ≡ t → pick t (line_sound (line_of b)) false ≡ false
      go true e = absurd (w (spelt_size b e))
      go false e = refl

  pub size_answer : (xs : List ℕ) → Err Unsound ≡ line_part_on b xs
  unfolding line_part_on
  size_answer xs = rw no_size refl

  pub size_bytes : (xs : List ℕ) → b ≡ line_part_bytes b xs
  unfolding line_part_bytes
  size_bytes xs = rw no_size refl

  pub size_told : ◌≡◌ {A = Result Report Refusal} (Err Unsound) (line_answer_on b)
  unfolding line_answer_on
  size_told = rw no_size refl

-- ---- by the answer g of the reading
module _ (b : List ℕ) (g : Result Line Refusal) (e : g ≡ pick (spells_line b) (Ok (line_of b)) (Err Unsound)) where
  by_test : (v : Bool) → spells_line b ≡ v → (r : Refusal) → pick v (Ok (line_of b)) (Err Unsound) ≡ Err r
      → (r ≡ Unsound) × (line_bytes_sound b ≡ false)
  unfolding line_bytes_sound
  by_test true q r h = cc
  by_test false q r h = (cc, rw q refl)

  unread : (r : Refusal) → g ≡ Err r → (r ≡ Unsound) × (line_bytes_sound b ≡ false)
  unread r h = by_test (spells_line b) refl r (sym e ∙ h)

  pub unread_answer : (r : Refusal) (xs : List ℕ) → g ≡ Err r → Err r ≡ line_part_on b xs
  unfolding line_part_on
  unread_answer r xs h = let u = unread r h in rw (u.1, u.0) refl

  pub unread_bytes : (r : Refusal) (xs : List ℕ) → g ≡ Err r → b ≡ line_part_bytes b xs
  unfolding line_part_bytes
  unread_bytes r xs h = rw (unread r h).1 refl

  pub unread_told : (r : Refusal) → g ≡ Err r → ◌≡◌ {A = Result Report Refusal} (Err r) (line_answer_on b)
  unfolding line_answer_on
  unread_told r h = let u = unread r h in rw (u.1, u.0) refl

  module _ (s : Line) (h : g ≡ Ok s) where
    by_test_ok : (v : Bool) → spells_line b ≡ v → pick v (Ok (line_of b)) (Err Unsound) ≡ Ok s → (spells_line b ≡ true) × (s ≡ line_of b)
    by_test_ok true q k = (q, cc)
    by_test_ok false q k = cc

    spelt : spells_line b ≡ true
    spelt = (by_test_ok (spells_line b) refl (sym e ∙ h)).0

    is : s ≡ line_of b
    is = (by_test_ok (spells_line b) refl (sym e ∙ h)).1

    unsound : line_bytes_sound b ≡ false → line_sound (line_of b) ≡ false
    unfolding line_bytes_sound
    unsound u = rw spelt at u

    -- the call by value, on the state s that they spell
    pub part_answer : (xs : List ℕ) (t : LineAfter) → t ≡ part_after s xs → t.answer ≡ line_part_on b xs
    unfolding line_part_on
    part_answer xs t q =
        rw (q, is)
        (either_way (line_bytes_sound b) (part_after (line_of b) xs).answer (Err Unsound)
        (λ u. rw (after_unsound (line_of b) (unsound u) xs) refl))

    pub part_bytes : (xs new : List ℕ) (t : LineAfter) → t ≡ part_after s xs → new ≡ line_bytes t.line
        → ((k : ℕ) → Fits w8 (byte_at b k)) → new ≡ line_part_bytes b xs
    unfolding line_part_bytes
    part_bytes xs new t q r f =
        r ∙ rw (q, is)
        (either_way (line_bytes_sound b) (line_bytes (part_after (line_of b) xs).line) b
        (λ u. rw (after_unsound (line_of b) (unsound u) xs) (spelt_back b (λ k. (f k).fits) spelt)))

    pub checked_answer : (r : Result Report Refusal) → r ≡ state_answer s → r ≡ line_answer_on b
    unfolding line_answer_on
    checked_answer r q =
        q ∙ rw is
        (either_way (line_bytes_sound b) (state_answer (line_of b)) (Err Unsound) (λ u. answer_unsound (line_of b) (unsound u)))
