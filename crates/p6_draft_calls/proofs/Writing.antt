-- Each way through the writers, of a composition c by value or as bytes: t says whether it is sound, v is the test of it, w what there
-- is to write, and n its count.
use Rattle.std.specs.Prelude.{Err, Ok}
use Prim.Native.Nat.{ℕ, ◌*◌, ◌≤◌, ◌<◌}
use mathlib.Core.Path.{◌≡◌, refl, sym, ap, ◌∙◌}
use mathlib.Core.Bool.{Bool, true, false, not}
use mathlib.Core.List.{List, [], ◌∷◌}
use native.Mathlib.Omega.{arith}
use lib.ListN.{length}
use borrow.Author.Tests.{not-true, not-false}
use mir.Syntax.{w64}
use mir.Val.{Fits}
use Rattle.p0_choice.specs.Choice.{pick}
use Rattle.p0_refusals.specs.Answers.{Outcome, writes, refuses, answer, output}
use Rattle.p0_refusals.specs.declared.Refusal.TheVariants.{Short, Unsound}
use Rattle.p0_refusals.proofs.Answers.{refuses_answer, refuses_output, short_answer, short_output, writes_answer, writes_output}
use Rattle.p3_cells.specs.Cells.{limit, used, is_sound}
use Rattle.p3_cells.specs.Mirror.{first_cells}
use Rattle.p3_cells.specs.declared.Composition.{Composition}
use Rattle.p3_cells.proofs.Holding.{count_fits, used_length}
use Rattle.p6_bytes.specs.Bytes.{method_byte, mode_byte, flag_byte, composition_of, bytes_sound}
use Rattle.p6_bytes.proofs.Fields.{method_field, mode_field, capitals_number_field}
use Rattle.p6_bytes.proofs.Sound.{sound_composition}
use Rattle.p6_zeros.specs.Zeros.{byte_at}
use Rattle.p6_draft.specs.Draft.{field, draft_cells, draft_of}
use Rattle.p6_draft.specs.Mirror.{draft_head, draft_start, draft_length, put_at, head_fields}
use Rattle.p6_draft.proofs.Put.{put_onto}
use Rattle.p6_draft.proofs.Writing.{draft_length_lem, draft_put}
use Rattle.p6_draft_calls.specs.Calls.{draft_outcome, bytes_outcome}

abbrev pub draft_if : Bool → Composition → Outcome
draft_if t c = pick t (writes (draft_of c)) (refuses Unsound)

module _ (t : Bool) (c : Composition) (w : Outcome) (d : w ≡ draft_if t c) (v : Bool) (e : v ≡ t) where
  module _ (q : not v ≡ true) where
    refused : w ≡ refuses Unsound
    refused = d ∙ rw (← e, not-true v q) refl

    unsound_told : (n : ℕ) → Err Unsound ≡ answer w n
    unsound_told n = refuses_answer w Unsound refused n

    unsound_kept : (o : List ℕ) → o ≡ output w o
    unsound_kept o = refuses_output w Unsound refused o

  module _ (g : t ≡ true → is_sound c ≡ true) (q : not v ≡ false) (n : ℕ) (p : n ≡ c.count) (o : List ℕ) where
    s : is_sound c ≡ true
    s = g (sym e ∙ not-false v q)

    written : w ≡ writes (draft_of c)
    written = d ∙ rw (← e, not-false v q) refl

    count : length (used c) ≡ n
    count = used_length c s ∙ sym p

    long : length (draft_of c) ≡ draft_length n
    long = draft_length_lem c n count

    short_told : length o < draft_length n → Err Short ≡ answer w (length o)
    short_told h = short_answer w (draft_of c) written (length o) (omega (arith, long))

    short_kept : length o < draft_length n → o ≡ output w o
    short_kept h = short_output w (draft_of c) written o (omega (arith, long))

    module _ (h : draft_length n ≤ length o) where
      written_told : Ok (draft_length n) ≡ answer w (length o)
      written_told = writes_answer w (draft_of c) written (length o) _ (omega (arith, long)) (sym long)

      written_out : (b1 b2 new : List ℕ) (m k u : ℕ) → m ≡ method_byte c.settings.method → k ≡ mode_byte c.settings.mode
          → u ≡ flag_byte c.settings.capitals → b1 ≡ put_at 0 (head_fields m k n) o → b2 ≡ put_at draft_head (draft_cells (used c)) b1
          → new ≡ put_at (draft_start n) (field 4 (u ∷ [])) b2
          → new ≡ output w o
      written_out b1 b2 new m k u f j r x y z =
          writes_output w (draft_of c) written o new (omega (arith, long))
          (draft_put c o b1 b2 new m k u n count f j r x y z h ∙ put_onto o (draft_of c))

-- ---- by value
pub value_is : (c : Composition) → draft_outcome c ≡ draft_if (is_sound c) c
unfolding draft_outcome
value_is c = refl

module _ (c : Composition) (v : Bool) (e : v ≡ is_sound c) where
  pub value_unsound : not v ≡ true → (n : ℕ) → Err Unsound ≡ answer (draft_outcome c) n
  value_unsound = unsound_told (is_sound c) c (draft_outcome c) (value_is c) v e

  pub value_unsound_out : not v ≡ true → (o : List ℕ) → o ≡ output (draft_outcome c) o
  value_unsound_out = unsound_kept (is_sound c) c (draft_outcome c) (value_is c) v e

  module _ (q : not v ≡ false) where
    pub value_few : c.count ≤ limit
    value_few = count_fits c (sym e ∙ not-false v q)

    pub value_cells : Fits w64 (7 * c.count)
    value_cells = omega (arith, value_few)

    pub value_length : Fits w64 (draft_length c.count)
    value_length = omega (arith, value_few)

    module _ (o : List ℕ) where
      pub value_short : length o < draft_length c.count → Err Short ≡ answer (draft_outcome c) (length o)
      value_short = short_told (is_sound c) c (draft_outcome c) (value_is c) v e (λ s. s) q c.count refl o

      pub value_short_out : length o < draft_length c.count → o ≡ output (draft_outcome c) o
      value_short_out = short_kept (is_sound c) c (draft_outcome c) (value_is c) v e (λ s. s) q c.count refl o

      pub value_told : draft_length c.count ≤ length o → Ok (draft_length c.count) ≡ answer (draft_outcome c) (length o)
      value_told = written_told (is_sound c) c (draft_outcome c) (value_is c) v e (λ s. s) q c.count refl o

      pub value_out : draft_length c.count ≤ length o
          → (b1 b2 new : List ℕ) (m k u : ℕ) → m ≡ method_byte c.settings.method → k ≡ mode_byte c.settings.mode
          → u ≡ flag_byte c.settings.capitals → b1 ≡ put_at 0 (head_fields m k c.count) o
          → b2 ≡ put_at draft_head (draft_cells (used c)) b1 → new ≡ put_at (draft_start c.count) (field 4 (u ∷ [])) b2
          → new ≡ output (draft_outcome c) o
      value_out = written_out (is_sound c) c (draft_outcome c) (value_is c) v e (λ s. s) q c.count refl o

pub ruleset value_ways =
    (value_unsound, value_unsound_out, value_few, value_cells, value_length, value_short, value_short_out, value_told, value_out)

-- ---- on bytes
pub bytes_is : (b : List ℕ) → bytes_outcome b ≡ draft_if (bytes_sound b) (composition_of b)
unfolding bytes_outcome draft_outcome
bytes_is b = go (bytes_sound b) refl
  where
    go : (t : Bool) → bytes_sound b ≡ t
        → pick t (draft_if (is_sound (composition_of b)) (composition_of b)) (refuses Unsound) ≡ draft_if t (composition_of b)
    go true e = rw (sound_composition b e) refl
    go false e = refl

module _ (b : List ℕ) where
  pub bytes_unsound : bytes_sound b ≡ false → (n : ℕ) → Err Unsound ≡ answer (bytes_outcome b) n
  bytes_unsound q = unsound_told (bytes_sound b) (composition_of b) (bytes_outcome b) (bytes_is b) (bytes_sound b) refl (ap not q)

  pub bytes_unsound_out : bytes_sound b ≡ false → (o : List ℕ) → o ≡ output (bytes_outcome b) o
  bytes_unsound_out q = unsound_kept (bytes_sound b) (composition_of b) (bytes_outcome b) (bytes_is b) (bytes_sound b) refl (ap not q)

  module _ (s : bytes_sound b ≡ true) (n : ℕ) (p : n ≡ (composition_of b).count) where
    pub bytes_few : n ≤ limit
    bytes_few = rw p (count_fits (composition_of b) (sound_composition b s))

    pub bytes_cells : Fits w64 (7 * n)
    bytes_cells = omega (arith, bytes_few)

    pub bytes_length : Fits w64 (draft_length n)
    bytes_length = omega (arith, bytes_few)

    module _ (o : List ℕ) where
      pub bytes_short : length o < draft_length n → Err Short ≡ answer (bytes_outcome b) (length o)
      bytes_short = short_told _ (composition_of b) (bytes_outcome b) (bytes_is b) _ refl (sound_composition b) (ap not s) n p o

      pub bytes_short_out : length o < draft_length n → o ≡ output (bytes_outcome b) o
      bytes_short_out = short_kept _ (composition_of b) (bytes_outcome b) (bytes_is b) _ refl (sound_composition b) (ap not s) n p o

      pub bytes_told : draft_length n ≤ length o → Ok (draft_length n) ≡ answer (bytes_outcome b) (length o)
      bytes_told = written_told _ (composition_of b) (bytes_outcome b) (bytes_is b) _ refl (sound_composition b) (ap not s) n p o

      -- each setting is a byte of its own
      pub bytes_out : draft_length n ≤ length o
          → (b1 b2 new : List ℕ) → b1 ≡ put_at 0 (head_fields (byte_at b 0) (byte_at b 1) n) o
          → b2 ≡ put_at draft_head (draft_cells (first_cells (composition_of b) n)) b1
          → new ≡ put_at (draft_start n) (field 4 (byte_at b 3 ∷ [])) b2
          → new ≡ output (bytes_outcome b) o
      unfolding used
      bytes_out h b1 b2 new x y z =
          written_out _ (composition_of b) (bytes_outcome b) (bytes_is b) _ refl (sound_composition b) (ap not s) n p o h b1 b2 new
          (byte_at b 0) (byte_at b 1) (byte_at b 3) (method_field b s (byte_at b 0) refl) (mode_field b s (byte_at b 1) refl)
          (capitals_number_field b s (byte_at b 3) refl) x (rw p at y) z

pub ruleset bytes_ways = (
  bytes_unsound,
  bytes_unsound_out,
  bytes_few,
  bytes_cells,
  bytes_length,
  bytes_short,
  bytes_short_out,
  bytes_told,
  bytes_out,
)
