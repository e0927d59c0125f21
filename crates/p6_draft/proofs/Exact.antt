-- Reading is exact: what bytes are a draft of is settled by `draft_of` alone, and the reader's test finds it.
use Prim.Native.Nat.{ℕ}
use mathlib.Core.Path.{◌≡◌, refl, sym, ap, ◌∙◌}
use mathlib.Core.Bool.{Bool, true, false, not}
use mathlib.Core.List.{List}
use native.Mathlib.Omega.{arith}
use borrow.Author.Tests.{not-true, not-false}
use mir.Syntax.{w8}
use mir.Val.{Fits}
use Rattle.p3_cells.specs.Cells.{is_sound}
use Rattle.p3_cells.specs.declared.Composition.{Composition}
use Rattle.p6_zeros.specs.Zeros.{byte_at}
use Rattle.p6_draft.specs.Draft.{draft_of, Reading, gives, none, Means}
use Rattle.p6_draft.specs.Mirror.{draft_composition, is_draft}
use Rattle.p6_draft.proofs.Round.{written_passes, read_back, read_sound, written_back}

-- ---- the reader's test is right, both ways
module _ (b : List ℕ) (v : Bool) (e : v ≡ is_draft b) where
  pub passed : not v ≡ false → is_draft b ≡ true
  passed t = sym e ∙ not-false v t

  pub passes_means : not v ≡ false → ((k : ℕ) → Fits w8 (byte_at b k)) → Means b (gives (draft_composition b))
  passes_means t f = (read_sound b (λ k. (f k).fits) (passed t), written_back b (λ k. (f k).fits) (passed t))

  pub fails_means : not v ≡ true → Means b none
  fails_means t c s d =
      let a : true ≡ false = sym (written_passes c s) ∙ ap is_draft d ∙ sym e ∙ not-true v t in
      let z : ◌≡◌ {A = ℕ} 0 1 = cc in omega arith

-- what bytes are a draft of, of whatever bytes
pub some_reading : (b : List ℕ) → ((k : ℕ) → Fits w8 (byte_at b k)) → (u : Reading) × Means b u
some_reading b f = go (is_draft b) refl
  where
    go : (v : Bool) → v ≡ is_draft b → (u : Reading) × Means b u
    go true e = (gives (draft_composition b), passes_means b true e refl f)
    go false e = (none, fails_means b false e refl)

-- ---- "Reading gives back the composition written"
pub draft_read : (c : Composition) → is_sound c ≡ true → (u : Reading) → Means (draft_of c) u → u ≡ gives c
draft_read c s (gives d) m =
    ap gives (sym (read_back d m.0) ∙ ap draft_composition m.1 ∙ read_back c s)
draft_read c s none m = absurd (m c s refl)

-- "each sound composition has one form only": it has this one, and no other composition has it
pub one_draft : (c d : Composition) → is_sound c ≡ true → is_sound d ≡ true → draft_of c ≡ draft_of d → c ≡ d
one_draft c d s t e = sym (read_back c s) ∙ ap draft_composition e ∙ read_back d t

-- bytes are a draft of one composition, or of none
pub one_reading : (b : List ℕ) (u w : Reading) → Means b u → Means b w → u ≡ w
one_reading b (gives c) (gives d) m n = ap gives (one_draft c d m.0 n.0 (m.1 ∙ sym n.1))
one_reading b (gives c) none m n = absurd (n c m.0 m.1)
one_reading b none (gives d) m n = absurd (m d n.0 n.1)
one_reading b none none m n = refl
