-- A stroke as the code comes to it; and that its places lie in the array, and its letters in it and in the output.
use Prim.Native.Nat.{ℕ, ◌<◌, ◌≤◌}
use mathlib.Core.Path.{◌≡◌, refl}
use mathlib.Core.Bool.{Bool, true, false, not}
use mathlib.Core.List.{List}
use native.Mathlib.Omega.{arith}
use lib.Dec.{ltb}
use borrow.Author.Tests.{lt-ltb, le-ltb, ltb-false, not-true, not-false}
use Rattle.p0_choice.specs.Choice.{pick}
use Rattle.p0_refusals.specs.declared.Refusal.{Refusal}
use Rattle.p0_refusals.specs.declared.Refusal.TheVariants.{Foreign, Full, Short, Unsound}
use Rattle.p1_letters.specs.Alphabet.{in_alphabet, ascii_lower}
use Rattle.p3_cells.specs.Cells.{limit}
use Rattle.p3_cells.specs.declared.Cell.{Cell}
use Rattle.p3_cells.specs.declared.Mode.{Mode}
use Rattle.p3_cells.specs.declared.Settings.{Settings}
use Rattle.p3_cells.specs.declared.Mode.TheVariants.{Vietnamese, English}
use Rattle.p3_step.specs.Key.{key_cells}
use Rattle.p3_step.specs.Mirror.{step_of}
use Rattle.p3_step.specs.declared.Step.{Step}
use Rattle.p3_step.proofs.Makes.{Makes, step_makes}
use Rattle.p3_key.specs.Process.{in_mode}
use Rattle.p3_key.specs.Mirror.{no_stroke, wrote, wrote_key, step_stroke, pass_stroke, stroke_of}
use Rattle.p3_key.specs.declared.Stroke.{Stroke}

-- ---- a step, refused or not
module _ (s : Step) (n room : ℕ) where
  pub step_full : (e : Stroke) → limit < s.count → e ≡ no_stroke Full n → e ≡ step_stroke s n room
  unfolding step_stroke
  step_full e l q = rw (lt-ltb limit s.count l) q

  pub step_short : (e : Stroke) → s.count ≤ limit → room < s.count → e ≡ no_stroke Short n → e ≡ step_stroke s n room
  unfolding step_stroke
  step_short e l h q = rw (le-ltb limit s.count l, lt-ltb room s.count h) q

  pub step_done : s.count ≤ limit → s.count ≤ room → wrote s ≡ step_stroke s n room
  unfolding step_stroke
  step_done l h = rw (le-ltb limit s.count l, le-ltb room s.count h) refl

-- ---- the stroke of a key
module _ (sound : Bool) (z : Settings) (cs : List Cell) (key n room : ℕ) (e : Stroke) where
  pub stroke_unsound : not sound ≡ true → e ≡ no_stroke Unsound n → e ≡ stroke_of sound z cs key n room
  unfolding stroke_of
  stroke_unsound s q = rw (not-true sound s) q

  module _ (v : Bool) (s : not sound ≡ false) (a : v ≡ in_alphabet key) where
    pub stroke_foreign : not v ≡ true → e ≡ no_stroke Foreign n → e ≡ stroke_of sound z cs key n room
    unfolding stroke_of
    stroke_foreign t q = rw (not-false sound s, ← a, not-true v t) q

    pub stroke_step : (k : ℕ) (t : Step) → not v ≡ false → z.mode ≡ Vietnamese → k ≡ ascii_lower key → t ≡ step_of z cs k
        → e ≡ step_stroke t n room → e ≡ stroke_of sound z cs key n room
    unfolding stroke_of
    stroke_step k t u d p r q = rw (not-false sound s, ← a, not-false v u, ← p, ← r, d) q

    pub stroke_pass : not v ≡ false → z.mode ≡ English → e ≡ pass_stroke n room → e ≡ stroke_of sound z cs key n room
    unfolding stroke_of
    stroke_pass u d q = rw (not-false sound s, ← a, not-false v u, d) q

-- ---- its bounds
pub record Bounds (room : ℕ) (e : Stroke) : Type 0 where
  pub at : e.step.at < limit
  pub also : e.step.also < limit
  pub letters : e.letters ≤ limit
  pub fits : e.letters ≤ room

refused_bounds : (room n : ℕ) (r : Refusal) → Bounds room (no_stroke r n)
refused_bounds room n r = record { at = omega arith; also = omega arith; letters = omega arith; fits = omega arith }

step_bounds : {z : Settings} (s : Step) (cs xs : List Cell) (key k n room : ℕ) → Makes z s cs xs key k → Bounds room (step_stroke s n room)
unfolding step_stroke
step_bounds s cs xs key k n room h = go (ltb limit s.count) (ltb room s.count) refl refl
  where
    go : (b d : Bool) → ltb limit s.count ≡ b → ltb room s.count ≡ d
        → Bounds room (pick b (no_stroke Full n) (pick d (no_stroke Short n) (wrote s)))
    go true d p q = refused_bounds room n Full
    go false true p q = refused_bounds room n Short
    go false false p q =
        let l = ltb-false limit s.count p in
        let g = h.count in
        let a = h.at in
        let b = h.also in
        record { at = omega arith; also = omega arith; letters = l; fits = ltb-false room s.count q }

pass_bounds : (n room : ℕ) → Bounds room (pass_stroke n room)
unfolding pass_stroke
pass_bounds n room = go (ltb room 1) refl
  where
    go : (b : Bool) → ltb room 1 ≡ b → Bounds room (pick b (no_stroke Short n) (wrote_key n))
    go true q = refused_bounds room n Short
    go false q = record { at = omega arith; also = omega arith; letters = omega arith; fits = ltb-false room 1 q }

bounds : (sound : Bool) (z : Settings) (cs : List Cell) (key n room : ℕ) → Bounds room (stroke_of sound z cs key n room)
unfolding stroke_of
bounds sound z cs key n room = go sound (in_alphabet key) z.mode
  where
    go : (s a : Bool) (o : Mode) → Bounds room
        (pick s (pick a (in_mode o (step_stroke (step_of z cs (ascii_lower key)) n room) (pass_stroke n room)) (no_stroke Foreign n))
        (no_stroke Unsound n))
    go false a o = refused_bounds room n Unsound
    go true false o = refused_bounds room n Foreign
    go true true Vietnamese = step_bounds (step_of z cs (ascii_lower key)) cs (key_cells z cs key) key (ascii_lower key) n room
        (step_makes z cs key)
    go true true English = pass_bounds n room

pub bounded : (sound : Bool) (z : Settings) (cs : List Cell) (key n room : ℕ) (e : Stroke)
    → e ≡ stroke_of sound z cs key n room
    → (e ≡ stroke_of sound z cs key n room) × (e.step.at < limit) × (e.step.also < limit) × (e.letters ≤ limit) × (e.letters ≤ room)
bounded sound z cs key n room e q =
    let b : Bounds room e = rw q (bounds sound z cs key n room) in (q, b.at, b.also, b.letters, b.fits)
