-- Where a letter stands in the block: its slot stands for its place, and no other letter is found there.
use Prim.Native.Nat.{ℕ, suc, ◌+◌, ◌%◌, ◌<◌, ◌≤◌}
use mathlib.Core.Path.{◌≡◌, refl, sym, ap, ◌∙◌}
use mathlib.Core.Bool.{Bool, true}
use mathlib.Core.List.{List, [], ◌∷◌, map}
use native.Mathlib.Omega.{arith}
use lib.Dec.{T, eqb}
use Rattle.std.specs.List.{range_with_len}
use Rattle.std.proofs.lemmas.List.FromFn.{get_or-map-range_with_len}
use lib.ListN.{get_or, length}
use borrow.Author.Tests.{eqb-true}
use Rattle.p0_choice.specs.Choice.{among, each}
use Rattle.p0_choice.specs.Text.{word}
use Rattle.p0_choice.proofs.Choices.{pick_both}
use Rattle.p0_choice.proofs.Tables.{each_among, each_count}
use Rattle.p1_tone_block.specs.Mirror.{tone_block, letter_at, slot_of, place_in, letter_place}

-- ---- the places by their slots
block_length : length tone_block ≡ 72
unfolding tone_block word
block_length = refl

-- the place in a table of the places of all slots
pub by_slot : (places : List ℕ) (n : ℕ) → places ≡ map (place_in 0 tone_block) (range_with_len 0 128)
    → get_or places (n % 128) 0 ≡ place_in 0 tone_block (n % 128)
by_slot places n e = rw e (get_or-map-range_with_len (place_in 0 tone_block) 0 128 (n % 128) (n % 128) 0 (omega arith) (omega arith))

-- ---- a place is in the block
in_below : (n : ℕ) (xs : List ℕ) (slot m : ℕ) → 0 < m → n + length xs ≤ m → place_in n xs slot < m
unfolding place_in
in_below n [] slot m h k = h
in_below n (x ∷ xs) slot m h k =
    pick_both (λ (r : ℕ). r < m) (eqb slot (slot_of x)) n (place_in (suc n) xs slot)
    (λ e. omega arith) (λ e. in_below (suc n) xs slot m h (omega arith))

pub place_below : (x : ℕ) → letter_place x < 72
unfolding letter_place
place_below x = in_below 0 tone_block (slot_of x) 72 (omega arith) (rw block_length (omega arith))

-- ---- the letter at its place
letter_in_lem : (place : ℕ) → place < 72 → among (letter_at place) tone_block ≡ true
unfolding letter_at tone_block word
letter_in_lem place h = each_count (λ (p : ℕ). among (letter_at p) tone_block) 72 0 tt place (omega arith) h

placed : ℕ → Bool
placed x = eqb (letter_at (letter_place x)) x

placed_test : T (each placed tone_block)
unfolding placed letter_at letter_place place_in slot_of tone_block word
placed_test = tt

-- a letter of the block is found
pub place_right : (x : ℕ) → among x tone_block ≡ true → letter_at (letter_place x) ≡ x
unfolding placed
place_right x a = eqb-true (letter_at (letter_place x)) x (each_among placed tone_block placed_test x a)

-- and what is found is a letter of the block
pub place_only : (x : ℕ) → letter_at (letter_place x) ≡ x → among x tone_block ≡ true
place_only x e = ap (λ (y : ℕ). among y tone_block) (sym e) ∙ letter_in_lem (letter_place x) (place_below x)
