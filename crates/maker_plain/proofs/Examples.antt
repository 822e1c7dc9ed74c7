-- A run that changes frames, worked out by hand: a jump into frame 31 that is taken, then an ADD of cells 0 and 31 into
-- cell 40, whose first offset wraps; then a jump to frame 7 that is not taken.
-- Assumes nothing.
use mathlib.Core.Path.{◌≡◌, refl}
use Prim.Native.Nat.{ℕ, zero, suc, ◌*◌}
use Rattle.word.specs.Word.{◌+ₚ◌, ◌-ₚ◌}
use Rattle.maker_draws.specs.Drawn.{Draws}
use Rattle.maker_spec.specs.Made.{flat, frames, jump_to, jump_into, frame_at, instruction_made, cell_of}

abbrev pub kinds : ℕ → ℕ
kinds zero = 3
kinds (suc zero) = 0
kinds (suc (suc i)) = 3

abbrev pub lefts : ℕ → ℕ
lefts zero = 31
lefts (suc zero) = 0
lefts (suc (suc i)) = 7

abbrev pub rights : ℕ → ℕ
rights zero = 1
rights (suc zero) = 31
rights (suc (suc i)) = 2

abbrev pub example_draws : Draws
example_draws = record { cell = λ k. 7 * k; kind = kinds; a = lefts; c = rights }

-- the frames before the four instructions; in the flat profile all are 0
pub example_frames : (frame_at frames example_draws 0 ≡ 0) × (frame_at frames example_draws 1 ≡ 31) × (frame_at frames example_draws 2 ≡ 31) × (frame_at frames example_draws 3 ≡ 31)
    × (frame_at flat example_draws 3 ≡ 0)
unfolding frame_at
example_frames = (refl, refl, refl, refl, refl)

-- each jump's new frame is from its cell T, 32 and 48, at the offset from the frame before it; the halt is as in flat
pub example_jumps : (instruction_made frames example_draws 3 0 ≡ jump_into 1 1 32) × (instruction_made frames example_draws 3 2 ≡ jump_into 0 3 17)
    × (instruction_made frames example_draws 3 3 ≡ jump_to 1 3) × (instruction_made flat example_draws 3 0 ≡ jump_to 1 1)
unfolding frame_at ◌-ₚ◌
example_jumps = (refl, refl, refl, refl)

-- cells 0, 40 and 31 from frame 31: p - 31, 9 and 0
pub example_add : ((instruction_made frames example_draws 3 1).a ≡ 2130706402) × ((instruction_made frames example_draws 3 1).b ≡ 9) × ((instruction_made frames example_draws 3 1).c ≡ 0)
unfolding frame_at ◌-ₚ◌
example_add = (refl, refl, refl)

-- a stands in cell T of both jumps, taken or not, and in no other cell of their slots; in flat they have none
pub example_cells : (cell_of frames example_draws 3 32 ≡ 31) × (cell_of frames example_draws 3 33 ≡ 0) × (cell_of frames example_draws 3 40 ≡ 217) × (cell_of frames example_draws 3 48 ≡ 7)
    × (cell_of frames example_draws 3 49 ≡ 0) × (cell_of flat example_draws 3 32 ≡ 0)
unfolding cell_of ◌+ₚ◌
example_cells = (refl, refl, refl, refl, refl, refl)
