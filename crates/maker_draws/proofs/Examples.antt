-- Draws that were worked out by other means: none thrown away, one, eight, and a ninth that is at or above 2·p; at
-- other cells than the first, at several of one seed; and an instruction's draw above 2·p, which is taken.
-- Assumes nothing.
use mathlib.Core.Path.{◌≡◌, refl}
use mathlib.Core.Bool.{false}
use Rattle.draw.specs.Draw.{advance}
use Rattle.maker_draws.specs.Drawn.{state_after, drawn, kept, again, after_cells, draws_of}

-- document 01's first draw from seed 0
pub none_thrown : (after_cells 2 0 1 ≡ state_after 0 1) × ((draws_of 2 0).cell 0 ≡ 335903614)
unfolding state_after again after_cells advance
none_thrown = (refl, refl)

pub one_thrown : (after_cells 2 107 1 ≡ state_after 107 2) × ((draws_of 2 107).cell 0 ≡ 989706695)
unfolding state_after again after_cells advance
one_thrown = (refl, refl)

-- no other of its cells throws one away, so its instructions are drawn from the state after 33 draws
pub instructions_follow : (after_cells 2 107 32 ≡ state_after 107 33) × ((draws_of 2 107).kind 0 ≡ 3) × ((draws_of 2 107).a 0 ≡ 5) × ((draws_of 2 107).c 0 ≡ 19)
unfolding state_after again after_cells advance
instructions_follow = (refl, refl, refl, refl)

-- seed 00ffdb37cb0c5f43: the ninth draw, and in version 1 the first
pub eight_thrown : (after_cells 2 72017151737487171 1 ≡ state_after 72017151737487171 9)
    × ((draws_of 2 72017151737487171).cell 0 ≡ 1030086921)
    × (after_cells 1 72017151737487171 1 ≡ state_after 72017151737487171 1)
    × ((draws_of 1 72017151737487171).cell 0 ≡ 11282249)
unfolding state_after again after_cells advance
eight_thrown = (refl, refl, refl, refl)

-- seed f145d301722dd9a0: the ninth draw, though it is not one that is kept
pub ninth_taken : (after_cells 2 17385533939697703328 1 ≡ state_after 17385533939697703328 9)
    × (kept 2 (drawn 17385533939697703328 8) ≡ false)
    × ((draws_of 2 17385533939697703328).cell 0 ≡ 11894197)
unfolding state_after again after_cells advance
ninth_taken = (refl, refl, refl)

-- seed 7ec17cc095a397d9: eight for cell 0, and one each for cells 6 and 9, each cell having eight of its own
pub each_cell_eight : (after_cells 2 9133718685870168025 1 ≡ state_after 9133718685870168025 9)
    × (after_cells 2 9133718685870168025 32 ≡ state_after 9133718685870168025 42)
    × ((draws_of 2 9133718685870168025).cell 31 ≡ 1817072318)
unfolding state_after again after_cells advance
each_cell_eight = (refl, refl, refl)

-- seed 4487076f14def176: all eight for the last cell
pub last_cell_eight : (after_cells 2 4937923690107957622 31 ≡ state_after 4937923690107957622 31)
    × (after_cells 2 4937923690107957622 32 ≡ state_after 4937923690107957622 40)
    × ((draws_of 2 4937923690107957622).cell 31 ≡ 1030086921)
unfolding state_after again after_cells advance
last_cell_eight = (refl, refl, refl)

-- one each for cells 5 and 15; instruction 0's a is drawn above 2·p, and taken
pub instruction_kept : (after_cells 2 175 32 ≡ state_after 175 34)
    × (kept 2 (drawn (after_cells 2 175 32) 1) ≡ false)
    × ((draws_of 2 175).kind 0 ≡ 1)
    × ((draws_of 2 175).a 0 ≡ 14)
    × ((draws_of 2 175).c 0 ≡ 10)
unfolding state_after again after_cells advance
instruction_kept = (refl, refl, refl, refl, refl)
