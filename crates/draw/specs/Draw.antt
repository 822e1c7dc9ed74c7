-- Document 01, "Draws, recipe, label": the generator and a draw. The constants are Knuth's MMIX line.
-- Declared in src/: Generator, Drawn (here).
use Rattle.std.specs.Prelude.{ℕ, ◌+◌, ◌*◌, ◌/◌, ◌%◌, ◌^◌}
use Rattle.draw.specs.declared.Generator.{Generator}
use Rattle.draw.specs.declared.Drawn.{Drawn}

-- the state after s
unfoldable pub advance : ℕ → ℕ
advance s = (6364136223846793005 * s + 1442695040888963407) % 2 ^ 64

-- the upper 32 bits of the advanced state, beside the advanced generator
abbrev pub draw_of : Generator → Drawn
draw_of g = record { number = advance g.state / 2 ^ 32; next = record { state = advance g.state } }
