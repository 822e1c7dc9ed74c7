-- Document 02, M-106: a jump of any number of draws. "A jump of j equals j single advances."
-- Declared in src/: Generator (draw).
use Rattle.std.specs.Prelude.{ℕ, zero, suc}
use Rattle.draw.specs.Draw.{advance, draw_of}
use Rattle.draw.specs.declared.Generator.{Generator}

-- n advances of a state, one after the other
unfoldable pub advances : ℕ → ℕ → ℕ
advances zero s = s
advances (suc n) s = advance (advances n s)

-- the generator n draws further on: what a jump of n gives
abbrev pub after : ℕ → Generator → Generator
after n g = record { state = advances n g.state }

-- draw i of a generator's stream, from 0 on
abbrev pub draw_at : ℕ → Generator → ℕ
draw_at i g = (draw_of (after i g)).number
