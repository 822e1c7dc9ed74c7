-- The invariant: what may still be drawn ends where it would from the first draw.
use mathlib.Core.Path.{◌≡◌}
use Prim.Native.Nat.{◌-◌}
use Rattle.draw.specs.Draw.{advance}
use Rattle.maker_draws.specs.Drawn.{again, after_cell}
use Rattle.maker_draws.proofs.draw_cell.Given as goal

abbrev pub invariant-loop-thrown : goal.invariant-loop-thrown
invariant-loop-thrown l = after_cell l.version l.fn.generator.state ≡ again l.version (8 - l._thrown) (advance l.generator.state)
