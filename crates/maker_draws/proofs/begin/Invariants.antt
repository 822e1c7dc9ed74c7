-- The invariant: the state is the one after k cells, and the first k cells are those drawn.
use mathlib.Core.Path.{◌≡◌}
use lib.ListN.{length, take}
use Rattle.maker_draws.specs.Drawn.{after_cells, cells_drawn}
use Rattle.maker_draws.proofs.begin.Given as goal

abbrev pub invariant-loop-k : goal.invariant-loop-k
invariant-loop-k l = record {
  long : length l.cells ≡ 32;
  state : l.generator.state ≡ after_cells l.version l.fn.generator.state l.k;
  cells : take l.k l.cells ≡ cells_drawn l.version l.fn.generator.state l.k;
}
