-- The invariant: the state is the one 3i draws after the cells, i instructions and 32 + 8i cells stand at the front of
-- their buffers, and behind them what stood there.
use mathlib.Core.List.{◌++◌}
use mathlib.Core.Path.{◌≡◌}
use Prim.Native.Nat.{◌+◌, ◌*◌}
use lib.ListN.{drop}
use Rattle.maker_draws.specs.Drawn.{state_after, after_cells}
use Rattle.maker_spec.specs.Made.{flat}
use Rattle.maker_spec.specs.Bytes.{instructions_of, cells_of, recipe_draws}
use Rattle.maker.proofs.write.put_all.Given as goal

abbrev pub invariant-loop-i : goal.invariant-loop-i
invariant-loop-i l = record {
  state : l.generator.state ≡ state_after (after_cells l.fn.recipe.version l.fn.recipe.seed 32) (3 * l.i);
  program : l.program ≡ instructions_of flat (recipe_draws l.fn.recipe) l.fn.recipe.n l.i ++ drop (48 * l.i) l.initial.program;
  memory : l.memory ≡ cells_of flat (recipe_draws l.fn.recipe) l.fn.recipe.n (32 + 8 * l.i) ++ drop (128 + 32 * l.i) l.initial.memory;
}
