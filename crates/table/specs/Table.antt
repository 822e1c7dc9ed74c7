-- Document 01, "Draws, recipe, label": what the table program writes for a text.
use Rattle.std.specs.Prelude.{ℕ, cond, List, [], eqb}
use Rattle.label.specs.Reading.{Reading}
use Rattle.answer.specs.Verdicts.{accepted}
use Rattle.program_build.specs.Recipes.{four_parts}

-- parts 1 to 4 in order; nothing for a bad label or another m than 10
unfoldable pub table_output : Reading → List ℕ
table_output r = cond (accepted r.answer) (cond (eqb r.recipe.m 10) (four_parts r.recipe) []) []
