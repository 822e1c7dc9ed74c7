-- The law of specs/Runs, and every recipe as an instance of it: flat, from frame 0.
-- Assumes nothing.
use mathlib.Core.Path.{◌≡◌, subst}
use mathlib.Core.Bool.{true}
use Prim.Native.Nat.{ℕ, min}
use Rattle.machine.specs.Machine.{State}
use Rattle.label.specs.Label.{ranged}
use Rattle.label.specs.declared.Recipe.{Recipe}
use Rattle.label.proofs.Range.{m_low, m_high, n_high}
use Rattle.maker_spec.specs.Made.{flat}
use Rattle.maker_spec.specs.Bytes.{recipe_draws}
use Rattle.maker_law.proofs.Frames.{frame_flat}
use Rattle.maker_law.proofs.WellFormed.{drawable}
use Rattle.maker_run.specs.Runs.{state_made, MadeRun, recipe_input, recipe_state, MakerRuns}
use Rattle.maker_run.proofs.Accepted.{made_run}

frame_zero : (r : Recipe) → state_made flat (recipe_draws r) r.n ≡ recipe_state r
frame_zero r = λ x k. record { pc = min k r.n; fp = frame_flat (recipe_draws r) (min k r.n) x }

pub recipe_run : (r : Recipe) → ranged r ≡ true → MadeRun (recipe_input r) r.n (recipe_state r)
recipe_run r inside =
    subst (λ (state : ℕ → State). MadeRun (recipe_input r) r.n state) (frame_zero r)
    (made_run flat (recipe_draws r) (drawable r.version r.seed) r.n r.m (n_high r inside) (m_low r inside) (m_high r inside))

pub maker_runs : MakerRuns
maker_runs = record { of_draws = made_run; of_recipes = recipe_run }
