-- The bus of legal steps: below the end of step r's group as much is pulled as the steps up to r push, and padding
-- pulls nothing.
-- Assumes nothing.
use mathlib.Core.Path.{◌≡◌, refl, sym, ◌∙◌, ap, ap₂}
use Prim.Native.Nat.{ℕ, zero, suc, ◌+◌, ◌≤◌, ◌<◌}
use native.Mathlib.Omega.{arith}
use Rattle.rules.specs.Given.{Given}
use Rattle.rules.specs.Bus.{Tuple, pulls, total, pushed_to, pulled_to, same_tuple, pulled}
use Rattle.machine.specs.Machine.{State}
use Rattle.tables.specs.Rows.{exec_row_of}
use Rattle.tables.specs.Groups.{length_at, step_row, ext_row_of, filled}
use Rattle.run_steps.specs.Setting.{machine_in, Pushes}
use Rattle.run_groups.proofs.Padding.{padding_pulls}
use Rattle.run_tables.specs.Setting.{tabled}
use Rattle.rules.proofs.Totals.{counts_none, total_stays, total_split, total_same}
use Rattle.run_tables.proofs.Places.{row_of, row_past}
use Rattle.run_tables.proofs.Steps.{pulled_by, step_balance}

abbrev pulled_at : Given → (ℕ → State) → ℕ → Tuple → ℕ → ℕ
pulled_at g state height σ k = pulled_by σ (ext_row_of (machine_in g) state 0 height k)

module _ (g : Given) (state : ℕ → State) (height ext_height : ℕ) (pushes : (r : ℕ) → r < height → Pushes g (exec_row_of (machine_in g) (state r))) (σ : Tuple) where
  -- a group's rows in the table are its step's
  group_pulls : (r : ℕ) → r < height
      → total (λ j. pulled_at g state height σ (filled (machine_in g) state r + j)) (length_at (machine_in g) (state r))
      ≡ total (λ j. pulled_by σ (step_row (machine_in g) (state r) j)) (length_at (machine_in g) (state r))
  group_pulls r h = total_same _ _ _ (λ j l. ap (pulled_by σ) (row_of (machine_in g) state height (filled (machine_in g) state r + j) r j h l refl))

  pulled_below : (r : ℕ) → r ≤ height
      → pulled_to (tabled (machine_in g) state height ext_height) σ (filled (machine_in g) state r)
      ≡ pushed_to g (tabled (machine_in g) state height ext_height) σ r
  unfolding filled
  pulled_below zero h = refl
  pulled_below (suc r) h =
      total_split (pulled_at g state height σ) (filled (machine_in g) state r) (length_at (machine_in g) (state r))
      ∙ ap₂ ◌+◌ (pulled_below r (omega arith)) (group_pulls r h ∙ step_balance g σ (state r) (pushes r h))

  pub balanced_bus : filled (machine_in g) state height ≤ ext_height
      → pushed_to g (tabled (machine_in g) state height ext_height) σ height ≡ pulled_to (tabled (machine_in g) state height ext_height) σ ext_height
  balanced_bus room =
      sym
      (total_stays (pulled_at g state height σ) (filled (machine_in g) state height) ext_height room
      (λ k past _. counts_none (same_tuple (pulled (ext_row_of (machine_in g) state 0 height k)) σ) _ (ap pulls (row_past (machine_in g) state height k past) ∙ padding_pulls g.cell))
      ∙ pulled_below height (omega arith))
