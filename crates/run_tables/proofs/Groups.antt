-- The extension table of legal steps: inside a group a row is followed by the group's next row, at a group's end by a
-- row that starts one, and padding by padding.
-- Assumes nothing.
use mathlib.Core.Path.{◌≡◌, sym, ◌∙◌}
use Prim.Native.Nat.{ℕ, suc, ◌+◌, ◌≤◌, ◌<◌}
use native.Mathlib.Omega.{arith}
use Rattle.word.proofs.Tests.{by_order}
use Rattle.rows.specs.declared.Ext.{Ext}
use Rattle.rules.specs.Given.{Given, next}
use Rattle.rules.specs.Extension.{ext_rules}
use Rattle.rules.specs.Satisfies.{All}
use Rattle.machine.specs.Machine.{Machine, State}
use Rattle.tables.specs.Groups.{length_at, ext_row_of, filled}
use Rattle.run_steps.specs.Setting.{machine_in, Fit}
use Rattle.run_groups.proofs.Meaning.{RowWords}
use Rattle.run_groups.proofs.Pairs.{next_inner, next_later}
use Rattle.run_groups.proofs.Padding.{padding_words, padding_rules, padding_start}
use Rattle.run_tables.proofs.Places.{Where, filled_on, filled_grows, find, row_of, row_past}
use Rattle.run_tables.proofs.Places.Where.{group, past}
use Rattle.run_tables.proofs.Steps.{Calls, step_starts, step_words, step_inside, step_seam}

-- a row that lies where a group ends, or where the first one starts, is the first of its own
first_there : (m : Machine) (state : ℕ → State) (r r' j : ℕ) → j < length_at m (state r') → filled m state r ≡ filled m state r' + j → j ≡ 0
first_there m state r r' j l e =
    by_order r' r (λ below. absurd (omega (arith, filled_on m state r', filled_grows m state (suc r') r below)))
    (λ above. omega (arith, filled_grows m state r r' above))

module _ (g : Given) (state : ℕ → State) (height : ℕ) where
  -- so it starts a group, or is padding
  seam_starts : (r k : ℕ) → k ≡ filled (machine_in g) state r → (ext_row_of (machine_in g) state 0 height k).start ≡ 1
  seam_starts r k at = go (find (machine_in g) state height k)
    where
      go : Where (machine_in g) state height k → (ext_row_of (machine_in g) state 0 height k).start ≡ 1
      go (past h) = rw (row_past (machine_in g) state height k h) (padding_start g.cell)
      go (group r' j h l e) =
          let first = first_there (machine_in g) state r r' j l (sym at ∙ e) in
          rw (row_of (machine_in g) state height k r' j h l e, first) (step_starts g (state r') (omega arith))

  module _ (fit : Fit g) (five : 5 ≤ g.size) (calls : (r : ℕ) → r < height → Calls g (state r)) where
    pub group_words : (k : ℕ) → RowWords (ext_row_of (machine_in g) state 0 height k)
    group_words k = go (find (machine_in g) state height k)
      where
        go : Where (machine_in g) state height k → RowWords (ext_row_of (machine_in g) state 0 height k)
        go (past h) = rw (row_past (machine_in g) state height k h) (padding_words g five fit.cells)
        go (group r j h l e) = rw (row_of (machine_in g) state height k r j h l e) (step_words g (state r) (calls r h) j l)

    pub group_rules : (ext_height : ℕ) → filled (machine_in g) state height + 1 ≤ ext_height → (k : ℕ)
        → All (ext_rules g (ext_row_of (machine_in g) state 0 height k) (ext_row_of (machine_in g) state 0 height (next ext_height k)))
    group_rules ext_height room k = go (find (machine_in g) state height k)
      where
        ext : ℕ → Ext
        ext = ext_row_of (machine_in g) state 0 height

        within : (r j : ℕ) → r < height → j < length_at (machine_in g) (state r) → k ≡ filled (machine_in g) state r + j → All (ext_rules g (ext k) (ext (k + 1)))
        within r j h l e =
            by_order (j + 1) (length_at (machine_in g) (state r))
            (λ more.
            rw (row_of (machine_in g) state height k r j h l e, row_of (machine_in g) state height (k + 1) r (j + 1) h more (omega arith))
            (step_inside g (state r) (calls r h) j more))
            (λ last.
            rw (row_of (machine_in g) state height k r j h l e)
            (step_seam g (state r) (calls r h) j (omega arith) _ (seam_starts (suc r) (k + 1) (omega (arith, filled_on (machine_in g) state r)))))

        go : Where (machine_in g) state height k → All (ext_rules g (ext k) (ext (next ext_height k)))
        go (past h) =
            rw (row_past (machine_in g) state height k h)
            (padding_rules g five _
            (rw (row_past (machine_in g) state height (next ext_height k) (omega (arith, next_later ext_height k))) (padding_start g.cell)))
        go (group r j h l e) =
            let inside : k + 1 < ext_height = omega (arith, filled_on (machine_in g) state r, filled_grows (machine_in g) state (suc r) height h) in
            rw (next_inner ext_height k inside) (within r j h l e)
