-- Demand 3, together: where the run of an accepted pair of H rows leaves a spare row in K, it is written as tables that
-- are accepted and are that pair's: H rows, with its pc and fp on every row, of which the last stays.
-- Assumes nothing.
use mathlib.Core.List.{List}
use Prim.Native.Nat.{ℕ}
use Rattle.run.specs.Runs.{Input, JudgeAccepts, Spare, WrittenAs, rows_in, row_state, written_exec, written_ext}
use Rattle.run.proofs.Sound.{accepted_permitted, sound}
use Rattle.run.proofs.Converse.{converse}

pub written_agrees : (i : Input) (exec ext : List ℕ) → JudgeAccepts i exec ext → (ext_height : ℕ) → Spare i (rows_in exec) ext_height (row_state exec)
    → (let state = row_state exec in let height = rows_in exec in WrittenAs i height ext_height state (written_exec i height state) (written_ext i height ext_height state))
written_agrees i exec ext accepted ext_height spare =
    converse i (accepted_permitted i exec ext accepted) (rows_in exec) ext_height (row_state exec) (sound i exec ext accepted) spare
