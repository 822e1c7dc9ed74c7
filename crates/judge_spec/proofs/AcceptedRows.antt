-- A row of an accepted table has a pc in the program, and the instruction there is well-formed.
-- Assumes nothing.
use mathlib.Core.Path.{◌≡◌}
use mathlib.Core.Bool.{true}
use Prim.Native.Nat.{ℕ, ◌<◌}
use lib.Dec.{ltb→lt}
use Rattle.word.proofs.Tests.{is_true}
use Rattle.form.specs.Form.{well_formed}
use Rattle.answer.specs.Answers.{Accepted}
use Rattle.rules.specs.Bus.{instruction_of}
use Rattle.rules.specs.Execution.{exec_rules}
use Rattle.rules.specs.Sizes.{Parts, given_of, tables_of}
use Rattle.judge_spec.specs.Judged.{judge_of}
use Rattle.judge_spec.proofs.Exactly.{accepted_satisfies}

module _ (q : Parts) (e : judge_of q ≡ Accepted) (r : ℕ) (h : r < (tables_of q).height) where
  pub pc_in_program : ((tables_of q).exec r).pc < (given_of q).count
  unfolding exec_rules
  pc_in_program = ltb→lt _ _ ((accepted_satisfies q e).constraints.execution r h).0

  pub row_formed : well_formed (instruction_of (given_of q) (tables_of q) r) ≡ true
  row_formed = is_true _ ((accepted_satisfies q e).instructions _ pc_in_program)
