-- The row's first word is pc, and its instruction is one of the program's.
use mathlib.Core.Path.{ap, ◌∙◌}
use mathlib.Core.Bool.{Bool, cond}
use Prim.Native.Nat.{ℕ, ◌*◌}
use native.Mathlib.Omega.{arith}
use Rattle.form.specs.Form.{opcode}
use Rattle.form.specs.Instruction.{instruction_at}
use Rattle.rows.specs.Rows.{exec_at}
use Rattle.bus_tuples.proofs.Pushing.{pushes_by}
use Rattle.bus_tuples.proofs.row.ListedRows.row_pushes.Goals as goal

pub instruction_inside-requires : goal.instruction_inside-requires
unfolding exec_at
instruction_inside-requires c =
    omega (arith, c.word_inside-pc.ensures, c.args.self.now.listed.inside c.args.r c.requires)

pub returns : goal.returns
unfolding exec_at
returns c =
    let program = c.args.self.now.program.now in
    let pc = (exec_at c.args.self.now.exec.now (32 * c.args.r)).pc in
    ap {B = ℕ} (λ b. cond b 1 0)
    (c.is_precompile.ensures
    ∙ ap {B = Bool} (λ i. opcode i 0 0 0) (c.instruction_inside.ensures ∙ ap (λ n. instruction_at program (48 * n)) c.word_inside-pc.ensures))
    ∙ pushes_by (instruction_at program (48 * pc)) (c.args.self.now.listed.formed pc (c.args.self.now.listed.inside c.args.r c.requires))
