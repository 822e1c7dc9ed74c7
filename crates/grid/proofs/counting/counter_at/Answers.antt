-- `grid::counting::counter_at` meets its contract: the instruction at the row's pc is there and well-formed.
use mathlib.Core.Path.{◌≡◌}
use native.Mathlib.Omega.{arith}
use Rattle.grid.proofs.RowForms.{here, form_read, pc_inside, well, few}
use Rattle.grid.proofs.counting.counter_at.Goals as goal

pub instruction_inside-requires : goal.instruction_inside-requires
instruction_inside-requires c =
    let rows = c.args.rows.now in
    omega (arith, c.word_inside-pc.ensures, pc_inside rows.program.now rows.exec.now c.args.r rows.listed c.requires)

pub counter_of-requires : goal.counter_of-requires
counter_of-requires c =
    let rows = c.args.rows.now in
    rw (c.instruction_inside.ensures, c.word_inside-pc.ensures) (well rows.program.now rows.exec.now c.args.r rows.listed c.requires)

pub returns : goal.returns
returns c =
    let rows = c.args.rows.now in
    let k : c.counter_of.result ≡ here rows.program.now rows.exec.now c.args.r =
    rw (c.counter_of.ensures, c.instruction_inside.ensures, c.word_inside-pc.ensures) (form_read rows.program.now rows.exec.now c.args.r) in
    (k, omega (arith, k, few rows.program.now rows.exec.now c.args.r rows.listed c.requires))
