-- DATA of one or two elements is below 128, so the cast loses nothing.
use Prim.Native.Nat.{◌+◌, ◌%◌}
use native.Mathlib.Omega.{arith}
use Rattle.maker_spec.specs.Made.{be_picked}
use Rattle.maker_law.proofs.Making.{data_small}
use Rattle.maker.proofs.instructions.data_of.Goals as goal

pub overflow_cast-result : goal.overflow_cast-result
overflow_cast-result c =
    let d = c.data_word.ensures in
    record { fits = omega (arith, d, data_small c.op_of.result (be_picked c.args.c) (1 + c.args.c % 2) (omega arith)) }

pub returns : goal.returns
returns c = rw (c.data_word.ensures, c.op_of.ensures)
