-- The key, and then the number behind its mode's name.
use native.Mathlib.Omega.{arith}
use mathlib.Core.Path.{refl}
use Rattle.listing_writer.proofs.Pieces.{operand_length, operand_put}
use Rattle.listing_writer.proofs.line.put_operand.Goals as goal

pub put-requires : goal.put-requires
put-requires c = omega (arith, operand_length c.args.key.now c.args.o c.args.end refl)

pub put_number-requires : goal.put_number-requires
put_number-requires c =
    rw c.from-number.ensures (omega (arith, operand_length c.args.key.now c.args.o c.args.end c.in-Immediate.is))

pub put_number-requires-in-Cell : goal.put_number-requires-in-Cell
put_number-requires-in-Cell c =
    rw c.from-number.ensures (omega (arith, operand_length c.args.key.now c.args.o c.args.end c.in-Cell.is))

pub put_number-requires-in-Frame : goal.put_number-requires-in-Frame
put_number-requires-in-Frame c =
    rw c.from-number.ensures (omega (arith, operand_length c.args.key.now c.args.o c.args.end c.in-Frame.is))

pub returns-in-Immediate : goal.returns-in-Immediate
returns-in-Immediate c =
    operand_put c.args.key.now c.args.o c.args.end c.in-Immediate.is c.requires c.put.ensures (rw c.from-number.ensures at c.put_number.ensures)

pub returns-in-Cell : goal.returns-in-Cell
returns-in-Cell c =
    operand_put c.args.key.now c.args.o c.args.end c.in-Cell.is c.requires c.put.ensures (rw c.from-number.ensures at c.put_number-in-Cell.ensures)

pub returns-in-Frame : goal.returns-in-Frame
returns-in-Frame c =
    operand_put c.args.key.now c.args.o c.args.end c.in-Frame.is c.requires c.put.ensures (rw c.from-number.ensures at c.put_number-in-Frame.ensures)
