-- Five pieces, each where the one before it ends.
use native.Mathlib.Omega.{arith}
use Rattle.listing_writer.proofs.Pieces.{pieces_length, line_put}
use Rattle.listing_writer.proofs.line.put_form.Goals as goal

pub put_op-requires : goal.put_op-requires
put_op-requires c = omega (arith, pieces_length c.args.f)

pub put_operand-requires : goal.put_operand-requires
put_operand-requires c = omega (arith, pieces_length c.args.f)

pub put_operand-requires-2 : goal.put_operand-requires-2
put_operand-requires-2 c = omega (arith, pieces_length c.args.f)

pub put_operand-requires-3 : goal.put_operand-requires-3
put_operand-requires-3 c = rw c.end_byte.ensures (omega (arith, pieces_length c.args.f))

pub put_call-requires : goal.put_call-requires
put_call-requires c =
    let fourth = rw c.end_byte.ensures at c.put_operand-3.ensures in
    omega (arith, pieces_length c.args.f)

pub returns : goal.returns
returns c =
    line_put c.args.f c.requires c.put_op.ensures c.put_operand.ensures c.put_operand-2.ensures (rw c.end_byte.ensures at c.put_operand-3.ensures)
    c.put_call.ensures
