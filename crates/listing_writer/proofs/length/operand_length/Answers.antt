-- The mode's name and the digits.
use native.Mathlib.Omega.{arith}
use Rattle.listing_writer.proofs.length.operand_length.Goals as goal

pub returns-in-Immediate : goal.returns-in-Immediate
returns-in-Immediate c = rw c.in-Immediate.is (omega arith)

pub returns-in-Cell : goal.returns-in-Cell
returns-in-Cell c = rw c.in-Cell.is (omega arith)

pub returns-in-Frame : goal.returns-in-Frame
returns-in-Frame c = rw c.in-Frame.is (omega arith)
