-- The kind is the form's, and each operand what `operand_of` promises.
use Rattle.form.proofs.Opcodes.{known}
use Rattle.form.proofs.known.decode_known.Goals as goal

pub returns : goal.returns
returns c = rw (c.kind_by.ensures, c.operand_of.ensures, c.operand_of-2.ensures, c.operand_of-3.ensures) (known _ c.requires)
