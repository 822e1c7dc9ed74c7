-- Each test is what its function promises, and together they are those by which an instruction is known to be
-- well-formed.
use Rattle.form.proofs.Forms.{form_tests}
use Rattle.form.proofs.kinds.well_formed.Goals as goal

pub returns : goal.returns
returns c =
    let c4 = c in
    rw (
      c4.flags_fit.ensures,
      c4.is_add.ensures,
      c4.is_mul.ensures,
      c4.is_deref.ensures,
      c.is_jump.ensures,
      c.opcode.ensures,
      c.is_data.ensures,
    ) (form_tests _)
