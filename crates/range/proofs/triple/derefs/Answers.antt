-- The kind is in AUX, A and β are words 0 and 1.
use mathlib.Core.Path.{sym}
use Rattle.form.specs.Instruction.{instruction_at}
use Rattle.range.proofs.Words.{derefs_by_aux}
use Rattle.range.proofs.triple.derefs.Goals as goal

pub returns : goal.returns
unfolding instruction_at
returns c =
    let s = c in
    rw (c.word_inside.ensures, c.word_inside-2.ensures, c.word_inside-3.ensures)
    (sym (derefs_by_aux (instruction_at s.args.program.now s.args.at) s.args.x s.requires.at_value))
