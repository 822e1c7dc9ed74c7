-- The kind is in AUX, and the modes in four flags.
use mathlib.Core.Path.{sym}
use Rattle.form.specs.Instruction.{instruction_at}
use Rattle.range.proofs.Words.{adds_by_aux}
use Rattle.range.proofs.triple.adds.Goals as goal

pub returns : goal.returns
unfolding instruction_at
returns c =
    let s = c in
    rw (
      c.word_inside.ensures,
      c.word_inside-2.ensures,
      c.word_inside-3.ensures,
      c.word_inside-4.ensures,
      c.word_inside-5.ensures,
    )
    (sym (adds_by_aux (instruction_at s.args.program.now s.args.at) s.requires.at_value))
