-- The invariant: what is left of the number and the bytes that stand make the line.
use mathlib.Core.Path.{sym, ◌∙◌}
use borrow.Author.Rules.{rules}
use lib.ListN.{length-set}
use Rattle.label.proofs.HexLine.{digit_stored, all_stored}
use Rattle.label.proofs.writer.hex_line.Goals as goal

pub loop-i-preserved : goal.loop-i-preserved
loop-i-preserved c =
    let l = c.loop-i in (
      simp length-set l.invariant.0,
      rw c.hex_digit.ensures (sym (digit_stored l.bytes l.rest l.i (search rules) (search rules)) ∙ l.invariant.1),
    )

pub returns : goal.returns
returns c =
    let l = c.loop-i in
    sym (all_stored l.bytes l.rest l.i (search rules)) ∙ l.invariant.1
