-- Ten words and four times five, put one after the other, fill the 120 bytes.
use Rattle.std.proofs.Common.{◌∙◌, refl, arith}
use Rattle.rows.specs.Rows.{ext_words}
use Rattle.rows.proofs.RowLaws.{fives_put}
use Rattle.rows.proofs.Writing.{row_put, row_left}
use Rattle.rows.proofs.extension.put_ext.Goals as goal

pub returns-then-s-ne120 : goal.returns-then-s-ne120
returns-then-s-ne120 c = row_left _ _ _ c.if-s-ne120.true

pub returns : goal.returns
returns c =
    let x = c.args.x in
    rw (c.put_from-4.ensures, c.put_from-3.ensures, c.put_from-2.ensures, c.put_from.ensures) at c.put_from-5.ensures
    ∙ fives_put _ x.vA x.vB x.comp x.res (omega arith) (omega arith) (omega arith) (omega arith)
    ∙ row_put c.args.s.now 120 (ext_words x) c.if-s-ne120.false refl
