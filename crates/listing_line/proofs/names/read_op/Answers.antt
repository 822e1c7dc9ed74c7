-- The letters are read behind the second of an extension's operation, or behind the first.
use borrow.Author.Tests.{ne_eqb}
use Rattle.std.proofs.lemmas.Result.{err_from_is_err_and}
use Rattle.listing_line.specs.Line.{op_tail}
use Rattle.listing_line.proofs.ByFields.{stop_op_letter, op_read}
use Rattle.listing_line.proofs.names.read_op.Goals as goal

pub returns-in_err-op : goal.returns-in_err-op
returns-in_err-op c =
    let a = c.args in
    let p = err_from_is_err_and c.from_residual.result c.from_residual.ensures.1 in
    rw (p.1, p.2) (stop_op_letter a.text.now a.kind.at a.kind.value c.if-kind-eq4.true c.in_err-op.ensures.read)

pub returns-then-kind-eq4 : goal.returns-then-kind-eq4
returns-then-kind-eq4 c =
    let a = c.args in
    op_read a.text.now a.kind.at a.kind.value c.if-kind-eq4.true c.in_ok-op.ensures.read c.rest_of_three.result c.rest_of_three.ensures

pub returns-in_err-at : goal.returns-in_err-at
unfolding op_tail
returns-in_err-at c =
    let p = err_from_is_err_and c.from_residual-in_err-at.result c.from_residual-in_err-at.ensures.1 in
    rw (p.1, p.2, ne_eqb c.args.kind.value 4 c.if-kind-eq4.false) c.in_err-at.ensures

pub returns : goal.returns
unfolding op_tail
returns c = rw (ne_eqb c.args.kind.value 4 c.if-kind-eq4.false) c.in_ok-at.ensures
