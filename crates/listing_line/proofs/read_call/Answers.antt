-- Each field's promise, one behind the other.
use mathlib.Core.Path.{ap, sym, ◌∙◌}
use borrow.Author.Tests.{ne_eqb}
use lib.Dec.{eqb}
use lib.ListN.{drop}
use Rattle.std.proofs.lemmas.Result.{err_from_is_err_and}
use Rattle.form.specs.declared.Op.{Op}
use Rattle.form.specs.declared.Kind.{Kind}
use Rattle.form.specs.declared.Kind.TheVariants.{Extension}
use Rattle.text_patterns.specs.Pattern.{got}
use Rattle.listing_line.specs.Line.{form_from}
use Rattle.listing_line.proofs.ByFields.{stop_be_text, stop_be, stop_n_text, stop_n, call_read, no_call}
use Rattle.listing_line.proofs.read_call.Goals as goal

pub returns-in_err-at_be : goal.returns-in_err-at_be
returns-in_err-at_be c =
    let a = c.args in
    let r = c.in_err-at_be.ensures.read in
    let p = err_from_is_err_and c.from_residual.result c.from_residual.ensures.1 in
    rw (p.1, p.2) (record { inside = r.inside; read = stop_be_text a.text.now a.at a.kind a.op a.a a.b a.c c.if-kind-eq4.true r })

pub returns-in_err-be : goal.returns-in_err-be
returns-in_err-be c =
    let a = c.args in
    let r = c.in_err-be.ensures.read in
    let p = err_from_is_err_and c.from_residual-in_err-be.result c.from_residual-in_err-be.ensures.1 in
    rw (p.1, p.2) (record { inside = r.inside; read = stop_be a.text.now a.at a.kind a.op a.a a.b a.c c.if-kind-eq4.true c.in_ok-at_be.ensures.read r })

pub returns-in_err-at_n : goal.returns-in_err-at_n
returns-in_err-at_n c =
    let a = c.args in
    let r = c.in_err-at_n.ensures.read in
    let p = err_from_is_err_and c.from_residual-in_err-at_n.result c.from_residual-in_err-at_n.ensures.1 in
    rw (p.1, p.2) (record { inside = r.inside; read = stop_n_text a.text.now a.at a.kind a.op a.a a.b a.c c.if-kind-eq4.true c.in_ok-at_be.ensures.read c.in_ok-be.ensures.read r })

pub returns-in_err-n : goal.returns-in_err-n
returns-in_err-n c =
    let a = c.args in
    let r = c.in_err-n.ensures.read in
    let p = err_from_is_err_and c.from_residual-in_err-n.result c.from_residual-in_err-n.ensures.1 in
    rw (p.1, p.2) (record { inside = r.inside; read = stop_n a.text.now a.at a.kind a.op a.a a.b a.c c.if-kind-eq4.true c.in_ok-at_be.ensures.read c.in_ok-be.ensures.read c.in_ok-at_n.ensures.read r })

pub returns-then-kind-eq4 : goal.returns-then-kind-eq4
returns-then-kind-eq4 c =
    let a = c.args in
    let n = c.in_ok-n.n in
    record {
      inside = c.in_ok-n.ensures.read.inside;
      read =
          call_read a.text.now a.at a.kind a.op a.a a.b a.c c.if-kind-eq4.true c.in_ok-at_be.ensures.read c.in_ok-be.ensures.read c.in_ok-at_n.ensures.read c.in_ok-n.ensures.read
          ∙ ap (λ (o : Op). got (form_from (Extension o (eqb c.in_ok-be.be.value 1) n.value) a.a a.b a.c) (drop n.at a.text.now)) (sym c.op_of.ensures);
    }

pub returns : goal.returns
returns c =
    let a = c.args in
    record {
      inside = c.requires;
      read =
          no_call a.kind a.op a.a a.b a.c (drop a.at a.text.now) (ne_eqb a.kind 4 c.if-kind-eq4.false)
          ∙ ap (λ (k : Kind). got (form_from k a.a a.b a.c) (drop a.at a.text.now)) (sym c.plain_kind-kind.ensures);
    }
