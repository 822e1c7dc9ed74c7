-- Each field's promise, one behind the other, up to operand c; and what is behind it.
use Rattle.std.proofs.lemmas.Result.{err_from_is_err_and}
use Rattle.listing_line.specs.Line.{operand_from, line_fields, from_call}
use Rattle.listing_line.proofs.ByFields.{through, stop_op_text, stop_kind, stop_op, stop_a_text, to_a, stop_a_mode, stop_a, behind_a, stop_b_text, stop_b_mode, stop_b, behind_b, stop_c_text, stop_c_mode, stop_c, behind_c}
use Rattle.listing_line.proofs.read_fields.Goals as goal

pub returns-in_err-at_op : goal.returns-in_err-at_op
returns-in_err-at_op c =
    let text = c.args.text.now in
    let from = c.args.from in
    let r = c.in_err-at_op.ensures.read in
    let p = err_from_is_err_and c.from_residual.result c.from_residual.ensures.1 in
    rw (p.1, p.2) (record { inside = r.inside; read = stop_op_text text from r })

pub returns-in_err-kind : goal.returns-in_err-kind
returns-in_err-kind c =
    let text = c.args.text.now in
    let from = c.args.from in
    let r = c.in_err-kind.ensures.read in
    let p = err_from_is_err_and c.from_residual-in_err-kind.result c.from_residual-in_err-kind.ensures.1 in
    rw (p.1, p.2) (record { inside = r.inside; read = stop_kind text from c.in_ok-at_op.ensures.read r })

pub returns-in_err-op : goal.returns-in_err-op
returns-in_err-op c =
    let text = c.args.text.now in
    let from = c.args.from in
    let r = c.in_err-op.ensures in
    let p = err_from_is_err_and c.from_residual-in_err-op.result c.from_residual-in_err-op.ensures.1 in
    rw (p.1, p.2) (record { inside = r.inside; read = stop_op text from c.in_ok-at_op.ensures.read c.in_ok-kind.ensures.read r })

pub returns-in_err-at_a : goal.returns-in_err-at_a
returns-in_err-at_a c =
    let text = c.args.text.now in
    let from = c.args.from in
    let r = c.in_err-at_a.ensures.read in
    let p = err_from_is_err_and c.from_residual-in_err-at_a.result c.from_residual-in_err-at_a.ensures.1 in
    rw (p.1, p.2) (record { inside = r.inside; read = stop_a_text text from c.in_ok-at_op.ensures.read c.in_ok-kind.ensures.read c.in_ok-op.ensures r })

pub returns-in_err-a_mode : goal.returns-in_err-a_mode
returns-in_err-a_mode c =
    let text = c.args.text.now in
    let from = c.args.from in
    let k = c.in_ok-kind.kind.value in
    let o = c.in_ok-op.op.value in
    let to_a = to_a text from c.in_ok-at_op.ensures.read c.in_ok-kind.ensures.read c.in_ok-op.ensures c.in_ok-at_a.ensures.read in
    let r = rw c.a_range.ensures at c.in_err-a_mode.ensures in
    let p = err_from_is_err_and c.from_residual-in_err-a_mode.result c.from_residual-in_err-a_mode.ensures.1 in
    rw (p.1, p.2) (record { inside = r.inside; read = stop_a_mode text from k o to_a r })

pub returns-in_err-a : goal.returns-in_err-a
returns-in_err-a c =
    let text = c.args.text.now in
    let from = c.args.from in
    let k = c.in_ok-kind.kind.value in
    let o = c.in_ok-op.op.value in
    let to_a = to_a text from c.in_ok-at_op.ensures.read c.in_ok-kind.ensures.read c.in_ok-op.ensures c.in_ok-at_a.ensures.read in
    let r = c.in_err-a.ensures.read in
    let p = err_from_is_err_and c.from_residual-in_err-a.result c.from_residual-in_err-a.ensures.1 in
    rw (p.1, p.2) (record { inside = r.inside; read = stop_a text from k o to_a (rw c.a_range.ensures at c.in_ok-a_mode.ensures) r })

pub returns-in_err-at_b : goal.returns-in_err-at_b
returns-in_err-at_b c =
    let text = c.args.text.now in
    let from = c.args.from in
    let k = c.in_ok-kind.kind.value in
    let o = c.in_ok-op.op.value in
    let to_a = to_a text from c.in_ok-at_op.ensures.read c.in_ok-kind.ensures.read c.in_ok-op.ensures c.in_ok-at_a.ensures.read in
    let to_b = behind_a text from k o to_a (rw c.a_range.ensures at c.in_ok-a_mode.ensures) c.in_ok-a.ensures.read in
    let ma = c.in_ok-a_mode.a_mode.value in
    let wa = c.in_ok-a.a.value in
    let r = c.in_err-at_b.ensures.read in
    let p = err_from_is_err_and c.from_residual-in_err-at_b.result c.from_residual-in_err-at_b.ensures.1 in
    rw (p.1, p.2) (record { inside = r.inside; read = stop_b_text text from k o ma wa to_b r })

pub returns-in_err-b_mode : goal.returns-in_err-b_mode
returns-in_err-b_mode c =
    let text = c.args.text.now in
    let from = c.args.from in
    let k = c.in_ok-kind.kind.value in
    let o = c.in_ok-op.op.value in
    let to_a = to_a text from c.in_ok-at_op.ensures.read c.in_ok-kind.ensures.read c.in_ok-op.ensures c.in_ok-at_a.ensures.read in
    let to_b = behind_a text from k o to_a (rw c.a_range.ensures at c.in_ok-a_mode.ensures) c.in_ok-a.ensures.read in
    let ma = c.in_ok-a_mode.a_mode.value in
    let wa = c.in_ok-a.a.value in
    let r = rw c.b_range.ensures at c.in_err-b_mode.ensures in
    let p = err_from_is_err_and c.from_residual-in_err-b_mode.result c.from_residual-in_err-b_mode.ensures.1 in
    rw (p.1, p.2) (record { inside = r.inside; read = stop_b_mode text from k o ma wa to_b c.in_ok-at_b.ensures.read r })

pub returns-in_err-b : goal.returns-in_err-b
returns-in_err-b c =
    let text = c.args.text.now in
    let from = c.args.from in
    let k = c.in_ok-kind.kind.value in
    let o = c.in_ok-op.op.value in
    let to_a = to_a text from c.in_ok-at_op.ensures.read c.in_ok-kind.ensures.read c.in_ok-op.ensures c.in_ok-at_a.ensures.read in
    let to_b = behind_a text from k o to_a (rw c.a_range.ensures at c.in_ok-a_mode.ensures) c.in_ok-a.ensures.read in
    let ma = c.in_ok-a_mode.a_mode.value in
    let wa = c.in_ok-a.a.value in
    let r = c.in_err-b.ensures.read in
    let p = err_from_is_err_and c.from_residual-in_err-b.result c.from_residual-in_err-b.ensures.1 in
    rw (p.1, p.2) (record { inside = r.inside; read = stop_b text from k o ma wa to_b c.in_ok-at_b.ensures.read (rw c.b_range.ensures at c.in_ok-b_mode.ensures) r })

pub returns-in_err-at_c : goal.returns-in_err-at_c
returns-in_err-at_c c =
    let text = c.args.text.now in
    let from = c.args.from in
    let k = c.in_ok-kind.kind.value in
    let o = c.in_ok-op.op.value in
    let to_a = to_a text from c.in_ok-at_op.ensures.read c.in_ok-kind.ensures.read c.in_ok-op.ensures c.in_ok-at_a.ensures.read in
    let to_b = behind_a text from k o to_a (rw c.a_range.ensures at c.in_ok-a_mode.ensures) c.in_ok-a.ensures.read in
    let ma = c.in_ok-a_mode.a_mode.value in
    let wa = c.in_ok-a.a.value in
    let to_c = behind_b text from k o ma wa to_b c.in_ok-at_b.ensures.read (rw c.b_range.ensures at c.in_ok-b_mode.ensures) c.in_ok-b.ensures.read in
    let b = operand_from c.in_ok-b_mode.b_mode.value c.in_ok-b.b.value in
    let r = c.in_err-at_c.ensures.read in
    let p = err_from_is_err_and c.from_residual-in_err-at_c.result c.from_residual-in_err-at_c.ensures.1 in
    rw (p.1, p.2) (record { inside = r.inside; read = stop_c_text text from k o (operand_from ma wa) b to_c r })

pub returns-in_err-c_mode : goal.returns-in_err-c_mode
returns-in_err-c_mode c =
    let text = c.args.text.now in
    let from = c.args.from in
    let k = c.in_ok-kind.kind.value in
    let o = c.in_ok-op.op.value in
    let to_a = to_a text from c.in_ok-at_op.ensures.read c.in_ok-kind.ensures.read c.in_ok-op.ensures c.in_ok-at_a.ensures.read in
    let to_b = behind_a text from k o to_a (rw c.a_range.ensures at c.in_ok-a_mode.ensures) c.in_ok-a.ensures.read in
    let ma = c.in_ok-a_mode.a_mode.value in
    let wa = c.in_ok-a.a.value in
    let to_c = behind_b text from k o ma wa to_b c.in_ok-at_b.ensures.read (rw c.b_range.ensures at c.in_ok-b_mode.ensures) c.in_ok-b.ensures.read in
    let b = operand_from c.in_ok-b_mode.b_mode.value c.in_ok-b.b.value in
    let r = rw c.c_range.ensures at c.in_err-c_mode.ensures in
    let p = err_from_is_err_and c.from_residual-in_err-c_mode.result c.from_residual-in_err-c_mode.ensures.1 in
    rw (p.1, p.2) (record { inside = r.inside; read = stop_c_mode text from k o (operand_from ma wa) b to_c c.in_ok-at_c.ensures.read r })

pub returns-in_err-c : goal.returns-in_err-c
returns-in_err-c c =
    let text = c.args.text.now in
    let from = c.args.from in
    let k = c.in_ok-kind.kind.value in
    let o = c.in_ok-op.op.value in
    let to_a = to_a text from c.in_ok-at_op.ensures.read c.in_ok-kind.ensures.read c.in_ok-op.ensures c.in_ok-at_a.ensures.read in
    let to_b = behind_a text from k o to_a (rw c.a_range.ensures at c.in_ok-a_mode.ensures) c.in_ok-a.ensures.read in
    let ma = c.in_ok-a_mode.a_mode.value in
    let wa = c.in_ok-a.a.value in
    let to_c = behind_b text from k o ma wa to_b c.in_ok-at_b.ensures.read (rw c.b_range.ensures at c.in_ok-b_mode.ensures) c.in_ok-b.ensures.read in
    let b = operand_from c.in_ok-b_mode.b_mode.value c.in_ok-b.b.value in
    let r = rw c.last_end.ensures at c.in_err-c.ensures.read in
    let p = err_from_is_err_and c.from_residual-in_err-c.result c.from_residual-in_err-c.ensures.1 in
    rw (p.1, p.2) (record { inside = r.inside; read = stop_c text from k o (operand_from ma wa) b to_c c.in_ok-at_c.ensures.read (rw c.c_range.ensures at c.in_ok-c_mode.ensures) r })

pub returns : goal.returns
returns c =
    let text = c.args.text.now in
    let from = c.args.from in
    let k = c.in_ok-kind.kind.value in
    let o = c.in_ok-op.op.value in
    let to_a = to_a text from c.in_ok-at_op.ensures.read c.in_ok-kind.ensures.read c.in_ok-op.ensures c.in_ok-at_a.ensures.read in
    let to_b = behind_a text from k o to_a (rw c.a_range.ensures at c.in_ok-a_mode.ensures) c.in_ok-a.ensures.read in
    let ma = c.in_ok-a_mode.a_mode.value in
    let wa = c.in_ok-a.a.value in
    let to_c = behind_b text from k o ma wa to_b c.in_ok-at_b.ensures.read (rw c.b_range.ensures at c.in_ok-b_mode.ensures) c.in_ok-b.ensures.read in
    let b = operand_from c.in_ok-b_mode.b_mode.value c.in_ok-b.b.value in
    let to_call = behind_c text from k o (operand_from ma wa) b to_c c.in_ok-at_c.ensures.read (rw c.c_range.ensures at c.in_ok-c_mode.ensures) (rw c.last_end.ensures at c.in_ok-c.ensures.read) in
    through line_fields (from_call k o (operand_from ma wa) b (operand_from c.in_ok-c_mode.c_mode.value c.in_ok-c.c.value)) text from c.in_ok-c.c.at c.read_call.result to_call
    (rw (c.operand_from-a_read.ensures, c.operand_from-b_read.ensures, c.operand_from-c_read.ensures) at c.read_call.ensures)
