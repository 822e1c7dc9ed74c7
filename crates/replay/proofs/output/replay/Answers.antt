-- `output::replay` meets its contract: the six lines alone, or the label and then the six lines.
use Rattle.std.proofs.Common.{rules, refl}
use Rattle.answer.proofs.Named.{refusal_not_accepted}
use Rattle.program_build.proofs.Output.{inside}
use Rattle.replay.proofs.Printing.{bad_label, label_given, lines_fit, good_label}
use Rattle.replay.proofs.output.replay.Goals as goal

pub unwrap-length-requires : goal.unwrap-length-requires
unwrap-length-requires c =
    label_given c.args.text.now c.args.out.now _ c.in-Ok.ensures refl (search rules) _ c.write_label.ensures.value

pub answer_to-requires : goal.answer_to-requires
answer_to-requires c = inside c.args.text.now _ c.in-Ok.ensures refl

pub put_answer-requires : goal.put_answer-requires
put_answer-requires c =
    let w = c.write_label.ensures in
    lines_fit c.args.text.now c.args.out.now _ c.in-Ok.ensures refl (search rules)
    (rw c.unwrap-length.ensures at w.length_written) w.buffer_after

pub returns-in-Ok : goal.returns-in-Ok
returns-in-Ok c =
    let w = c.write_label.ensures in
    good_label c.args.text.now c.args.out.now _ c.in-Ok.ensures refl (search rules)
    (rw c.unwrap-length.ensures at w.length_written) w.buffer_after (rw c.answer_to.ensures at c.put_answer.ensures)

pub returns-in-Err : goal.returns-in-Err
returns-in-Err c =
    bad_label c.args.text.now c.args.out.now _ c.in-Err.ensures (refusal_not_accepted c.in-Err.refusal) c.put_answer-in-Err.ensures
