-- What the label writer gives is replied.
use mathlib.Core.Path.{◌∙◌}
use Rattle.label.proofs.Writing.{answer_taken, length_taken}
use Rattle.test_probe.proofs.probe_write.Goals as goal

pub returns : goal.returns
returns c =
    let is = c.recipe.ensures in
    let done = c.write_label-done in
    let told = c.and.ensures ∙ answer_taken done.result ∙ rw is at done.ensures.value in record {
      value = c.unwrap_or.ensures ∙ length_taken done.result ∙ rw is at done.ensures.length_written;
      answer_after = rw told at c.reply.ensures.1;
      text_after = rw is at done.ensures.buffer_after;
    }
