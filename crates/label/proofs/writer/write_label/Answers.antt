-- `writer::write_label` meets its contract: each answer has its law, and the length is the one that `label_length`
-- gives.
use Rattle.label.proofs.Writing.{kept_parts, outside, short, enough}
use mathlib.Core.Path.{refl, sym, ◌∙◌}
use Rattle.lines.proofs.Putting.{put_front}
use native.Mathlib.Omega.{arith}
use Rattle.label.proofs.writer.write_label.Goals as goal

pub returns-then-not-in_range : goal.returns-then-not-in_range
returns-then-not-in_range c =
    let s = c.args in
    let ends = kept_parts s.recipe s.buffer.now (outside s.recipe s.buffer.now (sym c.in_range.ensures ∙ c.if-not-in_range.true)) in record {
      value = ends.0;
      length_written = ends.1;
      buffer_after = ends.2;
    }

pub label_length-size-requires : goal.label_length-size-requires
label_length-size-requires c = sym c.in_range.ensures ∙ c.if-not-in_range.false

pub returns-then-buffer-size : goal.returns-then-buffer-size
returns-then-buffer-size c =
    let s = c.args in
    let inside = sym c.in_range.ensures ∙ c.if-not-in_range.false in
    let size = c.label_length-size.ensures.0 in
    let ends = kept_parts s.recipe s.buffer.now (short s.recipe s.buffer.now inside (rw size at c.if-buffer-size.true)) in record {
      value = rw size ends.0;
      length_written = ends.1;
      buffer_after = ends.2;
    }

pub returns : goal.returns
returns c =
    let s = c.args in
    let inside = sym c.in_range.ensures ∙ c.if-not-in_range.false in
    let size = c.label_length-size.ensures.0 in
    let ends = kept_parts s.recipe s.buffer.now (enough s.recipe s.buffer.now inside (rw size at c.if-buffer-size.false)) in
    let front = put_front refl c.fill.ensures in
    let same = sym c.fill.ensures.same in record {
      value = ends.0;
      length_written = rw size ends.1;
      buffer_after = grind (arith, front, same, ends.2);
    }
