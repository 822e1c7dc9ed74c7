-- `report` meets its contract: each answer has its law, and the length is the one that `needed` gives.
use Rattle.std.proofs.Common.{rules, arith, refl, sym}
use Rattle.lines.proofs.Putting.{put_front}
use Rattle.grid_report.proofs.Counters.{short, enough}
use Rattle.grid_report.proofs.report.Goals as goal

pub returns-then-text-size : goal.returns-then-text-size
returns-then-text-size c =
    let s = c.args in
    let ends = short s.grid.now s.text.now (search rules) in record {
      value = rw c.needed-size.ensures.0 ends.0;
      written = ends.1;
      text_after = ends.2;
    }

pub returns : goal.returns
returns c =
    let s = c.args in
    let ends = enough s.grid.now s.text.now (search rules) in
    let front = put_front refl c.put_lines.ensures in
    let same = sym c.put_lines.ensures.same in record {
      value = ends.0;
      written = rw c.needed-size.ensures.0 ends.1;
      text_after = grind (arith, front, same, ends.2);
    }
