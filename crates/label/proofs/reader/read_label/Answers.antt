-- The text left every valid label, or there is more of it, or it is all read.
use native.Mathlib.Omega.{arith}
use Rattle.label.proofs.Read.{stopped_left, more_left, left_fits, refuses, accepts}
use Rattle.label.proofs.reader.read_label.Goals as goal

pub overflow_cast-read : goal.overflow_cast-read
overflow_cast-read c =
    let text = c.args.text.now in
    let read = c.in-Ok.read in
    omega (arith, left_fits text read.at (more_left text read.at read.value c.if-read-text.true c.in-Ok.ensures.read))

pub returns-then-read-text : goal.returns-then-read-text
returns-then-read-text c =
    let text = c.args.text.now in
    let read = c.in-Ok.read in
    refuses text read.at (more_left text read.at read.value c.if-read-text.true c.in-Ok.ensures.read) c.refused.ensures

pub overflow_cast-stop : goal.overflow_cast-stop
overflow_cast-stop c =
    let text = c.args.text.now in
    let at = c.in-Err.stop.at in
    omega (arith, left_fits text at (stopped_left text at c.in-Err.ensures.inside c.in-Err.ensures.read))

pub returns-else-read-text : goal.returns-else-read-text
returns-else-read-text c =
    let read = c.in-Ok.read in
    accepts c.args.text.now read.at read.value c.if-read-text.false c.in-Ok.ensures.read

pub returns-in-Err : goal.returns-in-Err
returns-in-Err c =
    let text = c.args.text.now in
    let at = c.in-Err.stop.at in
    refuses text at (stopped_left text at c.in-Err.ensures.inside c.in-Err.ensures.read) c.refused-in-Err.ensures
