-- `put_counter` meets its contract: nothing, or the name and then the number's line.
use native.Mathlib.Omega.{arith}
use borrow.Author.Rules.{rules}
use Rattle.lines.proofs.Putting.{put_none, put_next}
use Rattle.grid_report.proofs.Counters.{zero_line, its_line, its_length}
use Rattle.grid_report.proofs.put_counter.Goals as goal

pub returns-then-number-eq0 : goal.returns-then-number-eq0
returns-then-number-eq0 c = rw (zero_line c.args.grid.now c.args.k c.if-number-eq0.true) (put_none c.args.out.now)

pub put_name-requires : goal.put_name-requires
put_name-requires c = (search rules, omega (arith, its_length c.args.grid.now c.args.k c.if-number-eq0.false))

pub put_line-requires : goal.put_line-requires
put_line-requires c = omega (arith, its_length c.args.grid.now c.args.k c.if-number-eq0.false)

pub returns : goal.returns
returns c =
    let line = its_line c.args.grid.now c.args.k c.if-number-eq0.false in
    rw line (put_next (rw line at c.requires.1) c.put_name.ensures c.put_line.ensures)
