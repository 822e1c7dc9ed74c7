-- `put_lines` meets its contract. The invariant: the lines below k stand one behind the other.
use mathlib.Core.Path.{◌≡◌}
use native.Mathlib.Omega.{arith}
use borrow.Author.Rules.{rules}
use lib.ListN.{length-append}
use Rattle.word.specs.Bytes.{concatenated}
use Rattle.word.proofs.Concatenated.{parts_one}
use Rattle.lines.proofs.Putting.{put_none, put_next}
use Rattle.grid_spec.specs.Report.{line_at, report_of}
use Rattle.grid_report.proofs.Counters.{lines_to, room}
use Rattle.grid_report.proofs.put_lines.Goals as goal

pub loop-k-init : goal.loop-k-init
unfolding concatenated
loop-k-init c = put_none c.args.out.now

pub put_counter-requires : goal.put_counter-requires
put_counter-requires c = (search rules, omega (arith, room c.args.grid.now c.loop-k.k (search rules)))

pub loop-k-preserved : goal.loop-k-preserved
loop-k-preserved c =
    let l = c.loop-k in
    let g = c.args.grid.now in
    rw (parts_one (line_at g) l.k)
    (put_next (omega (arith, room g l.k (search rules), length-append (lines_to g l.k) (line_at g l.k))) l.invariant c.put_counter.ensures)

pub returns : goal.returns
unfolding report_of
returns c =
    let e : c.loop-k.k ≡ 135 = omega arith in
    rw e at c.loop-k.invariant
