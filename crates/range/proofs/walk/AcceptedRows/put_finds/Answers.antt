-- The invariant: the finds of the first r rows stand one behind the other.
use mathlib.Core.Path.{◌≡◌}
use mathlib.Core.List.{[]}
use native.Mathlib.Omega.{arith}
use lib.ListN.{length-append}
use Rattle.word.specs.Bytes.{concatenated}
use Rattle.word.proofs.Concatenated.{parts_one}
use Rattle.lines.proofs.Putting.{put_none, put_next}
use Rattle.rules.specs.Sizes.{given, tables}
use Rattle.range_spec.specs.Finds.{find_bytes, finds_below, first_rows, all_finds}
use Rattle.range_finds.proofs.All.{finds_length, finds_all}
use Rattle.range.proofs.Places.{room}
use Rattle.range.proofs.walk.AcceptedRows.put_finds.Goals as goal

pub overflow_mul-end : goal.overflow_mul-end
overflow_mul-end c = omega (arith, c.requires.n_value, c.requires.room, finds_length (given c.args.self.now.rows.program.now []) (tables c.args.self.now.rows.exec.now []))

pub overflow_add-end : goal.overflow_add-end
overflow_add-end c = omega (arith, c.requires.n_value, c.requires.room, finds_length (given c.args.self.now.rows.program.now []) (tables c.args.self.now.rows.exec.now []))

pub loop-r-init : goal.loop-r-init
unfolding concatenated
loop-r-init c = put_none c.args.out.now

pub put_row-requires : goal.put_row-requires
put_row-requires c =
    let rows = c.args.self.now.rows in
    let g = given rows.program.now [] in
    let t = tables rows.exec.now [] in
    record {
      r_in_bounds = omega arith;
      room = omega (arith, c.requires.room, room g t c.loop-r.r (omega arith));
    }

pub loop-r-preserved : goal.loop-r-preserved
loop-r-preserved c =
    let l = c.loop-r in
    let rows = c.args.self.now.rows in
    let g = given rows.program.now [] in
    let t = tables rows.exec.now [] in
    rw (parts_one (find_bytes g t) l.r)
    (put_next (omega (arith, c.requires.room, room g t l.r (omega arith), length-append (finds_below g t l.r) (find_bytes g t l.r))) l.invariant c.put_row.ensures)

pub returns-then-out-end : goal.returns-then-out-end
returns-then-out-end c =
    let l = c.loop-r in
    let rows = c.args.self.now.rows in
    let g = given rows.program.now [] in
    let t = tables rows.exec.now [] in
    let all = finds_all g t l.r (omega arith) (omega (arith, c.requires.n_value)) in
    rw all at l.invariant

pub returns : goal.returns
unfolding all_finds
returns c =
    let e : c.loop-r.r ≡ first_rows (tables c.args.self.now.rows.exec.now []) = omega arith in
    rw e at c.loop-r.invariant
