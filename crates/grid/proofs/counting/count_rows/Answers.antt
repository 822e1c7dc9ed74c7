-- `grid::counting::count_rows` meets its contract: the counters after r rows, and after those of one pc.
use borrow.Author.Rules.{rules}
use mathlib.Core.Path.{◌≡◌, sym}
use mathlib.Core.List.{[]}
use Prim.Native.Nat.{◌/◌}
use native.Mathlib.Omega.{arith}
use lib.ListN.{length}
use Rattle.rules.specs.Sizes.{given, tables}
use Rattle.grid_spec.proofs.Counts.{is_counted}
use Rattle.grid.proofs.RowForms.{room, counted_on}
use Rattle.grid.proofs.counting.count_rows.Goals as goal

pub loop-r-init : goal.loop-r-init
loop-r-init c = (omega arith, (search rules, λ k h. omega arith))

pub add_rows-requires : goal.add_rows-requires
add_rows-requires c =
    let rows = c.args.rows.now in
    let l = c.loop-r in
    let end = c.same_to-end in
    let k = c.counter_at.ensures in (
      k.1,
      rw k.0
          (room rows.program.now rows.exec.now l.r end.result end.ensures.0 end.ensures.2 c.args.grid.now l.grid l.invariant.1
          (omega (arith, c.requires, end.ensures.1)) (rw (sym k.0) k.1)),
    )

pub loop-r-preserved : goal.loop-r-preserved
loop-r-preserved c =
    let rows = c.args.rows.now in
    let l = c.loop-r in
    let end = c.same_to-end in
    let k = c.counter_at.ensures in (
      end.ensures.1,
      rw (c.add_rows.ensures, k.0)
          (counted_on rows.program.now rows.exec.now l.r end.result end.ensures.0 end.ensures.2 c.args.grid.now l.grid
          l.invariant.1 (rw (sym k.0) k.1)),
    )

pub returns : goal.returns
returns c =
    let rows = c.args.rows.now in
    let l = c.loop-r in
    let e : l.r ≡ length rows.exec.now / 32 = omega arith in
    is_counted (given rows.program.now []) (tables rows.exec.now []) c.args.grid.now l.grid l.invariant.1.0 (rw e at l.invariant.1.1)
