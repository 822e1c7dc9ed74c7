-- `needed` meets its contract. The invariant: the size is that of the lines below k.
use mathlib.Core.Path.{◌≡◌, refl}
use native.Mathlib.Omega.{arith}
use borrow.Author.Rules.{rules}
use Rattle.word.specs.Bytes.{concatenated}
use Rattle.grid_spec.specs.Report.{report_of}
use Rattle.grid_report.proofs.Counters.{next_length, counter_most, longest}
use Rattle.grid_report.proofs.needed.Goals as goal

pub loop-k-init : goal.loop-k-init
unfolding concatenated
loop-k-init c = (refl, omega arith, refl)

pub put_counter-requires : goal.put_counter-requires
put_counter-requires c = (search rules, omega (arith, counter_most c.args.grid.now c.loop-k.k (search rules)))

pub overflow_add-size : goal.overflow_add-size
overflow_add-size c = omega (arith, counter_most c.args.grid.now c.loop-k.k (search rules))

pub loop-k-preserved : goal.loop-k-preserved
loop-k-preserved c =
    let l = c.loop-k in
    let g = c.args.grid.now in (
      search rules,
      omega (arith, counter_most g l.k (search rules)),
      omega (arith, next_length g l.k),
    )

pub returns : goal.returns
unfolding report_of
returns c =
    let l = c.loop-k in
    let g = c.args.grid.now in
    let e : l.k ≡ 135 = omega arith in
    (rw e at l.invariant.2, omega (arith, longest g, rw e at l.invariant.2))
