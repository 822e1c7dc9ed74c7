-- The invariant: n is the number of finds of the first r rows.
use mathlib.Core.Path.{◌≡◌, refl}
use mathlib.Core.Bool.{cond}
use mathlib.Core.List.{[]}
use native.Mathlib.Omega.{arith}
use Prim.Native.Nat.{ℕ, ◌-◌, ◌/◌}
use lib.ListN.{length}
use Rattle.rules.specs.Sizes.{given, tables}
use Rattle.rules.proofs.Totals.{one_more}
use Rattle.range_spec.specs.Finds.{found_at, finds_number}
use Rattle.range.proofs.walk.AcceptedRows.count_finds.Goals as goal
use Rattle.range.proofs.walk.AcceptedRows.count_finds.Goals.{then-found_at, else-found_at}

pub loop-r-init : goal.loop-r-init
loop-r-init c = (omega arith, refl)

pub loop-r-preserved : goal.loop-r-preserved
loop-r-preserved c =
    let rows = c.args.self.now.rows in
    let l = c.loop-r in
    let counts : ℕ → ℕ = λ r. cond (found_at (given rows.program.now []) (tables rows.exec.now []) r) 1 0 in
    let found = c.found_at in
    let more = one_more counts l.r in
    elim c.if-found_at.branch [
      | then-found_at w ↦
          let e : counts l.r ≡ 1 = rw (← found.ensures, w.if-found_at.true) in
          (omega arith, omega (arith, more, l.invariant.1))
      | else-found_at w ↦
          let e : counts l.r ≡ 0 = rw (← found.ensures, w.if-found_at.false) in
          (omega arith, omega (arith, more, l.invariant.1))
    ]

pub returns : goal.returns
unfolding finds_number
returns c =
    let l = c.loop-r in
    let e : l.r ≡ length c.args.self.now.rows.exec.now / 32 - 2 = omega arith in
    (rw e at l.invariant.1, omega (arith, c.args.self.now.short))
