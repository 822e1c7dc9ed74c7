-- `decimal::ended_digits` meets its contract. The invariant: the digits that are left, and then those that stand, are
-- all; and where any stands, some are left.
use Prim.Native.Nat.{suc, ◌-◌, ◌%◌, ◌<◌}
use mathlib.Core.Path.{◌≡◌, refl, sym, ◌∙◌}
use native.Mathlib.Omega.{arith}
use lib.ListN.{length, set, length-set}
use Rattle.lines.specs.Line.{digit}
use Rattle.lines.proofs.Numbers.{digit_more, digit_last, digits_stand, power_left}
use Rattle.lines.proofs.decimal.ended_digits.Goals as goal

pub loop-i-init : goal.loop-i-init
loop-i-init c = (λ h. absurd (omega arith), omega arith, omega arith, refl)

pub loop-i-preserved : goal.loop-i-preserved
loop-i-preserved c =
    let l = c.loop-i in
    let e : l.i ≡ suc (l.i - 1) = omega arith in
    let more : 9 < l.rest = omega arith in
    let left = power_left (l.i - 1) l.rest more (rw e at l.invariant.1) in (
      λ h. omega arith,
      left.1,
      simp length-set l.invariant.2,
      l.invariant.3 ∙ (rw (← e) at (digit_more l.bytes (l.i - 1) l.rest (omega arith) more)),
    )

pub returns-then-rest-lt10 : goal.returns-then-rest-lt10
returns-then-rest-lt10 c =
    let l = c.loop-i in
    let e : l.i ≡ suc (l.i - 1) = omega arith in
    let last : l.rest % 10 ≡ l.rest = omega arith in
    let stored = set l.bytes (l.i - 1) (digit l.rest) in
    let long : 21 ≡ length stored = sym (simp length-set l.invariant.2) in
    rw last
    (digits_stand stored (l.i - 1) long (sym (l.invariant.3 ∙ (rw (← e) at (digit_last l.bytes (l.i - 1) l.rest (omega arith) (omega arith))))))

pub returns : goal.returns
returns c =
    let l = c.loop-i in
    let none : l.i ≡ 0 = omega arith in
    absurd (omega (arith, l.invariant.0 (omega arith), rw none at l.invariant.1))
