-- By whether the cells are all there.
use mathlib.Core.Path.{◌≡◌, sym}
use Prim.Native.Nat.{◌+◌, ◌-◌, ◌*◌}
use native.Mathlib.Omega.{arith}
use Rattle.judge_lookups.proofs.Seam.{bytes_there, bytes_gone}
use Rattle.judge_lookups.proofs.buffers.part_of.Goals as goal

pub returns-then-count-addr : goal.returns-then-count-addr
returns-then-count-addr c =
    let s = c.args in
    sym (bytes_gone s.bytes.now s.addr s.n (omega (arith, c.if-count-addr.true)))

pub returns-then-count-addr-2 : goal.returns-then-count-addr-2
returns-then-count-addr-2 c =
    let s = c.args in
    sym (bytes_gone s.bytes.now s.addr s.n (omega (arith, c.if-count-addr-2.true)))

pub returns : goal.returns
returns c =
    let s = c.args in
    let lent : 4 * s.addr + 4 * s.n - 4 * s.addr ≡ 4 * s.n = omega arith in
    rw lent (sym (bytes_there s.bytes.now s.addr s.n (omega (arith, c.if-count-addr-2.false, c.if-count-addr.false))))
