-- `grid::has_room` meets its contract: what is left of the limit goes down by a counter at a time.
use mathlib.Core.Path.{◌≡◌, sym, ap}
use borrow.Author.Rules.{rules}
use borrow.Author.Tests.{lt-leb, le-leb}
use native.Mathlib.Numerals.{add-one}
use native.Mathlib.Omega.{arith}
use Prim.Native.Nat.{suc, ◌+◌}
use lib.ListN.{take, length}
use lib.Seq.{take_all}
use Rattle.grid_spec.specs.Grid.{sum_of, limit}
use Rattle.grid_spec.proofs.Listed.{sum_next, sum_take}
use Rattle.grid.proofs.has_room.Goals as goal

pub returns-in-None : goal.returns-in-None
returns-in-None c =
    let s = c.args in
    let k = c.loop-x.x-index in
    sym (lt-leb (sum_of s.grid.now + s.rows) limit (omega (arith, c.in-None.ensures, sum_next s.grid.now k, sum_take s.grid.now (suc k))))

pub loop-x-preserved : goal.loop-x-preserved
loop-x-preserved c = let k = c.loop-x.x-index in rw (add-one k, sum_next c.args.grid.now k) (omega (arith, c.in-Some.ensures))

pub returns : goal.returns
returns c =
    let s = c.args in
    let whole : length s.grid.now ≡ 135 = search rules in
    let e : take c.loop-x.x-index s.grid.now ≡ s.grid.now = take_all c.loop-x.x-index s.grid.now (omega arith) in
    sym (le-leb (sum_of s.grid.now + s.rows) limit (omega (arith, ap sum_of e)))
