-- `grid_bytes::read_grid` meets its contract: the counters below k are read.
use borrow.Author.Rules.{rules}
use mathlib.Core.Path.{◌≡◌, sym, ◌∙◌}
use native.Mathlib.Omega.{arith}
use lib.ListN.{length-set}
use lib.Seq.{take_all}
use Rattle.word.specs.Bytes.{concatenated}
use Rattle.grid_bytes.specs.GridBytes.{grid_of}
use Rattle.grid_bytes.proofs.Steps.{read_next}
use Rattle.grid_bytes.proofs.read_grid.Goals as goal

pub loop-k-init : goal.loop-k-init
unfolding concatenated
loop-k-init c = search rules

pub loop-k-preserved : goal.loop-k-preserved
loop-k-preserved c =
    let l = c.loop-k in
    let bytes = c.args.bytes.now in (
      length-set l.grid l.k _ ∙ l.invariant.0,
      rw c.long_inside.ensures (read_next bytes l.grid l.k (omega arith) l.invariant.1),
    )

pub returns : goal.returns
unfolding grid_of
returns c =
    let l = c.loop-k in
    let e : l.k ≡ 135 = omega arith in
    sym (take_all 135 l.grid (omega arith)) ∙ rw e at l.invariant.1
